mod Aligned
mod Entries
mod Placed

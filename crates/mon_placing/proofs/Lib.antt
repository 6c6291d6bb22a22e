mod Addresses
mod Counting
mod Counts
mod Pieces
mod Reading
mod Seats

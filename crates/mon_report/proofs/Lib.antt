pub mod Written
pub mod Loops
pub mod Entries
pub mod Ends
mod Changing
mod Ranges
mod Seen
mod States

pub mod Age
pub mod Command
pub mod Line
pub mod Own
pub mod Report
pub mod Saved
pub mod Steps

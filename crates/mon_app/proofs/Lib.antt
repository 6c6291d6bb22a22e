pub mod Counting
pub mod Lines
pub mod Outcomes
pub mod Readings
pub mod Search
pub mod Windows

pub mod Added
pub mod Clashes
pub mod Lines
pub mod Missing
pub mod Stations
pub mod Statuses
pub mod Steps

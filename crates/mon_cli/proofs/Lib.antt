pub mod Adding
pub mod Commands
pub mod Reading
pub mod Simple
pub mod Walked
pub mod Within

pub mod Answered
pub mod Shown

pub mod Fault
pub mod Image
pub mod Kept
pub mod Reading
pub mod Restored
pub mod Written

pub mod Back
pub mod Fills
pub mod Images
pub mod Loops
pub mod Moved
pub mod Promised
pub mod Shared

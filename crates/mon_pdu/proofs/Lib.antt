pub mod Around
pub mod Messages
pub mod Whole
pub mod Frames
pub mod Lengths
pub mod Spelled
pub mod Shortest
pub mod Sizes

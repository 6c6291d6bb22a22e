pub mod Fields
pub mod Loops
pub mod OneByOne
pub mod Promised
pub mod Samples

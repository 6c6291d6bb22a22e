pub mod Clock
pub mod Sound
pub mod Kept

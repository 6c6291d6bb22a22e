pub mod Oldest
pub mod Streams
pub mod Swept

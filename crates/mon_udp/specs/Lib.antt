pub mod Addr
pub mod Bound
pub mod Counts
pub mod Told
pub mod Wait

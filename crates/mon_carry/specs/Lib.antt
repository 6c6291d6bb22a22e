pub mod Carried
pub mod Fault
pub mod Files

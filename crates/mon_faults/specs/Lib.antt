pub mod Fault
pub mod LineColumn
pub mod Unknown

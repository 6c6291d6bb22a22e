pub mod Fault
pub mod Sequence
pub mod Numbers
pub mod Grammar
pub mod Reading
pub mod Many
pub mod Writing
pub mod Memory

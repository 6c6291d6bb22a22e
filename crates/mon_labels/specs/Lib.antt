pub mod Key
pub mod Fault
pub mod Table
pub mod Described
pub mod Reading
pub mod Given

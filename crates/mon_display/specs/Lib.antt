pub mod Rate
pub mod Interface
pub mod Visible
pub mod Naming

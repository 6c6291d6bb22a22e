pub mod Front
pub mod Scan
pub mod Response
pub mod Request
pub mod Target

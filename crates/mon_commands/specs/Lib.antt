pub mod Agent
pub mod Client
pub mod Mib
pub mod Query
pub mod Rehearsing
pub mod Replaying
pub mod Serving
pub mod Walking

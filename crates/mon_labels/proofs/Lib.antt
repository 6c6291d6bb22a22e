pub mod Each
pub mod Entries
pub mod Handed
pub mod KeyNames

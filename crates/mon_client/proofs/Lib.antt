pub mod Askings
pub mod Meanings
pub mod Walks

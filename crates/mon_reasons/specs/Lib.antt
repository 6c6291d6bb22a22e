pub mod NewestDatagrams
pub mod Reason
pub mod Words

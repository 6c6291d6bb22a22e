pub mod Texts
pub mod Pages
pub mod Slot
pub mod Response
pub mod Stream
pub mod Client
pub mod Acceptor

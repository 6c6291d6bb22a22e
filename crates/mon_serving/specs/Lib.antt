pub mod AtPort
pub mod AtSocket
pub mod Network
pub mod Served

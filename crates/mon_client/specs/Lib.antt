pub mod Asking
pub mod AtSocket
pub mod AtWire
pub mod Meaning
pub mod Network
pub mod Printed
pub mod Question
pub mod Walk

pub mod Machines
pub mod Network
pub mod Placing

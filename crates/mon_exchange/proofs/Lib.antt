pub mod Above
pub mod Claims
pub mod Faults
pub mod Noting
pub mod Parts
pub mod Pieces
pub mod Said
pub mod Slots

pub mod Dotted
pub mod Extended
pub mod Order
pub mod Split

pub mod Rows
pub mod Cells
pub mod Order
pub mod Table

pub mod Cells
pub mod Comments
pub mod Pieces
pub mod Steps
pub mod Stops
pub mod Updates
pub mod Verdicts
pub mod Zips

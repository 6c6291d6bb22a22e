pub mod Arrays
pub mod Depths
pub mod Entries
pub mod Families
pub mod Fresh
pub mod Labels
pub mod LastDot
pub mod NoFloats
pub mod Plain
pub mod Pushed
pub mod Samples
pub mod Sound
pub mod Values
mod LabelTexts
mod Series

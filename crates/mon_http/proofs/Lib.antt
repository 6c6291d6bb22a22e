pub mod Fronts
pub mod Verdicts
pub mod Talks
pub mod Grammar
pub mod Accepts

pub mod Verdict
pub mod News
pub mod Exchange
pub mod Plan
pub mod Courier
pub mod Turn
pub mod History

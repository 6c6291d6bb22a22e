pub mod AtStream
pub mod Asking
pub mod Health
pub mod Trouble

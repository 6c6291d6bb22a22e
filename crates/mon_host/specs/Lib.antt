pub mod AtHost
pub mod Level
pub mod Log
pub mod Reason
pub mod Recorded
pub mod Then

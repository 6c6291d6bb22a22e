pub mod Decided
pub mod Deciding
pub mod Distinct
pub mod Exclusive
pub mod Passing
pub mod Subtrees

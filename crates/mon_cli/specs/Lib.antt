pub mod Choice
pub mod Line
pub mod Table
pub mod Program
pub mod Invocation
pub mod SortWord

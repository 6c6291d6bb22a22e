pub mod Cuts
pub mod Made
pub mod Numbers
pub mod Said
pub mod Scripts
pub mod Texts

mod Ages
pub mod Promised
mod Rereads
mod Ways

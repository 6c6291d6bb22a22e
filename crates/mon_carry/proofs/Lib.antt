mod Alike
mod Images
mod Places
mod Stops
mod Sums
mod Turns

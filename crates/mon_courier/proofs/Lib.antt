mod Fits
mod Stepping
mod Turning
mod Fates
mod Kept

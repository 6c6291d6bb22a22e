mod Digits
mod Likes
mod Steps

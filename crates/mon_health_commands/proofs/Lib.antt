mod Steps
mod Streaming

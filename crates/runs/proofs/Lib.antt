mod Words
mod Steps
mod Replayed

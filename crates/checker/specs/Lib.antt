pub mod Refusals
pub mod Session
pub mod Checks
pub mod Calls
pub mod Did
pub mod Replay
pub mod Views

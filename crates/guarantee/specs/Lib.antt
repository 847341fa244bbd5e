pub mod Histories
pub mod Accepted
pub mod Promises

pub mod Numbered
pub mod Options
pub mod Bounds
pub mod Places
pub mod Combined
pub mod RowFacts
mod Saturated

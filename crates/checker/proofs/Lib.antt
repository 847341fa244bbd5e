pub mod Woken
pub mod Refusing
mod Stepping
pub mod Looking
mod Retold

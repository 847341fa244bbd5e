pub mod Bounded
pub mod Stacks
pub mod Points

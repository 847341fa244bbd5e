pub mod Sets
pub mod Puts
pub mod Rings
pub mod Members

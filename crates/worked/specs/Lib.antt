pub mod Smallest
pub mod Performed
pub mod Rows

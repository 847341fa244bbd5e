pub mod Pushdown
pub mod Automaton
pub mod Limits
pub mod Layout
pub mod Rows
pub mod Edges

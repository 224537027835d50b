pub mod Domination
pub mod Lexicographic
pub mod Lookup
pub mod Sets

pub mod Lexicographic
pub mod Objectives
pub mod Paths
pub mod Problems
pub mod Sets

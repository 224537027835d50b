pub mod Complete
pub mod Growing
pub mod Grown
pub mod Sourced

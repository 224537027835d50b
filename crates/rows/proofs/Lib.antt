pub mod Checks
pub mod Counts
pub mod Filter
pub mod Sources

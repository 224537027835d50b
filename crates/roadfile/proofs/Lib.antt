pub mod Faith
pub mod Filling
pub mod Numbers
pub mod Outcome
pub mod Progress
pub mod Records
pub mod Unique

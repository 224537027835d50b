pub mod Faults
pub mod Format
pub mod Kinds
pub mod Loading
pub mod Outcome
pub mod Reading
pub mod Runs

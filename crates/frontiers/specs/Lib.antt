pub mod Frontiers
pub mod Sound
pub mod Links

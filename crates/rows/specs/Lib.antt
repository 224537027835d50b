pub mod Places
pub mod Sound
pub mod Trails

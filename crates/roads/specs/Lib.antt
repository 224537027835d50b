pub mod Drafts
pub mod Faults
pub mod Networks
pub mod Tables

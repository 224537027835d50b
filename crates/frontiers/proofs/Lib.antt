pub mod Appends
pub mod Begins
pub mod Links
pub mod Offers
pub mod Renewals
pub mod Sound
pub mod Steps
pub mod Walks

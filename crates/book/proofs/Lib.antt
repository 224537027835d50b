pub mod Entering
pub mod Kept
pub mod Sheets

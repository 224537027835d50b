pub mod Loaded
pub mod OneRecord
pub mod Sheets
pub mod Texts
pub mod Told

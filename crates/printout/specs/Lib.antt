pub mod Faults
pub mod Record
pub mod Sheets

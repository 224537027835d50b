pub mod Reading
pub mod Record

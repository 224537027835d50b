pub mod Building
pub mod Calls
pub mod Network
pub mod Table

pub mod BestRows
pub mod Ends
pub mod Lexmins
pub mod Lists
pub mod Values

pub mod Line
pub mod Lookup
pub mod Good
pub mod Ranges
pub mod Text
pub mod Show
pub mod Scan

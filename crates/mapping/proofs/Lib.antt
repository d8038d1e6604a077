pub mod Kept
pub mod Settings
pub mod Writes
pub mod Reading

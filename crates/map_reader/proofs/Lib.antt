pub mod Scans
pub mod Same
pub mod ReadOnce
pub mod Texts

pub mod Tables
pub mod Finding
pub mod Filling
pub mod Lines
pub mod Promises
pub mod ReadAfterStore

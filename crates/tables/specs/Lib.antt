pub mod Tables
pub mod Find
pub mod Reply

pub mod Filled
pub mod GroupLists

pub mod Entry
pub mod OneResponse

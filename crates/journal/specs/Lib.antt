pub mod Numbers
pub mod Layout
pub mod Journal
pub mod Reading
pub mod Laws

pub mod Translations
pub mod Capability

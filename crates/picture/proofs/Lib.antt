pub mod Cuts
pub mod Sayings
pub mod Layouts
pub mod Responses

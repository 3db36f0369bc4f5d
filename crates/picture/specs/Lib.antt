pub mod Finds
pub mod Lines
pub mod Requests
pub mod Pictures
pub mod Responses

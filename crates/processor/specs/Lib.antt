pub mod Faults
pub mod Steps
pub mod Tokens
pub mod Events

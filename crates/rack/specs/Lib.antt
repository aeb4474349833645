pub mod Words
pub mod Faults
pub mod Machine
pub mod Tokens

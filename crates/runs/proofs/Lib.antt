pub mod Edges
pub mod Rights
pub mod Takes
pub mod Keeps

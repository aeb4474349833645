pub mod Pieces
pub mod Format
pub mod Faults
pub mod Parse
pub mod Printing
pub mod Running
pub mod Laws

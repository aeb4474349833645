mod Cuts
mod Lines
mod Laws
mod Sizes

pub mod Picks
pub mod Bitwise
pub mod Withdrawals
pub mod Balances
pub mod Refusing
pub mod Numbers

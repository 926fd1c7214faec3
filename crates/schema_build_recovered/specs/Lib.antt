pub mod Lent
pub mod Places
pub mod Recovered
pub mod Refusals

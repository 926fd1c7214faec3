pub mod AddsValue
pub mod Members
pub mod Places

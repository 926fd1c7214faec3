pub mod Places
pub mod Misfits
pub mod Reasons
pub mod FirstMisfit
pub mod FirstReason

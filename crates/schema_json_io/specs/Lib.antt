pub mod Faults
pub mod Advice
pub mod Texts
pub mod Causes

pub mod Roles
pub mod Homes
pub mod Duties
pub mod Trace
pub mod Names
pub mod Behind

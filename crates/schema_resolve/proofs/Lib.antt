mod Equations
mod First
mod Lists
mod Meant
pub mod Told

pub mod Keys
pub mod Computed
pub mod Numbers
pub mod Plain

mod Further
pub mod Names

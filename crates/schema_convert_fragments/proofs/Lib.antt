mod Definitions
pub mod Filtered
mod Lists
mod Moved
mod Reserved
mod StablySorted

pub mod TextMeans
pub mod Inhabited

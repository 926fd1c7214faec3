mod Arms
mod Fronts
mod First
pub mod Meant
mod Gathered
mod Homely
mod Nameless
mod Once
mod Referred

mod Plans
mod Ran
mod Two

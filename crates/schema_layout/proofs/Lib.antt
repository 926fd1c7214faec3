mod Plans
mod Ran

mod Behind
mod OneList
mod Plans
mod Ran
mod Refusals

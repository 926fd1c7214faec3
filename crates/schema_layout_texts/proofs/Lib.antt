mod Stays
mod Refusals

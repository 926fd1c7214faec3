mod Places
mod Meanings
mod Noted
mod Plans
mod Ran

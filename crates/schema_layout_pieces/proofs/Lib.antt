mod Depths
mod Fixed
mod OnePieces
mod ReadBack
mod Sentences
mod Steps
mod Tokens
mod Touching

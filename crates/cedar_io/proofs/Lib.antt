mod Taken
mod Sure
mod TakenBytes
mod Written

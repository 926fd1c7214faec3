mod Asked
mod Tables
mod Told
mod Answered

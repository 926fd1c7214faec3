pub mod Blank
pub mod Bodies
mod ByCharacters
mod Digits
pub mod Ends
pub mod Gone
pub mod LaidOut
mod LastPlaces
mod Lawful
pub mod Longest
mod OneString
mod Pieces
mod Quotation
pub mod Quoted
mod Quoting
mod Sorted
pub mod Standing
pub mod Unique
pub mod Values
pub mod Whole

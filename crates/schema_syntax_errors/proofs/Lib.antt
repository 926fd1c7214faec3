pub mod Helps
mod LastVisible
mod Listing
mod SameKinds
mod SameParseErrors
mod SameTexts

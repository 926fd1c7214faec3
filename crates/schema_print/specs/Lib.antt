pub mod Collisions
pub mod FragmentGroups
pub mod PartTexts
pub mod Printable
pub mod PrintableTests
pub mod PrintedFragments
pub mod RowsOfTexts

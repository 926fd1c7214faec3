pub mod Blocks
pub mod ClosedTypes
pub mod Grouping
pub mod PartsOfEach
pub mod TextualItems
pub mod Printables
pub mod RecordTypes

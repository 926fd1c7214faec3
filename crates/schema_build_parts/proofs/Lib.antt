mod Known
mod KnownParents
mod Moved
mod NoRecords
pub mod Rows

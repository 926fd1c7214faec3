mod OrderlyItems
mod OrderlyRecords
mod Rising

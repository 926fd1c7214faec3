mod Found
mod Depths
mod OneFault
pub mod TreeOrError

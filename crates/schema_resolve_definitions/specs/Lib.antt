pub mod Declarations
pub mod Defined
pub mod Tests

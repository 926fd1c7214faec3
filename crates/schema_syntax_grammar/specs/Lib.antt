pub mod Grammar
pub mod Fault
pub mod Table
pub mod Machine

pub mod Printed
pub mod Resolving
pub mod Printable

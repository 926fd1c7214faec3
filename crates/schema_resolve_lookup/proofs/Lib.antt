mod Builtin
mod Looked
mod Ordered
mod Searched

pub mod Demands
pub mod Order
pub mod Tabled
pub mod Ahead
pub mod EntriesAhead
pub mod NamespaceOrder
pub mod KeyTexts
pub mod EntityKinds
mod FewMembers
pub mod Wholes
pub mod Made
pub mod Saying
pub mod Attributes
pub mod Typed
pub mod Beside
pub mod Objects

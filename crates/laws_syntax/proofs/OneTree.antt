pub mod Members
pub mod Values
pub mod Notes
pub mod Types
pub mod Trees
pub mod TokenPlaces
pub mod OneUserFault
pub mod OneError

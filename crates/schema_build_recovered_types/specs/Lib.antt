pub mod FirstLacks
pub mod RecoveredTypes

pub mod TypeValues
pub mod FragmentValues

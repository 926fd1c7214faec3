pub mod Cut
mod Forms
pub mod Heads
mod FrontOrFault
mod Named
mod Placing

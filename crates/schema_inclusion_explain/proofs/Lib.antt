mod Sought
mod Keyed
mod Steps
mod Walks
mod Membership
mod Reading
mod Ordered
mod Tagged

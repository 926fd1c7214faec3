mod Applied
mod Bare
mod DeclaredActions
mod Fragments
mod Least
mod Lists
mod Made
mod Targets

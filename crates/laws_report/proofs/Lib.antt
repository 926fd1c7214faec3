mod Tidy
mod Lists
mod Values
mod Logs
mod Back

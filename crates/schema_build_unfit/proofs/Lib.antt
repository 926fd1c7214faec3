mod Least
mod Misnamed

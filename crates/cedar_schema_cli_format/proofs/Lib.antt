mod Carried
mod ChangeParts
mod Outcomes
mod Replaced
mod Taken

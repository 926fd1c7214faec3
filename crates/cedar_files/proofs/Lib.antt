mod Replaced

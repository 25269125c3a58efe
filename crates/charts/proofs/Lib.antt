mod Weighing
mod Found
mod Listed

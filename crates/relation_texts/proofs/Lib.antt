mod Splits
mod Columns
mod Judging
mod Exact
mod WrittenLines
mod Stopping

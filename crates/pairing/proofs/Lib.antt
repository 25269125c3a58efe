mod Paired
mod Counting
mod Steps
mod Reach
mod Ends
mod Decides

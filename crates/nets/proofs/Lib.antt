mod Fires
mod Copies

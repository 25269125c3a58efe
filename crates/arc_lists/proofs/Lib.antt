mod Steps
mod Examples

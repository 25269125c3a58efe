mod Steps
mod Back

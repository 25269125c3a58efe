pub mod Lines
pub mod Words
pub mod Laws
pub mod Parting
pub mod Parts
pub mod Cursors
pub mod Counts
pub mod Listing

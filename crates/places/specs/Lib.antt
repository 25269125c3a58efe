pub mod Bags
pub mod Sets
pub mod Tables
pub mod Meanings
pub mod Refusals
pub mod Sides
pub mod Lists
pub mod Laws

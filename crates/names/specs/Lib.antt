pub mod Names
pub mod Numbers
pub mod Meanings
pub mod Written
pub mod Laws

pub mod ShortLists
pub mod PlaceLists
pub mod Relating
pub mod Results
pub mod Search
pub mod Entries

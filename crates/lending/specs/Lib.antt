pub mod Sizes
pub mod Lists
pub mod Parts

pub mod Promises
pub mod Settings
pub mod History
pub mod Steps
pub mod Differ

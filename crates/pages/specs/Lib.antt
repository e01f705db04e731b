-- What taking a page gives.
pub mod Taken

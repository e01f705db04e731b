-- The lines of two memories, told one by one.
pub mod Cursors
pub mod Telling

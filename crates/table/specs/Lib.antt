-- The table of worked sums, computed, and the rows that refute wrong models.
pub mod Program
pub mod Script
pub mod Rows
pub mod Refuting
pub mod Told
pub mod Bursts
pub mod Namesakes
pub mod Settings
pub mod Above
pub mod Differ

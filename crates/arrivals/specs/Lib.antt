-- A burst as the pairs that its list holds.
pub mod Pairs

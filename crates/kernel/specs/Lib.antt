-- What the contracts of the calls say by numbers.
pub mod Spoken

-- What the contracts of the entries' reader say.
pub mod Entries

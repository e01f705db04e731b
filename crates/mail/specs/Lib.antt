-- What a part of a step leaves.
pub mod Head

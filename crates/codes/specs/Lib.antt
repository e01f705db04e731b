-- What a contract of code 13 cites beside the model.
pub mod Sum
pub mod Target

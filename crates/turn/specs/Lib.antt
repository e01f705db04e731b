-- What a contract of the turn cites beside the model.
pub mod Leading

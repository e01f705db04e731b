-- What contracts cite beside the model: an instruction with what it is given, and what three codes order.
pub mod Given
pub mod Orders

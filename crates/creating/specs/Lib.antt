-- What contracts cite beside the model.
pub mod Ordered

-- How an answer is one number, for hosts in C.
pub mod Encoded

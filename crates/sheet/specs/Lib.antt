-- What the words of a command line build, with examples; and what is shown of a block.
pub mod Words
pub mod Reading
pub mod Examples
pub mod Rows

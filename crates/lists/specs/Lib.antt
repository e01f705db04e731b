-- What the code of the judge names beyond the model: a rule at a memory's lists; the pages seen in lists.
pub mod Heads
pub mod Seen

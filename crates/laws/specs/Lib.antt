-- What follows from the model.
-- Counting, chains, what a rule says
pub mod Count
pub mod Chain
pub mod Queues
pub mod Rules
pub mod Sentences
pub mod Tells
-- Words of 8 bits, on any memory
pub mod Words
-- The tests of each instruction, and its ways out
pub mod Ways
-- Which cells head a list, and that no page has two uses
pub mod Heads
pub mod Uses
pub mod Met
pub mod Places
pub mod Members
-- The invariant, and that the judge says the same
pub mod Inv
pub mod Accepted
pub mod Judged
-- What is told of a memory that it refuses
pub mod Cleared
pub mod Clears
pub mod Exactly
pub mod Addresses
pub mod Findings
-- Stores: what they leave, what the memory then holds, which sentences stay
pub mod Frames
pub mod Views
pub mod Stores
pub mod JoinLeave
pub mod Changes
-- The steps: wake, wait, take and give pages, deliver, create, delete, who runs
pub mod Wake
pub mod Waits
pub mod Hands
pub mod Grants
pub mod Post
pub mod Aside
pub mod Grow
pub mod Shrink
pub mod Leave
pub mod Marking
pub mod Who
-- How calls end; a fresh start; the instructions and interrupts
pub mod Ends
pub mod Start
pub mod Simple
pub mod Mails
pub mod Interrupts
pub mod Create
pub mod Delete
-- A fresh start from settings: what a good file says, one entry, all of them
pub mod Fits
pub mod Made
pub mod Settle
-- Any instruction; the calls
pub mod Each
pub mod Run
pub mod InstructionWords
pub mod Pairs
pub mod Kinds
pub mod Calls
-- What the promises cite
pub mod Refusals
pub mod Numbers
pub mod Files
pub mod Bursts
pub mod Faulty
pub mod Above
pub mod Unmoved
pub mod Turns
pub mod UsedOnce
pub mod ListSteps
pub mod Witness
-- Which words differ, of two memories
pub mod Differing
pub mod Swapped
pub mod Renaming
pub mod Seated
pub mod Renamings

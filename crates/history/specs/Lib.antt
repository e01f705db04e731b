-- What is put to a processor and what it reads, over any run of calls.
-- The order that is kept, a message, what a call puts and reads
pub mod Order
pub mod Letter
pub mod Put
pub mod Ways
-- What leaves mail alone: steps, how a call ends, interrupts, the instructions without mail
pub mod Calm
pub mod Told
pub mod Traced
pub mod Clocks
pub mod Quiet
-- SME
pub mod Taking
pub mod Copied
pub mod Delivering
pub mod Sending
-- WNM and TME
pub mod Moving
pub mod Tests
-- RME
pub mod Reading
pub mod Went
pub mod Written
-- CRP
pub mod Making
-- DEP
pub mod Returning
pub mod Emptying
pub mod Leaving
pub mod Marking
pub mod Settling
pub mod Deleting
-- The instruction as a whole, the other calls
pub mod Whole
pub mod Others
-- The run, and what follows
pub mod Begin
pub mod Lives
pub mod Senders
pub mod Said
pub mod Highest
pub mod Example
pub mod Compared

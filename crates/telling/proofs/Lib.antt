pub mod Parts
pub mod Walking
pub mod Lows
pub mod Chains
pub mod Asking
pub mod Digits
pub mod Meeting
pub mod InOrder

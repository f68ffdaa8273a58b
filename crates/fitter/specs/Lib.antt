-- ---- document 01, in its order: what is asked; recovery, the shelf's share and the starts; the ten rules; attempts
-- and selection
pub mod Asking
pub mod Recovering
pub mod Shares
pub mod StartTables
pub mod Starts
pub mod Validation
pub mod Runs
pub mod Surveys
pub mod Judging
pub mod Attempting
pub mod Attempts
pub mod Selection
-- ---- what theorems speak of
pub mod Outcomes
pub mod Kept
pub mod Candidates
-- ---- for the code alone: how it comes to these answers
pub mod InTurn
pub mod Columns
pub mod Retrying
pub mod Settling
pub mod Turns

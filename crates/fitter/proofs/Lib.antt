-- Laws of this layer.
-- ---- the window
-- ---- recovery and the shelf share
pub mod Recovered
pub mod ShareTests
-- ---- the starts
pub mod Writing
pub mod Joins
pub mod Divided
pub mod Parts
pub mod Pieces
pub mod Answers
pub mod OneTable
pub mod NoShape
-- ---- the validator
pub mod Verdicts
-- ---- the selection
pub mod Replaced
pub mod Lower
pub mod Selecting
pub mod Totals
pub mod Surveyed
pub mod Prices
pub mod Leasts
pub mod Keeping
pub mod Standing
pub mod Judgements
pub mod Settlement
pub mod Cleared
pub mod Attempted
pub mod Answered
pub mod Turned
pub mod Columned
pub mod KeptRuns
pub mod RunFits
pub mod KeptFit
pub mod AnyTable

-- Laws of the search.
pub mod Elements
pub mod Fronts
pub mod Moved
pub mod RowLaws
pub mod RowParts
pub mod SameSimplex
pub mod Blocks
pub mod Centroids
-- ---- the order
pub mod Ordering
pub mod Sorted
-- ---- the spread of the costs
pub mod Costs
-- ---- the iteration
pub mod Widths
pub mod Stands
pub mod PricesKept
pub mod Stepped
pub mod Shrinks
pub mod FirstRows
pub mod Kept
pub mod Ways
-- ---- the run
pub mod Parts
pub mod Turned
pub mod Runs
pub mod Simplexes
pub mod Improves
pub mod OurCost
-- ---- the refusals
pub mod SearchPassed
pub mod ReadyPrices
-- ---- many runs
pub mod Searched
pub mod Begun
pub mod Slices
-- ---- the report
pub mod Reported
pub mod LentBack
pub mod ShortOnes
pub mod ReportSaid
pub mod BestLists
pub mod Reports
pub mod Leasts

-- The cost of a list by what it is worked out of, and what stays as it is when a list is priced. Definitions only.
-- Assumes nothing.
use Rattle.std.specs.Prelude.{◌≡◌, List, length, drop, Float}
use Rattle.search.specs.Prices.{ready_price_of, stands_from}
use Rattle.search.specs.declared.prices.Prices.{Prices}

unfoldable pub price_in : Prices → List Float → Float
price_in p = ready_price_of p.bins.now p.problem p.ready.now (length p.table.now)

-- every price stays, and so does the table from where on it stands as found; it is the same slice that is lent
pub record IsKept (p q : Prices) : Type 0 where
  pub prices : price_in q ≡ price_in p
  pub problem : q.problem ≡ p.problem
  pub stands : drop (stands_from p.problem) q.table.now ≡ drop (stands_from p.problem) p.table.now
  pub lent : q.table.ghost_name ≡ p.table.ghost_name

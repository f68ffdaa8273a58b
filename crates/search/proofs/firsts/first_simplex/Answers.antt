-- `search::firsts::first_simplex` meets its contract. Assumes nothing.
use borrow.Author.Rules.{rules}
use Rattle.search.proofs.SameSimplex.{rows-last}
use Rattle.search.proofs.firsts.first_simplex.Goals as goal

pub returns-clause-rows_after : goal.returns-clause-rows_after
returns-clause-rows_after c = search (rules, rows-last c.first_rows.ensures.same _ c.first_rows.ensures.vertices_after)

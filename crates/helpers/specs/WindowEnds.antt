-- A window end where no bins are taken: document 01's rows 2 and 5. Definitions only. Assumes nothing.
use Rattle.std.specs.Prelude.{ℕ}
use Rattle.meaning.specs.Reply.{Reply, give, chain}
use Rattle.meaning.specs.Rows.{window_tests}

unfoldable pub window_end_of : ℕ → Reply ℕ
window_end_of count = chain (window_tests count) (give count)

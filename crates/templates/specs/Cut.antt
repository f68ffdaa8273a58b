-- Text put into lent bytes from a place on, as far as there is room: what does not fit is cut off. Definitions only.
-- Assumes nothing.
use Rattle.std.specs.Prelude.{ℕ, suc, cond, List, [], ◌∷◌, ltb, length, set}

-- the lent bytes afterwards
unfoldable pub put_at : ℕ → List ℕ → List ℕ → List ℕ
put_at at [] out = out
put_at at (b ∷ text) out = let more = put_at (suc at) text (set out at b) in cond (ltb at (length out)) more out

-- the place behind the text, in so many lent bytes
unfoldable pub end_at : ℕ → List ℕ → ℕ → ℕ
end_at at [] room = at
end_at at (b ∷ text) room = let more = end_at (suc at) text room in cond (ltb at room) more at

-- What a lent buffer holds once something is written into its front: what was written, and the rest as it was.
-- Definitions only. Assumes nothing.
use Rattle.std.specs.Prelude.{List, ◌++◌, length, drop}

unfoldable pub over : {A : Type 0} → List A → List A → List A
over xs b = xs ++ drop (length xs) b

-- A text with something before and after it.
use Rattle.std.specs.Prelude.{ℕ, List, ◌++◌}

-- a text with something before and after it
unfoldable pub between : List ℕ → List ℕ → List ℕ → List ℕ
between before text after = before ++ text ++ after

-- The two relations by which an entry is matched with a cube (theory, section 6).
use Rattle.std.specs.Prelude.{ℕ, Bool, true, false}
use Rattle.list_theory.specs.Values.{fills, alike}

-- exactly: the entry covers the cube; else it may meet it
abbrev pub relation : Bool → ℕ → ℕ → Bool
relation true a b = fills a b
relation false a b = alike a b

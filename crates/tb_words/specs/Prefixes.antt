-- One text as the beginning of another.
use Rattle.std.specs.Prelude.{◌≡◌, ℕ, List, ◌++◌}

-- the second text begins with the first, or is the same
abbrev pub IsPrefix : List ℕ → List ℕ → Type 0
IsPrefix xs ys = (zs : List ℕ) × (xs ++ zs ≡ ys)

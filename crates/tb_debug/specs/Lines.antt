-- Which line begins at an address.
use Rattle.std.specs.Prelude.{ℕ, ◌==◌, if◌then◌else◌, List, [], ◌∷◌, Option, Some, None}

-- the line that begins at an address
abbrev pub line_at : List (ℕ × ℕ) → ℕ → Option ℕ
line_at [] a = None
line_at (s ∷ starts) a = if a == s.1 then Some s.0 else line_at starts a

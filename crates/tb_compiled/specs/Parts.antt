-- The parts of a program that a map lists.
use Rattle.std.specs.Prelude.{ℕ, ◌-◌, List, [], ◌∷◌, ◌++◌, codes}
use Rattle.std.specs.Fmt.{decimal}
use Rattle.tb_compiled.specs.Texts.{end_before}

-- a part of a program: its name, where it begins, how many bytes it takes, and what it costs
pub record Part : Type 0 where
  pub name : List ℕ
  pub at : ℕ
  pub bytes : ℕ
  pub price : ℕ

-- the code of the first of these lines, up to where that of the next one begins, and of the last one up to the line table
abbrev pub first_part : List (ℕ × ℕ) → ℕ → ℕ → ℕ → List Part
first_part [] table n price = []
first_part (s ∷ starts) table n price = record { name = codes "line " ++ decimal n; at = s.1; bytes = end_before table starts - s.1; price = price } ∷ []

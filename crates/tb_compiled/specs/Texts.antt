-- The texts of lines in a PRG file.
use Rattle.std.specs.Prelude.{◌≡◌, ℕ, ◌+◌, ◌-◌, ◌≤◌, List, [], ◌∷◌, length, take, drop}
use Rattle.tb_basic_syntax.specs.Source.{Program}
use Rattle.tb_basic_syntax.specs.Texts.{statement_texts}
use Rattle.tb_prg.specs.Prg.{header}
use Rattle.tb_memmap.specs.Regions.{CODE_START}

-- Texts are in a file byte for byte, one after another, from an offset on and up to another.
pub data TextsStand (file : List ℕ) (to : ℕ) : ℕ → List (List ℕ) → Type 0 where
  none : (from : ℕ) → from ≤ to → TextsStand file to from []
  text : (from place : ℕ) (t : List ℕ) (texts : List (List ℕ)) → from ≤ place → take (length t) (drop place file) ≡ t
      → TextsStand file to (place + length t) texts → TextsStand file to from (t ∷ texts)

-- the offset in a PRG file of the byte of an address from the block's on
abbrev pub offset_of : ℕ → ℕ
offset_of a = length header + (a - CODE_START)

-- where the code before these lines ends: the next of them begins there, or what follows all lines
abbrev pub end_before : ℕ → List (ℕ × ℕ) → ℕ
end_before past [] = past
end_before past (s ∷ starts) = s.1

-- The texts of each line are in its code, from where it begins up to the next one, and the last one's up to `past`.
abbrev pub LinesHoldTexts : List ℕ → ℕ → List (ℕ × ℕ) → Program → Type 0
LinesHoldTexts file past starts [] = Unit {0}
LinesHoldTexts file past [] (line ∷ lines) = ⊥
LinesHoldTexts file past (s ∷ starts) (line ∷ lines) =
    TextsStand file (offset_of (end_before past starts)) (offset_of s.1) (statement_texts line.content) × LinesHoldTexts file past starts lines

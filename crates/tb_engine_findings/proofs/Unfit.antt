-- Patterns that stand for nothing in an empty text.
use Rattle.std.proofs.Common.{◌≡◌, ℕ, ◌<◌, ◌≤◌, false, List, [], ◌∷◌, length, reverse, refl, sym, subst, arith}
use Rattle.std.proofs.lemmas.List.{length-reverse}
use Rattle.tb_engine_findings.specs.Patterns.{fits_end, fits_front}

-- an empty text does not begin with what a pattern stands for
nothing_begins : (pattern text : List ℕ) → 1 ≤ length pattern → length text < 1 → false ≡ fits_front pattern text
nothing_begins [] text long short = grind arith
nothing_begins (sign ∷ signs) [] long short = refl
nothing_begins (sign ∷ signs) (b ∷ bs) long short = grind arith

-- it does not end with that
pub nothing_ends : (pattern text : List ℕ) → 1 ≤ length pattern → length text < 1 → false ≡ fits_end pattern text
nothing_ends pattern text long short =
    nothing_begins (reverse pattern) (reverse text) (subst (λ n. 1 ≤ n) (sym (length-reverse pattern)) long)
    (subst (λ n. n < 1) (sym (length-reverse text)) short)

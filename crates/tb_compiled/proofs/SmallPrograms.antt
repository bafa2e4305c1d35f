-- What a file's program has: short texts, zones after items, lines of a bounded cost.
use Rattle.std.proofs.Common.{◌≡◌, ℕ, ◌+◌, ◌*◌, ◌<◌, ◌≤◌, List, [], ◌∷◌, length, arith, None, sum_by}
use Rattle.std.proofs.lemmas.List.Sums.{sum_by-cons}
use Rattle.std.proofs.lemmas.List.{length-map}
use Rattle.tb_basic_syntax.specs.Source.{Statement, Numbered, Program, numbers, Rises}
use Rattle.tb_basic_meaning.specs.Cost.{statement_cost, cost}
use Rattle.tb_basic_syntax.specs.Texts.{AreShort, HasShortTexts}
use Rattle.tb_basic_syntax.specs.Texts.{statement_texts}
use Rattle.tb_parser.specs.Files.{IsStated, AreStated}
use Rattle.tb_basic_meaning.specs.Spaced.{IsSpaced, AreSpaced}
use Rattle.tb_compiled.proofs.Reading.{Told, stated}

-- ── a small statement ──
pub record IsSmall (c : Statement) : Type 0 where
  pub spaced : IsSpaced c
  pub short : AreShort 256 (statement_texts c)
  pub paid : statement_cost c ≤ 18360

abbrev pub AreSmall : Program → Type 0
AreSmall [] = Unit {0}
AreSmall (line ∷ lines) = IsSmall line.content × AreSmall lines

small_told : (text : List ℕ) (c : Statement) → length text ≤ 255 → Told 256 text c → IsSmall c
small_told text c l t = let p = t.paid in record { spaced = t.spaced; short = t.short (omega (arith, l)); paid = omega (arith, l, p) }

small_stated : (c : Statement) → IsStated c → IsSmall c
small_stated c h = small_told h.text c h.short (stated 256 h.text c None h.states)

-- a program that is read from a file is small
pub are_small : (p : Program) → AreStated p → AreSmall p
are_small [] h = tt
are_small (line ∷ lines) h = (small_stated line.content h.0, are_small lines h.1)

-- ── a small program ──
pub small_spaced : (p : Program) → AreSmall p → AreSpaced p
small_spaced [] h = tt
small_spaced (line ∷ lines) h = (h.0.spaced, small_spaced lines h.1)

-- the texts of a small program are shorter than 256 bytes
pub small_short : (p : Program) → AreSmall p → HasShortTexts 256 p
small_short [] h = tt
small_short (line ∷ lines) h = (h.0.short, small_short lines h.1)

rising_length : (low : ℕ) (ns : List ℕ) → low ≤ 32767 → Rises (low + 1) 32768 ns → length ns + low ≤ 32767
rising_length low [] l h = omega (arith, l)
rising_length low (n ∷ ns) l h = let a = rising_length n ns (omega (arith, h.1)) h.2 in omega (arith, a, h.0)

-- a program has as many numbers as lines
pub count_numbers : {A : Type 0} (p : List (Numbered A)) → length (numbers p) ≡ length p
count_numbers p = length-map p (λ line. line.number)

-- a file has few lines
pub few_lines : (p : Program) → Rises 1 32768 (numbers p) → length p ≤ 32767
few_lines p r = let a = rising_length 0 (numbers p) (omega arith) r in let b = count_numbers p in omega (arith, a, b)

lines_cost : (p : Program) → AreSmall p → sum_by (λ line. 36 + statement_cost line.content) p ≤ 18396 * length p
lines_cost [] h = omega arith
lines_cost (line ∷ lines) h =
    let a = lines_cost lines h.1 in let b = h.0.paid in let c = sum_by-cons (λ line. 36 + statement_cost line.content) line lines in
    omega (arith, a, b, c)

-- a program of a file costs less than 2^32
pub cost_small : (p : Program) → AreSmall p → Rises 1 32768 (numbers p) → cost p < 4294967296
cost_small p h r =
    let a = lines_cost p h in let b = rising_length 0 (numbers p) (omega arith) r in let c : length (numbers p) ≡ length p = length-map p (λ line. line.number) in
    omega (arith, a, b, c)

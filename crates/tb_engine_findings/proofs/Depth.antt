-- The lines of a file that are too deep are those that remain in its program and are too deep there.
use Rattle.std.proofs.Common.{◌≡◌, ℕ, ◌+◌, ◌<◌, ◌≤◌, nat_le, Bool, true, false, ◌&&◌, ◌||◌, ◌==◌, if◌then◌else◌, List, [], ◌∷◌, map, Option, Some, None}
use Rattle.std.proofs.Common.{refl, sym, ap, ◌∙◌, arith, true≢false}
use Rattle.std.specs.Prelude.{nat_lt, not}
use Rattle.std.proofs.lemmas.Bool.Decides.{nat_tests}
use Rattle.std.proofs.lemmas.Bool.{eqb-true}
use Rattle.tb_basic_syntax.specs.Source.{Program, Statement}
use Rattle.tb_basic_meaning.specs.Need.{statement_need}
use Rattle.tb_parser.specs.Files.{line_at, with_line, without_line}
use Rattle.tb_engine_findings.specs.Entries.{Entry, deep_here, deep_of, is_deep, is_one_of, numbered_of}
use Rattle.tb_engine_findings.specs.Lines.{with_entries, with_entry}
use Rattle.tb_engine_findings.specs.Remaining.{remaining, remaining_here}
use Rattle.tb_engine_findings.specs.Verdicts.{deep_lines}

-- the numbers of entries
abbrev numbers_of : List Entry → List ℕ
numbers_of es = map (λ e. e.number) es

-- whether a line of this number is too deep
abbrev deep_at : ℕ → Program → Bool
deep_at n [] = false
deep_at n (line ∷ lines) = ((line.number == n) && nat_lt 16 (statement_need line.content)) || deep_at n lines

one_listed : (n m k : ℕ) (ns : List ℕ) → is_one_of n (if nat_le k 16 then ns else m ∷ ns) ≡ (((m == n) && nat_lt 16 k) || is_one_of n ns)
one_listed n m k ns = go (nat_le k 16) (nat_lt 16 k) (grind (arith, nat_tests))
  where
    both : (b c : Bool) → ((b && true) || c) ≡ (b || c)
    both true c = refl
    both false c = refl

    neither : (b c : Bool) → ((b && false) || c) ≡ c
    neither true c = refl
    neither false c = refl

    go : (few many : Bool) → many ≡ not few → is_one_of n (if few then ns else m ∷ ns) ≡ (((m == n) && many) || is_one_of n ns)
    go true many e = rw e (sym (neither (m == n) (is_one_of n ns)))
    go false many e = rw e (sym (both (m == n) (is_one_of n ns)))

deep_listed : (n : ℕ) (p : Program) → is_one_of n (deep_lines p) ≡ deep_at n p
deep_listed n [] = refl
deep_listed n (line ∷ lines) =
    one_listed n line.number (statement_need line.content) (deep_lines lines)
    ∙ ap (λ b. ((line.number == n) && nat_lt 16 (statement_need line.content)) || b) (deep_listed n lines)

-- ── numbers that rise ──
abbrev RisesTo : ℕ → Program → Type 0
RisesTo low [] = Unit {0}
RisesTo low (line ∷ lines) = (low ≤ line.number) × RisesTo (line.number + 1) lines

below : (a b : ℕ) → nat_lt a b ≡ true → a < b
below a b e = grind (arith, nat_tests)

above : (a b : ℕ) → nat_lt a b ≡ false → (a == b) ≡ false → b < a
above a b e f = grind (arith, nat_tests)

higher : (a b : ℕ) → b < a → (a == b) ≡ false
higher a b h = grind (arith, nat_tests)

lower : (a b : ℕ) → a < b → (a == b) ≡ false
lower a b h = grind (arith, nat_tests)

flipped : (a b : ℕ) → (a == b) ≡ false → (b == a) ≡ false
flipped a b h = grind (arith, nat_tests)

from_lower : (low lower : ℕ) (p : Program) → lower ≤ low → RisesTo low p → RisesTo lower p
from_lower low lower [] le h = tt
from_lower low lower (line ∷ lines) le h = (omega (arith, h.0), h.1)

from_same : (m n : ℕ) (p : Program) → m ≡ n → RisesTo (m + 1) p → RisesTo (n + 1) p
from_same m n p e h = rw e at h

with_rises : (n : ℕ) (c : Statement) (low : ℕ) (p : Program) → low ≤ n → RisesTo low p → RisesTo low (with_line n c p)
with_rises n c low [] le h = (le, tt)
with_rises n c low (line ∷ lines) le h = go (nat_lt n line.number) (n == line.number) refl refl (λ le'. with_rises n c (line.number + 1) lines le' h.1)
  where
    go : (less same : Bool) → nat_lt n line.number ≡ less → (n == line.number) ≡ same → (line.number + 1 ≤ n → RisesTo (line.number + 1) (with_line n c lines))
        → RisesTo low (if less then line_at n c ∷ line ∷ lines else if same then line_at n c ∷ lines else line ∷ with_line n c lines)
    go true same is other rest = let l = below n line.number is in (le, (omega (arith, l), h.1))
    go false true is other rest = (le, from_same line.number n lines (sym (eqb-true n line.number other)) h.1)
    go false false is other rest = let l = above n line.number is other in (h.0, rest (omega (arith, l)))

without_rises : (n low : ℕ) (p : Program) → RisesTo low p → RisesTo low (without_line n p)
without_rises n low [] h = tt
without_rises n low (line ∷ lines) h = go (n == line.number) (without_rises n (line.number + 1) lines h.1)
  where
    go : (same : Bool) → RisesTo (line.number + 1) (without_line n lines) → RisesTo low (if same then lines else line ∷ without_line n lines)
    go true rest = let l = h.0 in from_lower (line.number + 1) low lines (omega (arith, l)) h.1
    go false rest = (h.0, rest)

entry_rises : (states : Option Statement) (n : ℕ) (p : Program) → RisesTo 0 p → RisesTo 0 (with_entry states n p)
entry_rises (Some c) n p h = with_rises n c 0 p (omega arith) h
entry_rises None n p h = without_rises n 0 p h

-- ── one line ──
own : (n : ℕ) (d rest : Bool) → rest ≡ false → (((n == n) && d) || rest) ≡ d
own n d rest h = let same : (n == n) ≡ true = grind (arith, nat_tests) in rw (same, h) (either d)
  where
    either : (b : Bool) → (b || false) ≡ b
    either true = refl
    either false = refl

other : (m n : ℕ) (d rest : Bool) → (m == n) ≡ false → (((m == n) && d) || rest) ≡ rest
other m n d rest h = rw h refl

none_below : (n low : ℕ) (p : Program) → n < low → RisesTo low p → deep_at n p ≡ false
none_below n low [] l h = refl
none_below n low (line ∷ lines) l h =
    let a = h.0 in
    other line.number n (nat_lt 16 (statement_need line.content)) (deep_at n lines) (higher line.number n (omega (arith, l, a)))
    ∙ none_below n (line.number + 1) lines (omega (arith, l, a)) h.1

deep_set : (n : ℕ) (c : Statement) (low : ℕ) (p : Program) → RisesTo low p → deep_at n (with_line n c p) ≡ nat_lt 16 (statement_need c)
deep_set n c low [] h = own n (nat_lt 16 (statement_need c)) false refl
deep_set n c low (line ∷ lines) h = go (nat_lt n line.number) (n == line.number) refl refl (deep_set n c (line.number + 1) lines h.1)
  where
    go : (less same : Bool) → nat_lt n line.number ≡ less → (n == line.number) ≡ same → deep_at n (with_line n c lines) ≡ nat_lt 16 (statement_need c)
        → deep_at n (if less then line_at n c ∷ line ∷ lines else if same then line_at n c ∷ lines else line ∷ with_line n c lines) ≡ nat_lt 16 (statement_need c)
    go true same is apart rest =
        own n (nat_lt 16 (statement_need c)) (deep_at n (line ∷ lines)) (none_below n line.number (line ∷ lines) (below n line.number is) (omega arith, h.1))
    go false true is same rest =
        let e = eqb-true n line.number same in own n (nat_lt 16 (statement_need c)) (deep_at n lines) (none_below n (line.number + 1) lines (omega (arith, e)) h.1)
    go false false is apart rest =
        other line.number n (nat_lt 16 (statement_need line.content)) (deep_at n (with_line n c lines)) (flipped n line.number apart) ∙ rest

deep_cleared : (n low : ℕ) (p : Program) → RisesTo low p → deep_at n (without_line n p) ≡ false
deep_cleared n low [] h = refl
deep_cleared n low (line ∷ lines) h = go (n == line.number) refl (deep_cleared n (line.number + 1) lines h.1)
  where
    go : (same : Bool) → (n == line.number) ≡ same → deep_at n (without_line n lines) ≡ false → deep_at n (if same then lines else line ∷ without_line n lines) ≡ false
    go true same rest = let e = eqb-true n line.number same in none_below n (line.number + 1) lines (omega (arith, e)) h.1
    go false apart rest =
        other line.number n (nat_lt 16 (statement_need line.content)) (deep_at n (without_line n lines)) (flipped n line.number apart) ∙ rest

-- what an entry makes of its own number
deep_after : (states : Option Statement) (n : ℕ) (p : Program) → RisesTo 0 p → deep_at n (with_entry states n p) ≡ is_deep states
deep_after (Some c) n p h = deep_set n c 0 p h
deep_after None n p h = deep_cleared n 0 p h

-- ── all other lines ──
set_apart : (m : ℕ) (c : Statement) (n : ℕ) (p : Program) → (m == n) ≡ false → deep_at n (with_line m c p) ≡ deep_at n p
set_apart m c n [] h = other m n (nat_lt 16 (statement_need c)) false h
set_apart m c n (line ∷ lines) h = go (nat_lt m line.number) (m == line.number) refl (set_apart m c n lines h)
  where
    go : (less same : Bool) → (m == line.number) ≡ same → deep_at n (with_line m c lines) ≡ deep_at n lines
        → deep_at n (if less then line_at m c ∷ line ∷ lines else if same then line_at m c ∷ lines else line ∷ with_line m c lines) ≡ deep_at n (line ∷ lines)
    go true same is rest = other m n (nat_lt 16 (statement_need c)) (deep_at n (line ∷ lines)) h
    go false true is rest =
        let e = eqb-true m line.number is in let apart : (line.number == n) ≡ false = rw e at h in
        other m n (nat_lt 16 (statement_need c)) (deep_at n lines) h
        ∙ sym (other line.number n (nat_lt 16 (statement_need line.content)) (deep_at n lines) apart)
    go false false is rest = ap (λ b. ((line.number == n) && nat_lt 16 (statement_need line.content)) || b) rest

cleared_apart : (m n : ℕ) (p : Program) → (m == n) ≡ false → deep_at n (without_line m p) ≡ deep_at n p
cleared_apart m n [] h = refl
cleared_apart m n (line ∷ lines) h = go (m == line.number) refl (cleared_apart m n lines h)
  where
    go : (same : Bool) → (m == line.number) ≡ same → deep_at n (without_line m lines) ≡ deep_at n lines
        → deep_at n (if same then lines else line ∷ without_line m lines) ≡ deep_at n (line ∷ lines)
    go true is rest =
        let e = eqb-true m line.number is in let apart : (line.number == n) ≡ false = rw e at h in
        sym (other line.number n (nat_lt 16 (statement_need line.content)) (deep_at n lines) apart)
    go false is rest = ap (λ b. ((line.number == n) && nat_lt 16 (statement_need line.content)) || b) rest

entry_apart : (states : Option Statement) (m n : ℕ) (p : Program) → (m == n) ≡ false → deep_at n (with_entry states m p) ≡ deep_at n p
entry_apart (Some c) m n p h = set_apart m c n p h
entry_apart None m n p h = cleared_apart m n p h

left : (a b : Bool) → (a || b) ≡ false → a ≡ false
left false b h = refl
left true b h = h

right : (a b : Bool) → (a || b) ≡ false → b ≡ false
right false b h = h
right true b h = absurd (true≢false h)

entries_apart : (n : ℕ) (es : List Entry) (p : Program) → is_one_of n (numbers_of es) ≡ false → deep_at n (with_entries es p) ≡ deep_at n p
entries_apart n [] p h = refl
entries_apart n (e ∷ es) p h =
    entries_apart n es (with_entry e.states e.number p) (right (e.number == n) (is_one_of n (numbers_of es)) h)
    ∙ entry_apart e.states e.number n p (left (e.number == n) (is_one_of n (numbers_of es)) h)

-- ── all lines ──
same_numbers : (n : ℕ) (es : List Entry) → is_one_of n (map (λ l. l.number) (map numbered_of es)) ≡ is_one_of n (numbers_of es)
same_numbers n [] = refl
same_numbers n (e ∷ es) = ap (λ b. (e.number == n) || b) (same_numbers n es)

deep_here_remains : (e : Entry) (es : List Entry) (p : Program) → RisesTo 0 p
    → deep_here e es ≡ remaining_here (deep_lines (with_entries (e ∷ es) p)) (numbered_of e) (map numbered_of es)
deep_here_remains e es p h = rw (same_numbers e.number es) (go (is_one_of e.number (numbers_of es)) refl)
  where
    no : (b : Bool) → (b && false) ≡ false
    no true = refl
    no false = refl

    go : (has : Bool) → is_one_of e.number (numbers_of es) ≡ has
        → (if is_deep e.states && not has then e.line ∷ [] else []) ≡ (if is_one_of e.number (deep_lines (with_entries (e ∷ es) p)) && not has then e.line ∷ [] else [])
    go true is = rw (no (is_deep e.states), no (is_one_of e.number (deep_lines (with_entries (e ∷ es) p)))) refl
    go false is =
        let same : is_one_of e.number (deep_lines (with_entries (e ∷ es) p)) ≡ is_deep e.states =
        deep_listed e.number (with_entries (e ∷ es) p) ∙ entries_apart e.number es (with_entry e.states e.number p) is ∙ deep_after e.states e.number p h in
        rw same refl

deep_remain : (es : List Entry) (p : Program) → RisesTo 0 p → deep_of es ≡ remaining (deep_lines (with_entries es p)) (map numbered_of es)
deep_remain [] p h = refl
deep_remain (e ∷ es) p h =
    rw (deep_here_remains e es p h, deep_remain es (with_entry e.states e.number p) (entry_rises e.states e.number p h)) refl

-- the deep lines of a file, by the numbers of those of its program
pub deep_of_file : (es : List Entry) → deep_of es ≡ remaining (deep_lines (with_entries es [])) (map numbered_of es)
deep_of_file es = deep_remain es [] tt

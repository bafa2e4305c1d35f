-- The line that stands gives the program its line.
use Rattle.std.proofs.Common.{◌≡◌, ℕ, ◌+◌, ◌<◌, ◌≤◌, suc, Bool, true, false, List, [], ◌∷◌, Option, Some, None, refl, sym, ap, subst, ◌∙◌, arith, ◌==◌, if◌then◌else◌}
use Rattle.std.proofs.lemmas.Bool.Decides.{nat_tests}
use Rattle.std.proofs.lemmas.Bool.{eqb-true}
use Rattle.std.specs.Prelude.{nat_eq, nat_lt, slice_get}
use Rattle.tb_basic_syntax.specs.Source.{Statement, Program}
use Rattle.tb_basic_meaning.specs.Control.{content_at}
use Rattle.tb_parser.specs.Files.{edited, line_at, with_line, without_line}
use Rattle.tb_parser.specs.Readings.{Edit, Nothing, Sets, Deletes}
use Rattle.tb_basic_names.specs.Sources.{Gives, held, made_of, program_of, standing, standing_from}

-- ── numbers that rise ──
-- the lines have rising numbers, each at least `low`
abbrev pub Rise : ℕ → Program → Type 0
Rise low [] = Unit {0}
Rise low (line ∷ lines) = (low ≤ line.number) × Rise (line.number + 1) lines

lower : (a b : ℕ) (p : Program) → a ≤ b → Rise b p → Rise a p
lower a b [] le h = tt
lower a b (line ∷ lines) le h = (omega (arith, le, h.0), h.1)

below : (a b : ℕ) → nat_lt a b ≡ true → a + 1 ≤ b
below a b e = grind (arith, nat_tests)

above : (a b : ℕ) → nat_lt a b ≡ false → (a == b) ≡ false → b + 1 ≤ a
above a b e f = grind (arith, nat_tests)

with_rises : (n : ℕ) (c : Statement) (low : ℕ) (p : Program) → low ≤ n → Rise low p → Rise low (with_line n c p)
with_rises n c low [] le h = (le, tt)
with_rises n c low (line ∷ lines) le h = go (nat_lt n line.number) (n == line.number) refl refl (λ higher. with_rises n c (line.number + 1) lines higher h.1)
  where
    go : (less same : Bool) → nat_lt n line.number ≡ less → (n == line.number) ≡ same → (line.number + 1 ≤ n → Rise (line.number + 1) (with_line n c lines))
        → Rise low (if less then line_at n c ∷ line ∷ lines else if same then line_at n c ∷ lines else line ∷ with_line n c lines)
    go true same is other rest = (le, (below n line.number is, h.1))
    go false true is other rest = (le, subst (λ k. Rise (k + 1) lines) (sym (eqb-true n line.number other)) h.1)
    go false false is other rest = (h.0, rest (above n line.number is other))

without_rises : (n low : ℕ) (p : Program) → Rise low p → Rise low (without_line n p)
without_rises n low [] h = tt
without_rises n low (line ∷ lines) h = go (n == line.number) (without_rises n (line.number + 1) lines h.1)
  where
    go : (same : Bool) → Rise (line.number + 1) (without_line n lines) → Rise low (if same then lines else line ∷ without_line n lines)
    go true rest = lower low (line.number + 1) lines (omega (arith, h.0)) h.1
    go false rest = (h.0, rest)

pub edited_rises : (e : Edit) (p : Program) → Rise 0 p → Rise 0 (edited e p)
edited_rises Nothing p h = h
edited_rises (Sets n c) p h = with_rises n c 0 p (omega arith) h
edited_rises (Deletes n) p h = without_rises n 0 p h

-- ── what a program has at a number ──
turned : (a b : ℕ) (t : Bool) → (a == b) ≡ t → nat_eq b a ≡ t
turned a b true e = grind (arith, nat_tests)
turned a b false e = grind (arith, nat_tests)

same_tests : (a b : ℕ) (t : Bool) → (a == b) ≡ t → nat_eq a b ≡ t
same_tests a b true e = grind (arith, nat_tests)
same_tests a b false e = grind (arith, nat_tests)

itself : (n : ℕ) → nat_eq n n ≡ true
itself n = grind (arith, nat_tests)

less_other : (a b : ℕ) → nat_lt a b ≡ true → nat_eq b a ≡ false
less_other a b e = grind (arith, nat_tests)

-- a line that was set
pub with_here : (n : ℕ) (c : Statement) (p : Program) → content_at (with_line n c p) n ≡ Some c
with_here n c [] = rw (itself n) refl
with_here n c (line ∷ lines) = go (nat_lt n line.number) (n == line.number) refl refl (with_here n c lines)
  where
    go : (less same : Bool) → nat_lt n line.number ≡ less → (n == line.number) ≡ same → content_at (with_line n c lines) n ≡ Some c
        → content_at (if less then line_at n c ∷ line ∷ lines else if same then line_at n c ∷ lines else line ∷ with_line n c lines) n ≡ Some c
    go true same is other rest = rw (itself n) refl
    go false true is other rest = rw (itself n) refl
    go false false is other rest = rw (turned n line.number false other) rest

-- any other line stays
pub with_other : (m n : ℕ) (c : Statement) (p : Program) → (m == n) ≡ false → content_at (with_line m c p) n ≡ content_at p n
with_other m n c [] ne = rw (same_tests m n false ne) refl
with_other m n c (line ∷ lines) ne = go (nat_lt m line.number) (m == line.number) refl refl (with_other m n c lines ne)
  where
    go : (less same : Bool) → nat_lt m line.number ≡ less → (m == line.number) ≡ same → content_at (with_line m c lines) n ≡ content_at lines n
        → content_at (if less then line_at m c ∷ line ∷ lines else if same then line_at m c ∷ lines else line ∷ with_line m c lines) n ≡ content_at (line ∷ lines) n
    go true same is other rest = rw (same_tests m n false ne) refl
    go false true is other rest = rw (sym (eqb-true m line.number other), same_tests m n false ne) refl
    go false false is other rest = ap (λ t. if nat_eq line.number n then Some line.content else t) rest

-- nothing is below the lowest number
pub none_below : (n low : ℕ) (p : Program) → n < low → Rise low p → content_at p n ≡ None
none_below n low [] lt h = refl
none_below n low (line ∷ lines) lt h = rw (larger n line.number (omega (arith, lt, h.0))) (none_below n (line.number + 1) lines (omega (arith, lt, h.0)) h.1)
  where
    larger : (a b : ℕ) → a < b → nat_eq b a ≡ false
    larger a b lt = grind (arith, nat_tests)

-- a line that was taken away
pub without_here : (n low : ℕ) (p : Program) → Rise low p → content_at (without_line n p) n ≡ None
without_here n low [] h = refl
without_here n low (line ∷ lines) h = go (n == line.number) refl (without_here n (line.number + 1) lines h.1)
  where
    go : (same : Bool) → (n == line.number) ≡ same → content_at (without_line n lines) n ≡ None
        → content_at (if same then lines else line ∷ without_line n lines) n ≡ None
    go true is rest = none_below n (line.number + 1) lines (let e : n ≡ line.number = eqb-true n line.number is in omega (arith, e)) h.1
    go false is rest = rw (turned n line.number false is) rest

-- any other line stays
pub without_other : (m n : ℕ) (p : Program) → (m == n) ≡ false → content_at (without_line m p) n ≡ content_at p n
without_other m n [] ne = refl
without_other m n (line ∷ lines) ne = go (m == line.number) refl (without_other m n lines ne)
  where
    go : (same : Bool) → (m == line.number) ≡ same → content_at (without_line m lines) n ≡ content_at lines n
        → content_at (if same then lines else line ∷ without_line m lines) n ≡ content_at (line ∷ lines) n
    go true is rest = rw (sym (eqb-true m line.number is), same_tests m n false ne) refl
    go false is rest = ap (λ t. if nat_eq line.number n then Some line.content else t) rest

-- ── the line that stands ──
-- how lines lead from what a program has at n, and the place of its line, to what it has after them
data Leads (n : ℕ) (p q : Program) (i : ℕ) (found : Option ℕ) (es : List Edit) (after : Option ℕ) : Type 0 where
  kept : after ≡ found → content_at q n ≡ content_at p n → Leads n p q i found es after
  new : (k : ℕ) (c : Statement) → after ≡ Some (i + k) → slice_get es k ≡ Some (Sets n c) → content_at q n ≡ Some c → Leads n p q i found es after
  gone : after ≡ None → content_at q n ≡ None → Leads n p q i found es after

next : (i k : ℕ) → i + 1 + k ≡ i + suc k
next i k = omega arith

here : (i : ℕ) → i ≡ i + 0
here i = omega arith

-- a line that does something, where nothing after it does
one : (n : ℕ) (e : Edit) (es : List Edit) (p q : Program) (i : ℕ) (found after : Option ℕ) → Rise 0 p → after ≡ held n i found e → content_at q n ≡ content_at (edited e p) n
    → Leads n p q i found (e ∷ es) after
one n Nothing es p q i found after rises is has = kept is has
one n (Sets m c) es p q i found after rises is has = go (m == n) refl
  where
    go : (same : Bool) → (m == n) ≡ same → Leads n p q i found (Sets m c ∷ es) after
    go true e =
        let same : m ≡ n = eqb-true m n e in
        new 0 c (is ∙ ap (λ t. if t then Some i else found) e ∙ ap (λ k. Some k) (here i)) (ap (λ k. Some (Sets k c)) same)
        (has ∙ (ap (λ k. content_at (with_line k c p) n) same ∙ with_here n c p))
    go false e = kept (is ∙ ap (λ t. if t then Some i else found) e) (has ∙ with_other m n c p e)
one n (Deletes m) es p q i found after rises is has = go (m == n) refl
  where
    go : (same : Bool) → (m == n) ≡ same → Leads n p q i found (Deletes m ∷ es) after
    go true e =
        let same : m ≡ n = eqb-true m n e in
        gone (is ∙ ap (λ t. if t then None else found) e) (has ∙ (ap (λ k. content_at (without_line k p) n) same ∙ without_here n 0 p rises))
    go false e = kept (is ∙ ap (λ t. if t then None else found) e) (has ∙ without_other m n p e)

more : (n : ℕ) (e : Edit) (es : List Edit) (p q : Program) (i : ℕ) (found after : Option ℕ) → Rise 0 p → Leads n (edited e p) q (i + 1) (held n i found e) es after
    → Leads n p q i found (e ∷ es) after
more n e es p q i found after rises (kept is has) = one n e es p q i found after rises is has
more n e es p q i found after rises (new k c is at has) = new (suc k) c (is ∙ ap (λ t. Some t) (next i k)) at has
more n e es p q i found after rises (gone is has) = gone is has

leads : (n : ℕ) (p : Program) (i : ℕ) (found : Option ℕ) (es : List Edit) → Rise 0 p → Leads n p (made_of p es) i found es (standing_from n i found es)
leads n p i found [] rises = kept refl refl
leads n p i found (e ∷ es) rises = more n e es p (made_of (edited e p) es) i found _ rises (leads n (edited e p) (i + 1) (held n i found e) es (edited_rises e p rises))

first : (k : ℕ) → 0 + k ≡ k
first k = omega arith

given : (n : ℕ) (es : List Edit) (after : Option ℕ) → Leads n [] (program_of es) 0 None es after → Gives n es after
given n es after (kept is has) = subst (Gives n es) (sym is) has
given n es after (new k c is at has) = subst (Gives n es) (sym (is ∙ ap (λ t. Some t) (first k))) (c, at, has)
given n es after (gone is has) = subst (Gives n es) (sym is) has

-- the line that stands gives the program its line
pub gives : (n : ℕ) (es : List Edit) → Gives n es (standing n es)
gives n es = given n es (standing n es) (leads n [] 0 None es tt)

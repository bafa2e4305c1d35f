-- A line whose number a later one has changes nothing.
use Rattle.std.proofs.Common.{◌≡◌, ℕ, ◌+◌, ◌<◌, ◌≤◌, Bool, true, false, List, [], ◌∷◌, ◌++◌, Some, None, refl, sym, ap, subst, ◌∙◌, arith, ◌==◌, if◌then◌else◌}
use Rattle.std.proofs.lemmas.Bool.Decides.{nat_tests}
use Rattle.std.proofs.lemmas.Bool.{eqb-true}
use Rattle.std.specs.Prelude.{nat_eq, nat_lt}
use Rattle.tb_basic_syntax.specs.Source.{Statement, Program, Numbered}
use Rattle.tb_basic_meaning.specs.Control.{content_at}
use Rattle.tb_parser.specs.Files.{edited, with_line, without_line}
use Rattle.tb_parser.specs.Readings.{Edit, Nothing, Sets, Deletes}
use Rattle.tb_basic_names.specs.Laws.{SupersededLinesDoNothing}
use Rattle.tb_basic_names.specs.Lines.{number_in}
use Rattle.tb_basic_names.specs.Sources.{made_of}
use Rattle.tb_basic_names.proofs.Given.{Rise, edited_rises, none_below, with_here, with_other, without_here, without_other}

-- ── programs that rise are the same where they have the same at each number ──
itself : (n : ℕ) → nat_eq n n ≡ true
itself n = grind (arith, nat_tests)

not_below : (a b : ℕ) → nat_lt a b ≡ false → nat_lt b a ≡ false → a ≡ b
not_below a b e f = grind (arith, nat_tests)

is_below : (a b : ℕ) → nat_lt a b ≡ true → a < b
is_below a b e = grind (arith, nat_tests)

is_not_below : (a b : ℕ) → nat_lt a b ≡ false → b ≤ a
is_not_below a b e = grind (arith, nat_tests)

apart : (a b : ℕ) → a < b → nat_eq a b ≡ false
apart a b lt = grind (arith, nat_tests)

some_same : {A : Type 0} {x y : A} → Some x ≡ Some y → x ≡ y
some_same e = cc

abbrev Same : Program → Program → Type 0
Same p q = (m : ℕ) → content_at p m ≡ content_at q m

first_at : (line : Numbered Statement) (lines : Program) → content_at (line ∷ lines) line.number ≡ Some line.content
first_at line lines = rw (itself line.number) refl

-- the number of the first line is not below that of the other program's first line
no_lower : (line other : Numbered Statement) (lines others : Program) → Rise (other.number + 1) others → content_at (line ∷ lines) line.number ≡ content_at (other ∷ others) line.number
    → nat_lt line.number other.number ≡ false
no_lower line other lines others rises is = go (nat_lt line.number other.number) refl
  where
    go : (less : Bool) → nat_lt line.number other.number ≡ less → less ≡ false
    go false e = refl
    go true e =
        let lt : line.number < other.number = is_below line.number other.number e in
        let none : content_at (other ∷ others) line.number ≡ None = none_below line.number other.number (other ∷ others) lt (omega arith, rises) in
        absurd (let bad : Some line.content ≡ None = sym (first_at line lines) ∙ (is ∙ none) in cc)

-- what the rest has, by what the whole has
rest_same : (line other : Numbered Statement) (lines others : Program) → line.number ≡ other.number → Rise (line.number + 1) lines → Rise (other.number + 1) others
    → Same (line ∷ lines) (other ∷ others) → Same lines others
rest_same line other lines others same r s is m = go (nat_lt line.number m) refl
  where
    go : (less : Bool) → nat_lt line.number m ≡ less → content_at lines m ≡ content_at others m
    go true e =
        let a : nat_eq line.number m ≡ false = apart line.number m (is_below line.number m e) in
        let b : nat_eq other.number m ≡ false = subst (λ k. nat_eq k m ≡ false) same a in
        sym (ap (λ t. if t then Some line.content else content_at lines m) a) ∙ (is m ∙ ap (λ t. if t then Some other.content else content_at others m) b)
    go false e =
        let le : m ≤ line.number = is_not_below line.number m e in
        none_below m (line.number + 1) lines (omega (arith, le)) r ∙ sym (none_below m (other.number + 1) others (omega (arith, le, same)) s)

same_line : (line other : Numbered Statement) → line.number ≡ other.number → line.content ≡ other.content → line ≡ other
same_line line other a b = λ i. record { number = a i; content = b i }

-- programs whose line numbers rise are equal if they have equal statements at each number
extensional : (low : ℕ) (p q : Program) → Rise low p → Rise low q → Same p q → p ≡ q
extensional low [] [] r s is = refl
extensional low [] (other ∷ others) r s is = absurd (let bad : None ≡ Some other.content = is other.number ∙ first_at other others in cc)
extensional low (line ∷ lines) [] r s is = absurd (let bad : Some line.content ≡ None = sym (first_at line lines) ∙ is line.number in cc)
extensional low (line ∷ lines) (other ∷ others) r s is =
    let a : nat_lt line.number other.number ≡ false = no_lower line other lines others s.1 (is line.number) in
    let b : nat_lt other.number line.number ≡ false = no_lower other line others lines r.1 (sym (is other.number)) in
    let same : line.number ≡ other.number = not_below line.number other.number a b in
    let content : line.content ≡ other.content =
    some_same (sym (first_at line lines) ∙ (is line.number ∙ (ap (λ k. content_at (other ∷ others) k) same ∙ first_at other others))) in
    let tails : lines ≡ others = extensional (line.number + 1) lines others r.1 (subst (λ k. Rise (k + 1) others) (sym same) s.1) (rest_same line other lines others same r.1 s.1 is) in
    ap (λ l. l ∷ lines) (same_line line other same content) ∙ ap (λ ls. other ∷ ls) tails

-- ── what lines make of programs that differ at one number alone ──
-- a line does the same to what both have at a number
does_same : (e : Edit) (m : ℕ) (p q : Program) → Rise 0 p → Rise 0 q → content_at p m ≡ content_at q m → content_at (edited e p) m ≡ content_at (edited e q) m
does_same Nothing m p q r s is = is
does_same (Sets k c) m p q r s is = go (k == m) refl
  where
    go : (same : Bool) → (k == m) ≡ same → content_at (with_line k c p) m ≡ content_at (with_line k c q) m
    go true e = let at : k ≡ m = eqb-true k m e in subst (λ j. content_at (with_line k c p) j ≡ content_at (with_line k c q) j) at (with_here k c p ∙ sym (with_here k c q))
    go false e = with_other k m c p e ∙ (is ∙ sym (with_other k m c q e))
does_same (Deletes k) m p q r s is = go (k == m) refl
  where
    go : (same : Bool) → (k == m) ≡ same → content_at (without_line k p) m ≡ content_at (without_line k q) m
    go true e = let at : k ≡ m = eqb-true k m e in subst (λ j. content_at (without_line k p) j ≡ content_at (without_line k q) j) at (without_here k 0 p r ∙ sym (without_here k 0 q s))
    go false e = without_other k m p e ∙ (is ∙ sym (without_other k m q e))

-- so do lines
make_same : (es : List Edit) (m : ℕ) (p q : Program) → Rise 0 p → Rise 0 q → content_at p m ≡ content_at q m → content_at (made_of p es) m ≡ content_at (made_of q es) m
make_same [] m p q r s is = is
make_same (e ∷ es) m p q r s is = make_same es m (edited e p) (edited e q) (edited_rises e p r) (edited_rises e q s) (does_same e m p q r s is)

made_rises : (es : List Edit) (p : Program) → Rise 0 p → Rise 0 (made_of p es)
made_rises [] p r = r
made_rises (e ∷ es) p r = made_rises es (edited e p) (edited_rises e p r)

-- a line with a number changes nothing elsewhere
elsewhere : (n : ℕ) (e : Edit) (p : Program) → number_in e ≡ Some n → (m : ℕ) → (n == m) ≡ false → content_at (edited e p) m ≡ content_at p m
elsewhere n Nothing p is m ne = refl
elsewhere n (Sets k c) p is m ne = let at : k ≡ n = some_same is in with_other k m c p (subst (λ j. (j == m) ≡ false) (sym at) ne)
elsewhere n (Deletes k) p is m ne = let at : k ≡ n = some_same is in without_other k m p (subst (λ j. (j == m) ≡ false) (sym at) ne)

-- a line with a number leaves the same there, whatever was there
settles : (n : ℕ) (e : Edit) (p q : Program) → number_in e ≡ Some n → Rise 0 p → Rise 0 q → content_at (edited e p) n ≡ content_at (edited e q) n
settles n Nothing p q is r s = absurd cc
settles n (Sets k c) p q is r s = let at : k ≡ n = some_same is in subst (λ j. content_at (with_line k c p) j ≡ content_at (with_line k c q) j) at (with_here k c p ∙ sym (with_here k c q))
settles n (Deletes k) p q is r s =
    let at : k ≡ n = some_same is in subst (λ j. content_at (without_line k p) j ≡ content_at (without_line k q) j) at (without_here k 0 p r ∙ sym (without_here k 0 q s))

-- a line before, lines between, and a later one with its number
settled : (n : ℕ) (e later : Edit) (between : List Edit) (p : Program) → number_in e ≡ Some n → number_in later ≡ Some n → Rise 0 p
    → edited later (made_of (edited e p) between) ≡ edited later (made_of p between)
settled n e later between p is last r =
    let r' : Rise 0 (edited e p) = edited_rises e p r in
    let a : Rise 0 (made_of (edited e p) between) = made_rises between (edited e p) r' in
    let b : Rise 0 (made_of p between) = made_rises between p r in
    extensional 0 _ _ (edited_rises later _ a) (edited_rises later _ b) (λ m. at m (n == m) refl a b r')
  where
    at : (m : ℕ) (same : Bool) → (n == m) ≡ same → Rise 0 (made_of (edited e p) between) → Rise 0 (made_of p between) → Rise 0 (edited e p)
        → content_at (edited later (made_of (edited e p) between)) m ≡ content_at (edited later (made_of p between)) m
    at m true t a b r' = subst (λ j. content_at (edited later (made_of (edited e p) between)) j ≡ content_at (edited later (made_of p between)) j) (eqb-true n m t) (settles n later _ _ last a b)
    at m false t a b r' = does_same later m _ _ a b (make_same between m (edited e p) p r' r (elsewhere n e p is m t))

made_append : (p : Program) (xs ys : List Edit) → made_of p (xs ++ ys) ≡ made_of (made_of p xs) ys
made_append p [] ys = refl
made_append p (e ∷ xs) ys = made_append (edited e p) xs ys

-- from a program on
from_here : (n : ℕ) (between behind : List Edit) (e later : Edit) (p : Program) → number_in e ≡ Some n → number_in later ≡ Some n → Rise 0 p
    → made_of p (e ∷ (between ++ (later ∷ behind))) ≡ made_of p (between ++ (later ∷ behind))
from_here n between behind e later p is last r =
    made_append (edited e p) between (later ∷ behind)
    ∙ (ap (λ q. made_of q behind) (settled n e later between p is last r) ∙ sym (made_append p between (later ∷ behind)))

-- the law
pub superseded : SupersededLinesDoNothing
superseded n before between behind e later is last =
    made_append [] before (e ∷ (between ++ (later ∷ behind)))
    ∙ (from_here n between behind e later (made_of [] before) is last (made_rises before [] tt) ∙ sym (made_append [] before (between ++ (later ∷ behind))))

-- What all rows count adds up to the whole.
use Rattle.std.proofs.Common.{◌≡◌, ℕ, ◌+◌, ◌<◌, Bool, true, false, ◌||◌, List, [], ◌∷◌, length, map, refl, sym, ap, ◌∙◌, arith, inl, inr}
use Rattle.std.specs.Prelude.{◌==◌, if◌then◌else◌, sum_by}
use Rattle.std.proofs.lemmas.Bool.{cases_eq, or_parts, or_right}
use Rattle.std.proofs.lemmas.Bool.Decides.{nat_tests}
use Rattle.std.proofs.lemmas.List.Recursion.{is_sum_by}
use Rattle.std.proofs.lemmas.List.Sums.{sum_by-cons}
use Rattle.tb_kernal.specs.declared.events.Event.{Event}
use Rattle.tb_kernal.specs.declared.events.Event.TheVariants.{Go, Interrupt}
use Rattle.tb_kernal.specs.Machine.{State, happens}
use Rattle.tb_machine_profile.specs.Steps.{Step, begins_line, line_by, step_of, steps, instructions_of, cycles_of}
use Rattle.tb_engine_profile_table.specs.declared.rows.Row.{Row}
use Rattle.tb_engine_profile_table.specs.declared.rows.Table.{Table}
use Rattle.tb_engine_profile_table.specs.Rows.{row_of, IsTable, AreApart, AddsUp}

-- ---- sums over addresses

total : (ℕ → ℕ) → List ℕ → ℕ
total f [] = 0
total f (p ∷ ps) = f p + total f ps

total_plus : (f g : ℕ → ℕ) (ps : List ℕ) → total (λ p. f p + g p) ps ≡ total f ps + total g ps
unfolding total
total_plus f g [] = refl
total_plus f g (p ∷ ps) = omega (arith, total_plus f g ps)

total_same : (f g : ℕ → ℕ) (ps : List ℕ) → ((p : ℕ) → f p ≡ g p) → total f ps ≡ total g ps
unfolding total
total_same f g [] h = refl
total_same f g (p ∷ ps) h = omega (arith, h p, total_same f g ps h)

total_none : (f : ℕ → ℕ) (ps : List ℕ) → ((p : ℕ) → f p ≡ 0) → total f ps ≡ 0
unfolding total
total_none f [] h = refl
total_none f (p ∷ ps) h = omega (arith, h p, total_none f ps h)

-- ---- a weight that one address alone has

at : ℕ → ℕ → ℕ → ℕ
at k a p = if a == p then k else 0

at_here : (k a p : ℕ) → a ≡ p → at k a p ≡ k
unfolding at
at_here k a p h = let e : (a == p) ≡ true = grind (arith, nat_tests) in ap (λ b. if b then k else 0) e

at_other : (k a p : ℕ) → (a == p) ≡ false → at k a p ≡ 0
unfolding at
at_other k a p e = ap (λ b. if b then k else 0) e

second : (b c : Bool) → (b || c) ≡ true → b ≡ false → c ≡ true
second true c h e = absurd cc
second false c h e = h

none_at : (k a : ℕ) (ps : List ℕ) → begins_line ps a ≡ false → total (at k a) ps ≡ 0
unfolding total
none_at k a [] h = refl
none_at k a (p ∷ ps) h =
    let both : ((a == p) ≡ false) × (begins_line ps a ≡ false) = or_parts (a == p) (begins_line ps a) h in
    omega (arith, at_other k a p both.0, none_at k a ps both.1)

one_at : (k a : ℕ) (ps : List ℕ) → begins_line ps a ≡ true → AreApart ps → total (at k a) ps ≡ k
unfolding total
one_at k a [] h apart = absurd cc
one_at k a (p ∷ ps) h apart =
    elim (cases_eq a p) [
      | inl same ↦
          let rest : begins_line ps a ≡ false = ap (begins_line ps) same ∙ apart.1 in
          omega (arith, at_here k a p same, none_at k a ps rest)
      | inr other ↦
          let e : (a == p) ≡ false = grind (arith, nat_tests) in
          omega (arith, at_other k a p e, one_at k a ps (second (a == p) (begins_line ps a) h e) apart.2)
    ]

-- no line begins at 0
no_start : (ps : List ℕ) → AreApart ps → begins_line ps 0 ≡ false
no_start [] apart = refl
no_start (p ∷ ps) apart =
    let above : 0 < p = apart.0 in
    let e : (0 == p) ≡ false = grind (arith, nat_tests) in
    ap (λ b. b || begins_line ps 0) e ∙ no_start ps apart.2

whole_at : (k a : ℕ) (ps : List ℕ) → ((a == 0) || begins_line ps a) ≡ true → AreApart ps → at k a 0 + total (at k a) ps ≡ k
whole_at k a ps known apart =
    elim (cases_eq a 0) [
      | inl same ↦
          let none : begins_line ps a ≡ false = ap (begins_line ps) same ∙ no_start ps apart in
          omega (arith, at_here k a 0 same, none_at k a ps none)
      | inr other ↦
          let e : (a == 0) ≡ false = grind (arith, nat_tests) in
          omega (arith, at_other k a 0 e, one_at k a ps (second (a == 0) (begins_line ps a) known e) apart)
    ]

-- ---- the weights of steps

weight : (Step → ℕ) → List Step → ℕ → ℕ
weight w [] a = 0
weight w (t ∷ ts) a = at (w t) t.line a + weight w ts a

all : (Step → ℕ) → List Step → ℕ
all w [] = 0
all w (t ∷ ts) = w t + all w ts

-- each step belongs to no line or to one of these
Known : List ℕ → List Step → Type 0
Known ps [] = Unit {0}
Known ps (t ∷ ts) = (((t.line == 0) || begins_line ps t.line) ≡ true) × Known ps ts

whole_weight : (w : Step → ℕ) (ps : List ℕ) (ts : List Step) → Known ps ts → AreApart ps → weight w ts 0 + total (weight w ts) ps ≡ all w ts
unfolding weight all Known
whole_weight w ps [] known apart = omega (arith, total_none (λ p. 0) ps (λ p. refl))
whole_weight w ps (t ∷ ts) known apart =
    let one = whole_at (w t) t.line ps known.0 apart in
    let split = total_plus (at (w t) t.line) (weight w ts) ps in
    let rest = whole_weight w ps ts known.1 apart in
    omega (arith, one, split, rest)

weight_is : (w : Step → ℕ) (a : ℕ) (ts : List Step) → weight w ts a ≡ sum_by (λ t. if t.line == a then w t else 0) ts
unfolding weight at
weight_is w a ts = is_sum_by (λ us. weight w us a) (λ t. if t.line == a then w t else 0) refl (λ _ _. refl) ts

all_is : (w : Step → ℕ) (ts : List Step) → all w ts ≡ sum_by w ts
unfolding all
all_is w ts = is_sum_by (all w) w refl (λ _ _. refl) ts

length_is : (ts : List Step) → length ts ≡ sum_by (λ _. 1) ts
length_is ts = is_sum_by (λ (us : List Step). length us) (λ _. 1) refl (λ _ _. omega arith) ts

-- the sums over all addresses
whole_sum : (w : Step → ℕ) (f : ℕ → ℕ) (ps : List ℕ) (ts : List Step) → ((a : ℕ) → f a ≡ sum_by (λ t. if t.line == a then w t else 0) ts)
    → Known ps ts → AreApart ps → f 0 + total f ps ≡ sum_by w ts
whole_sum w f ps ts counts known apart =
    let same : (a : ℕ) → weight w ts a ≡ f a = λ a. weight_is w a ts ∙ sym (counts a) in
    omega (arith, same 0, total_same (weight w ts) f ps same, whole_weight w ps ts known apart, all_is w ts)

-- ---- the steps of a run

known_line : (addresses : List ℕ) (b : Bool) (line pc : ℕ) → b ≡ begins_line addresses pc → ((line == 0) || begins_line addresses line) ≡ true
    → ((line_by b line pc == 0) || begins_line addresses (line_by b line pc)) ≡ true
known_line addresses true line pc e h = or_right (pc == 0) (begins_line addresses pc) (sym e)
known_line addresses false line pc e h = h

known_steps : (addresses : List ℕ) (line : ℕ) (es : List Event) (s : State) → ((line == 0) || begins_line addresses line) ≡ true
    → Known addresses (steps addresses line es s)
unfolding Known
known_steps addresses line [] s h = tt
known_steps addresses line (Go k ∷ es) s h =
    let here : ((step_of addresses line s).line == 0) || begins_line addresses (step_of addresses line s).line ≡ true =
    known_line addresses (begins_line addresses s.regs.pc) line s.regs.pc refl h in
    (here, known_steps addresses (step_of addresses line s).line es (happens s (Go k)) here)
known_steps addresses line (Interrupt ws ∷ es) s h = known_steps addresses line es (happens s (Interrupt ws)) h

-- ---- the rows of a table

sum_rows : (ts : List Step) (f : Row → ℕ) (g : ℕ → ℕ) (starts : List (ℕ × ℕ)) → ((line address : ℕ) → f (row_of ts line address) ≡ g address)
    → sum_by f (map (λ s. row_of ts s.0 s.1) starts) ≡ total g (map (λ s. s.1) starts)
unfolding total
sum_rows ts f g [] h = refl
sum_rows ts f g (s ∷ starts) h =
    let more = sum_by-cons f (row_of ts s.0 s.1) (map (λ (x : ℕ × ℕ). row_of ts x.0 x.1) starts) in
    let here = h s.0 s.1 in
    let rest = sum_rows ts f g starts h in
    omega (arith, more, here, rest)

-- the table of a run's steps adds up if no two lines begin at one address
pub adds_up : (es : List Event) (s : State) (starts : List (ℕ × ℕ)) (table : Table) → IsTable (steps (map (λ s. s.1) starts) 0 es s) starts table
    → AreApart (map (λ s. s.1) starts) → AddsUp table
adds_up es s starts table is apart =
    let addresses : List ℕ = map (λ (x : ℕ × ℕ). x.1) starts in
    let ts : List Step = steps addresses 0 es s in
    let known : Known addresses ts = known_steps addresses 0 es s refl in
    let instructions : instructions_of ts 0 + total (instructions_of ts) addresses ≡ sum_by (λ _. 1) ts =
    whole_sum (λ _. 1) (instructions_of ts) addresses ts (λ a. refl) known apart in
    let cycles : cycles_of ts 0 + total (cycles_of ts) addresses ≡ sum_by (λ t. t.cycles) ts =
    whole_sum (λ t. t.cycles) (cycles_of ts) addresses ts (λ a. refl) known apart in
    let first : table.whole.start.instructions ≡ instructions_of ts 0 = ap (λ r. r.instructions) is.before in
    let before : table.whole.start.cycles ≡ cycles_of ts 0 = ap (λ r. r.cycles) is.before in
    let rows : sum_by (λ r. r.instructions) table.rows.items ≡ total (instructions_of ts) addresses =
    ap (sum_by (λ (r : Row). r.instructions)) is.rows ∙ sum_rows ts (λ r. r.instructions) (instructions_of ts) starts (λ line address. refl) in
    let spent : sum_by (λ r. r.cycles) table.rows.items ≡ total (cycles_of ts) addresses =
    ap (sum_by (λ (r : Row). r.cycles)) is.rows ∙ sum_rows ts (λ r. r.cycles) (cycles_of ts) starts (λ line address. refl) in
    record {
      instructions = omega (arith, instructions, first, rows, is.instructions, length_is ts);
      cycles = omega (arith, cycles, before, spent, is.cycles);
    }

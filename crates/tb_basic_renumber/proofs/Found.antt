-- What is found at a line's new number.
use Rattle.std.proofs.Common.{◌≡◌, ℕ, Bool, true, false, ◌||◌, if◌then◌else◌, List, [], ◌∷◌, map, Option, Some, None, option_map, refl, ap, ◌∙◌, subst, nat_eq, nat_lt}
use Rattle.tb_basic_syntax.specs.Source.{Statement, Program, numbers}
use Rattle.tb_basic_meaning.specs.Control.{Place, At, Past, has_line, content_at, next_after, first_place, highest}
use Rattle.tb_basic_renumber.specs.Jumps.{statement_fault, first_fault, fault_or}
use Rattle.tb_basic_renumber.specs.declared.jumps.JumpFault.{JumpFault}
use Rattle.tb_basic_renumber.specs.Renumbered.{new_number, moved, put_through}
use Rattle.tb_basic_renumber.specs.Runs.{moved_place}
use Rattle.tb_basic_renumber.proofs.Order.{same_number, first_line, other_line}

-- a place that is a line's, or past the last one
abbrev pub IsPlace : List ℕ → Place → Type 0
IsPlace ns (At n) = has_line ns n ≡ true
IsPlace ns Past = Unit {0}

other_place : (m : ℕ) (ms : List ℕ) (p : Place) → IsPlace ms p → IsPlace (m ∷ ms) p
other_place m ms (At n) h = other_line m ms n h
other_place m ms Past h = tt

-- the first line, and the one after a line, are places
pub first_is_place : (ns : List ℕ) → IsPlace ns (first_place ns)
first_is_place [] = tt
first_is_place (m ∷ ms) = first_line m ms

pub next_is_place : (ns : List ℕ) (n : ℕ) → IsPlace ns (next_after ns n)
next_is_place [] n = tt
next_is_place (m ∷ ms) n = go (next_is_place ms n) (nat_lt n m)
  where
    go : IsPlace ms (next_after ms n) → (b : Bool) → IsPlace (m ∷ ms) (if b then At m else next_after ms n)
    go later true = first_line m ms
    go later false = other_place m ms (next_after ms n) later

-- a line that a program has
pub content_is_line : (program : Program) (n : ℕ) (c : Statement) → content_at program n ≡ Some c → has_line (numbers program) n ≡ true
content_is_line [] n c h = absurd cc
content_is_line (line ∷ lines) n c h = go (content_is_line lines n c) (nat_eq line.number n) refl h
  where
    go : (content_at lines n ≡ Some c → has_line (numbers lines) n ≡ true) → (b : Bool) → nat_eq line.number n ≡ b → (if b then Some line.content else content_at lines n) ≡ Some c → (nat_eq line.number n || has_line (numbers lines) n) ≡ true
    go later true e h = ap (λ b. b || has_line (numbers lines) n) e
    go later false e h = other_line line.number (numbers lines) n (later h)

-- no line's jump has a fault if none is found
some_fault : (n : ℕ) (x : JumpFault) (rest : Option (ℕ × JumpFault)) → fault_or n (Some x) rest ≡ None → ⊥
some_fault n x rest h = cc

fault_first : (n : ℕ) (x : Option JumpFault) (rest : Option (ℕ × JumpFault)) → fault_or n x rest ≡ None → (x ≡ None) × (rest ≡ None)
fault_first n None rest h = (refl, h)
fault_first n (Some x) rest h = absurd (some_fault n x rest h)

some_same : (a b : Statement) → Some a ≡ Some b → a ≡ b
some_same a b h = cc

pub no_fault : (ns : List ℕ) (program : Program) (n : ℕ) (c : Statement) → first_fault ns program ≡ None → content_at program n ≡ Some c → statement_fault ns c ≡ None
no_fault ns [] n c none h = absurd cc
no_fault ns (line ∷ lines) n c none h =
    let both = fault_first line.number (statement_fault ns line.content) (first_fault ns lines) none in
    go both.0 (no_fault ns lines n c both.1) (nat_eq line.number n) h
  where
    go : statement_fault ns line.content ≡ None → (content_at lines n ≡ Some c → statement_fault ns c ≡ None) → (b : Bool)
        → (if b then Some line.content else content_at lines n) ≡ Some c → statement_fault ns c ≡ None
    go here later true h = subst (λ d. statement_fault ns d ≡ None) (some_same line.content c h) here
    go here later false h = later h

module _ (f : ℕ → ℕ) where
  -- the numbers of a program that was put through a map
  pub numbers_moved : (program : Program) → numbers (put_through f program) ≡ map f (numbers program)
  numbers_moved [] = refl
  numbers_moved (line ∷ lines) = ap (λ ns. f line.number ∷ ns) (numbers_moved lines)

  pub first_moved : (ns : List ℕ) → first_place (map f ns) ≡ moved_place f (first_place ns)
  first_moved [] = refl
  first_moved (m ∷ ms) = refl

  pub line_moved : (ns : List ℕ) (n : ℕ) → has_line ns n ≡ true → has_line (map f ns) (f n) ≡ true
  line_moved [] n h = absurd cc
  line_moved (m ∷ ms) n h = go (line_moved ms n) (nat_eq m n) refl h
    where
      go : (has_line ms n ≡ true → has_line (map f ms) (f n) ≡ true) → (b : Bool) → nat_eq m n ≡ b → (b || has_line ms n) ≡ true → (nat_eq (f m) (f n) || has_line (map f ms) (f n)) ≡ true
      go later true e h = subst (λ k. (nat_eq (f m) (f k) || has_line (map f ms) (f k)) ≡ true) (same_number m n e) (first_line (f m) (map f ms))
      go later false e h = other_line (f m) (map f ms) (f n) (later h)

  -- a number is compared with all of these as its new number with theirs
  abbrev KeepsLess : List ℕ → ℕ → Type 0
  KeepsLess ns n = (m : ℕ) → has_line ns m ≡ true → nat_lt (f n) (f m) ≡ nat_lt n m

  abbrev KeepsSame : List ℕ → ℕ → Type 0
  KeepsSame ns n = (m : ℕ) → has_line ns m ≡ true → nat_eq (f m) (f n) ≡ nat_eq m n

  pub next_moved : (ns : List ℕ) (n : ℕ) → ((m : ℕ) → has_line ns m ≡ true → nat_lt (f n) (f m) ≡ nat_lt n m) → next_after (map f ns) (f n) ≡ moved_place f (next_after ns n)
  next_moved [] n keeps = refl
  next_moved (m ∷ ms) n keeps =
      ap (λ b. if b then At (f m) else next_after (map f ms) (f n)) (keeps m (first_line m ms))
      ∙ go (next_moved ms n (λ k h. keeps k (other_line m ms k h))) (nat_lt n m)
    where
      go : next_after (map f ms) (f n) ≡ moved_place f (next_after ms n) → (b : Bool) → (if b then At (f m) else next_after (map f ms) (f n)) ≡ moved_place f (if b then At m else next_after ms n)
      go later true = refl
      go later false = later

  pub content_moved : (program : Program) (n : ℕ) → ((m : ℕ) → has_line (numbers program) m ≡ true → nat_eq (f m) (f n) ≡ nat_eq m n)
      → content_at (put_through f program) (f n) ≡ option_map (moved f) (content_at program n)
  content_moved [] n keeps = refl
  content_moved (line ∷ lines) n keeps =
      ap (λ b. if b then Some (moved f line.content) else content_at (put_through f lines) (f n)) (keeps line.number (first_line line.number (numbers lines)))
      ∙ go (content_moved lines n (λ k h. keeps k (other_line line.number (numbers lines) k h))) (nat_eq line.number n)
    where
      go : content_at (put_through f lines) (f n) ≡ option_map (moved f) (content_at lines n) → (b : Bool) → (if b then Some (moved f line.content) else content_at (put_through f lines) (f n))
          ≡ option_map (moved f) (if b then Some line.content else content_at lines n)
      go later true = refl
      go later false = later

  highest_moved : (m : ℕ) (ms : List ℕ) → highest (map f (m ∷ ms)) ≡ f (highest (m ∷ ms))
  highest_moved m [] = refl
  highest_moved m (k ∷ ms) = highest_moved k ms

-- the highest line's number, also where there is no line
pub highest_renumbered : (first step : ℕ) (ns : List ℕ) → highest (map (new_number first step ns) ns) ≡ new_number first step ns (highest ns)
highest_renumbered first step [] = refl
highest_renumbered first step (m ∷ ms) = highest_moved (new_number first step (m ∷ ms)) m ms

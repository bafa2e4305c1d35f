-- Which calculations change a word in place, and what becomes of the word.
use Rattle.std.proofs.Common.{◌≡◌, ℕ, ◌+◌, ◌-◌, ◌*◌, ◌<◌, Bool, true, false, refl, ap, ◌∙◌, arith, Option, Some, None}
use Rattle.std.specs.Prelude.{if◌then◌else◌, nat_eq, nat_lt}
use Rattle.std.proofs.lemmas.Bool.{eqb-true, ltb-true}
use Rattle.tb_words.specs.Words.{quotient, word}
use Rattle.tb_basic_syntax.specs.declared.expressions.Operator.{Operator}
use Rattle.tb_basic_syntax.specs.declared.expressions.Operator.TheVariants.{Add, Subtract, Multiply, Divide}
use Rattle.tb_basic_meaning.specs.Values.{apply}
use Rattle.tb_compiler_templates.specs.declared.sources.Source.{Source}
use Rattle.tb_compiler_templates.specs.declared.sources.Source.TheVariants.{FixedWord, AtAddress}
use Rattle.tb_compiler_templates.specs.declared.in_place.Change.{Change}
use Rattle.tb_compiler_templates.specs.declared.in_place.Change.TheVariants.{Increment, Decrement, Raise, Lower, Halve, Double}
use Rattle.tb_compiler_templates.specs.InPlace.{raising, lowering, with_right, with_left, change_of}

-- the word afterwards
abbrev pub changed : Change → ℕ → ℕ
changed Increment x = word (x + 1)
changed Decrement x = word (x + 65535)
changed (Raise c) x = word (x + c)
changed (Lower c) x = word (x + (65536 - c))
changed Halve x = quotient x 2
changed Double x = word (2 * x)

-- its constant is a byte
abbrev pub IsByte : Change → Type 0
IsByte (Raise c) = c < 256
IsByte (Lower c) = c < 256
IsByte _ = Unit {0}

-- a change does to a word what a function with the constant w does
pub record Computes (c : Change) (w : ℕ) (of : ℕ → Option ℕ) : Type 0 where
  pub few : IsByte c
  pub is : w < 65536 → (x : ℕ) → of x ≡ Some (changed c x)

-- a change, if there is one, does to a word what a function with the constant w does
abbrev IfAny : Option Change → ℕ → (ℕ → Option ℕ) → Type 0
IfAny (Some c) w of = Computes c w of
IfAny None w of = Unit {0}

-- by a test before others
first_of : (t : Bool) (c : Change) (o : Option Change) (w : ℕ) (of : ℕ → Option ℕ) → (t ≡ true → Computes c w of) → IfAny o w of → IfAny (if t then Some c else o) w of
first_of true c o w of h k = h refl
first_of false c o w of h k = k

to_some : (a b : ℕ) → a ≡ b → ◌≡◌ {A = Option ℕ} (Some a) (Some b)
to_some a b e = ap (λ x. Some x) e

raising_is : (w : ℕ) (of : ℕ → Option ℕ) → ((x : ℕ) → of x ≡ Some (word (x + w))) → IfAny (raising w) w of
raising_is w of sum =
    first_of (nat_eq w 1) Increment _ w of (λ e. record { few = tt; is = λ h x. sum x ∙ to_some _ _ (let q = eqb-true w 1 e in omega (arith, q)) })
    (first_of (nat_eq w 65535) Decrement _ w of (λ e. record { few = tt; is = λ h x. sum x ∙ to_some _ _ (let q = eqb-true w 65535 e in omega (arith, q)) })
    (first_of (nat_lt w 256) (Raise w) _ w of (λ e. record { few = ltb-true w 256 e; is = λ h x. sum x })
    (first_of (nat_lt 65280 w) (Lower (65536 - w)) _ w of (λ e. let q = ltb-true 65280 w e in record { few = omega (arith, q); is = λ h x. sum x ∙ to_some _ _ (omega (arith, q, h)) }) tt)))

lowering_is : (w : ℕ) (of : ℕ → Option ℕ) → ((x : ℕ) → of x ≡ Some (word (x + (65536 - w)))) → IfAny (lowering w) w of
lowering_is w of sum =
    first_of (nat_eq w 1) Decrement _ w of (λ e. record { few = tt; is = λ h x. sum x ∙ to_some _ _ (let q = eqb-true w 1 e in omega (arith, q)) })
    (first_of (nat_eq w 65535) Increment _ w of (λ e. record { few = tt; is = λ h x. sum x ∙ to_some _ _ (let q = eqb-true w 65535 e in omega (arith, q)) })
    (first_of (nat_lt w 256) (Lower w) _ w of (λ e. record { few = ltb-true w 256 e; is = λ h x. sum x })
    (first_of (nat_lt 65280 w) (Raise (65536 - w)) _ w of (λ e. let q = ltb-true 65280 w e in record { few = omega (arith, q); is = λ h x. sum x }) tt)))

doubling_is : (w : ℕ) (of : ℕ → Option ℕ) → (w ≡ 2 → (x : ℕ) → of x ≡ Some (word (2 * x))) → IfAny (if nat_eq w 2 then Some Double else None) w of
doubling_is w of twice = first_of (nat_eq w 2) Double None w of (λ e. record { few = tt; is = λ h x. twice (eqb-true w 2 e) x }) tt

right_is : (op : Operator) (w : ℕ) → IfAny (with_right op w) w (λ x. apply op x w)
right_is Add w = raising_is w (λ x. apply Add x w) (λ x. refl)
right_is Subtract w = lowering_is w (λ x. apply Subtract x w) (λ x. refl)
right_is Multiply w = doubling_is w (λ x. apply Multiply x w) (λ e x. to_some _ _ (ap (λ v. word (x * v)) e ∙ (let q : word (x * 2) ≡ word (2 * x) = omega arith in q)))
right_is Divide w = first_of (nat_eq w 2) Halve None w (λ x. apply Divide x w) (λ e. record { few = tt; is = λ h x. ap (λ v. apply Divide x v) (eqb-true w 2 e) }) tt

left_is : (op : Operator) (v : ℕ) → IfAny (with_left op v) v (λ x. apply op v x)
left_is Add v = raising_is v (λ x. apply Add v x) (λ x. to_some _ _ (omega arith))
left_is Subtract v = tt
left_is Multiply v = doubling_is v (λ x. apply Multiply v x) (λ e x. to_some _ _ (ap (λ u. word (u * x)) e))
left_is Divide v = tt

-- a change of the word at an address by a constant
pub data IsChange (op : Operator) (a b : Source) (to : ℕ) : Option Change → Type 0 where
  of_left : (w : ℕ) (c : Change) → a ≡ AtAddress to → b ≡ FixedWord w → Computes c w (λ x. apply op x w) → IsChange op a b to (Some c)
  of_right : (v : ℕ) (c : Change) → a ≡ FixedWord v → b ≡ AtAddress to → Computes c v (λ x. apply op v x) → IsChange op a b to (Some c)
  elsewhere : IsChange op a b to None

-- `change_of` finds a change only if the calculation is one
pub change_is : (op : Operator) (a b : Source) (to : ℕ) → IsChange op a b to (change_of op a b to)
change_is op (AtAddress p) (FixedWord w) to = by (nat_eq p to) refl (with_right op w) (right_is op w)
  where
    by : (t : Bool) → nat_eq p to ≡ t → (o : Option Change) → IfAny o w (λ x. apply op x w) → IsChange op (AtAddress p) (FixedWord w) to (if t then o else None)
    by true e (Some c) h = of_left w c (ap AtAddress (eqb-true p to e)) refl h
    by true e None h = elsewhere
    by false e o h = elsewhere
change_is op (FixedWord v) (AtAddress q) to = by (nat_eq q to) refl (with_left op v) (left_is op v)
  where
    by : (t : Bool) → nat_eq q to ≡ t → (o : Option Change) → IfAny o v (λ x. apply op v x) → IsChange op (FixedWord v) (AtAddress q) to (if t then o else None)
    by true e (Some c) h = of_right v c refl (ap AtAddress (eqb-true q to e)) h
    by true e None h = elsewhere
    by false e o h = elsewhere
change_is op (FixedWord v) (FixedWord w) to = elsewhere
change_is op (AtAddress p) (AtAddress q) to = elsewhere

-- The end of what was sent tells the fault.
use Rattle.std.proofs.Common.{◌≡◌, ◌⊎◌, inl, inr, ℕ, ◌+◌, ◌-◌, ◌<◌, ◌≤◌, List, [], ◌∷◌, ◌++◌, Bool, Option, length, length-append, drop, refl, ap, sym, ◌∙◌, subst, arith}
use Rattle.std.proofs.Math.Seq.{drop-append-add}
use Rattle.std.specs.Prelude.{nat_eq, codes}
use Rattle.std.specs.List.{ends_with, find}
use Rattle.std.specs.Cmp.Lexicographic.{pointwise}
use Rattle.std.specs.Fmt.{decimal}
use Rattle.std.proofs.lemmas.Fmt.{decimal_digit}
use Rattle.tb_kernal.specs.Sending.{KnowsLast}
use Rattle.tb_words.proofs.Decimal.{at_most_five, one_long}
use Rattle.tb_debug_inspection.specs.Faults.{fault_in, fault_text, faults, is_fault, line_in, longest_fault, number_of}
use Rattle.tb_debug_inspection.specs.declared.faults.FaultKind.{FaultKind}
use Rattle.tb_debug_inspection.specs.declared.faults.FaultKind.TheVariants.{Stopped, NoSuchLine, DividedByZero, BadBound, TooManyCalls, NoCall, NoNumber, RanPast}

-- the number of a fault is a digit
pub below_ten : (k : FaultKind) → number_of k < 10
below_ten Stopped = omega arith
below_ten NoSuchLine = omega arith
below_ten DividedByZero = omega arith
below_ten BadBound = omega arith
below_ten TooManyCalls = omega arith
below_ten NoCall = omega arith
below_ten NoNumber = omega arith
below_ten RanPast = omega arith

-- the text of a fault, put together of what comes before its line, the line, and a carriage return
pub spelled : (line : ℕ) (k : FaultKind) → fault_text line k ≡ (13 ∷ 33 ∷ (48 + number_of k) ∷ 32 ∷ 65 ∷ 84 ∷ 32 ∷ decimal line) ++ 13 ∷ []
spelled line k = ap (λ d. 13 ∷ 33 ∷ (d ++ (codes " AT " ++ (decimal line ++ 13 ∷ [])))) (decimal_digit (number_of k) (below_ten k))

-- how long the text of a fault is
pub as_long : (line : ℕ) (k : FaultKind) → length (fault_text line k) ≡ length (decimal line) + 8
as_long line k =
    let number = one_long (number_of k) (below_ten k) in
    let behind = length-append (decimal line) (13 ∷ []) in
    let rest = length-append (codes " AT ") (decimal line ++ 13 ∷ []) in
    let all = length-append (decimal (number_of k)) (codes " AT " ++ (decimal line ++ 13 ∷ [])) in
    omega (arith, number, behind, rest, all)

-- no text of a fault is longer than the longest
pub within : (line : ℕ) (k : FaultKind) → line < 65536 → length (fault_text line k) ≤ longest_fault
within line k low = let long = as_long line k in let few = at_most_five line low in omega (arith, long, few)

ends_alike : (earlier sent text : List ℕ) → length text ≤ length sent → ends_with nat_eq (earlier ++ sent) text ≡ ends_with nat_eq sent text
ends_alike earlier sent text short =
    let long = length-append earlier sent in
    let at : length (earlier ++ sent) - length text ≡ length earlier + (length sent - length text) = omega (arith, long, short) in
    ap (pointwise nat_eq text) (ap (λ n. drop n (earlier ++ sent)) at ∙ drop-append-add earlier sent (length sent - length text))

-- the end of what was sent tells the fault that all of it tells
pub same_end : (earlier sent : List ℕ) (m : ℕ → ℕ) → line_in m < 65536 → KnowsLast longest_fault earlier sent → fault_in (earlier ++ sent) m ≡ fault_in sent m
same_end earlier sent m low (inl none) = ap (λ e. fault_in (e ++ sent) m) none
same_end earlier sent m low (inr many) =
    ap (λ p. find p faults) (λ i k. ends_alike earlier sent (fault_text (line_in m) k) (let short = within (line_in m) k low in omega (arith, short, many)) i)

-- Where the lines of a program that is laid by groups begin.
use Rattle.std.proofs.Common.{◌≡◌, ℕ, Bool, cond, ◌+◌, ◌/◌, ◌%◌, ◌≤◌, ◌<◌, true, false, List, Option, Some, None, refl, sym, ap, ◌∙◌, subst, arith}
use Rattle.tb_basic_meaning.specs.Control.{content_at, has_line}
use Rattle.tb_lower.specs.Slots.{Instr, SlotCode}
use Rattle.tb_asm.specs.Layout.{distance}
use Rattle.tb_machine_reaching.specs.View.{Part}
use Rattle.tb_machine_reaching.proofs.Instr.{Stands}
use Rattle.tb_proof_simulation.specs.Layout.{Layout, inner}
use Rattle.tb_compiled_kept.specs.LineStarts.{is_start}
use Rattle.tb_proof_simulation.proofs.LineStarts.{AreApart, has_content, not_inner}
use Rattle.tb_proof_simulation.proofs.Resolved.{Lies, highest_code}
use Rattle.tb_proof_correctness.proofs.Pieces.Branches.{added, branch_size, gets_there}
use Rattle.tb_proof_correctness.proofs.CodeBytes.GroupCode.{GroupsLaid, LineStands, Way, Short, Long, Zero, BranchReaches, branch_code, branch_on, broken_code, way_size}

-- a line's number is read where its poll leads for the STOP key
module _ (code : Part) where
  same_byte : (p a b : ℕ) → code p ≡ Some a → code p ≡ Some b → a ≡ b
  same_byte p a b h k = let e : Some a ≡ Some b = sym h ∙ k in cc

  same_number : (at n m : ℕ) → n < 65536 → m < 65536 → Lies code at (broken_code n) → Lies code at (broken_code m) → n ≡ m
  same_number at n m small small' h k =
      let low = same_byte _ (n % 256) (m % 256) h.1.0.1.0 k.1.0.1.0 in
      let high = same_byte _ (n / 256) (m / 256) h.1.1.0.1.0 k.1.1.0.1.0 in
      omega (arith, low, high, small, small')

  -- a short branch leads where its distance says, and a long one where its jump says
  same_target : (at a b : ℕ) (way other : Way) → at + 2 ≤ highest_code → Stands code at (branch_code way (branch_on Zero true) at a)
      → Stands code at (branch_code other (branch_on Zero true) at b) → BranchReaches way at a → BranchReaches other at b → a ≡ b
  same_target at a b Short Short below h k r q =
      let d = same_byte _ (distance at a % 256) (distance at b % 256) h.0.1.0 k.0.1.0 in
      sym (gets_there at a below r.1 r.0) ∙ ap (added at) d ∙ gets_there at b below q.1 q.0
  same_target at a b Long Long below h k r q =
      let low = same_byte _ (a % 256) (b % 256) h.1.0.1.0 k.1.0.1.0 in
      let high = same_byte _ (a / 256) (b / 256) h.1.0.1.1.0 k.1.0.1.1.0 in
      omega (arith, low, high)
  same_target at a b Short Long below h k r q = absurd (let no = same_byte _ _ _ h.0.0 k.0.0 in omega (arith, no))
  same_target at a b Long Short below h k r q = absurd (let no = same_byte _ _ _ h.0.0 k.0.0 in omega (arith, no))

  -- a branch over the same code has the same way
  same_size : (at a b : ℕ) (way other : Way) → Stands code at (branch_code way (branch_on Zero false) at a)
      → Stands code at (branch_code other (branch_on Zero false) at b) → way_size way ≡ way_size other
  same_size at a b Short Short h k = refl
  same_size at a b Long Long h k = refl
  same_size at a b Short Long h k = absurd (let no = same_byte _ _ _ h.0.0 k.0.0 in omega (arith, no))
  same_size at a b Long Short h k = absurd (let no = same_byte _ _ _ h.0.0 k.0.0 in omega (arith, no))

  -- a branch if STOP was pressed that could be taken for one over a fault leads to that fault
  same_fault : (at a b m : ℕ) (way other : Way) → at + 2 ≤ highest_code → Stands code at (branch_code way (branch_on Zero true) at a)
      → Stands code at (branch_code other (branch_on Zero false) at b) → BranchReaches way at a → Lies code (at + way_size other) (broken_code m) → a ≡ at + way_size other
  same_fault at a b m Short Short below h k r l = absurd (let no = same_byte _ _ _ h.0.0 k.0.0 in omega (arith, no))
  same_fault at a b m Long Long below h k r l = absurd (let no = same_byte _ _ _ h.0.0 k.0.0 in omega (arith, no))
  same_fault at a b m Short Long below h k r l =
      let d = same_byte _ (distance at a % 256) 3 h.0.1.0 k.0.1.0 in
      let over : added at 3 ≡ at + 5 = omega (arith, below) in
      sym (gets_there at a below r.1 r.0) ∙ ap (added at) d ∙ over
  same_fault at a b m Long Short below h k r l =
      let jump : code (at + 2) ≡ Some 0x4C = subst (λ p. code p ≡ Some 0x4C) (let e : (at + 2) % 65536 ≡ at + 2 = omega (arith, below) in e) h.1.0.0 in
      absurd (let no = same_byte _ _ _ jump l.1.0.0 in omega (arith, no))

  -- what is done for the STOP key is at the same place
  same_stop : (at a b n m : ℕ) (away other : Bool) (way by : Way) → at + 2 ≤ highest_code
      → Stands code at (branch_code way (branch_on Zero away) at a) → Stands code at (branch_code by (branch_on Zero other) at b)
      → BranchReaches way at a → BranchReaches by at b → Lies code (cond away a (at + way_size way)) (broken_code n)
      → Lies code (cond other b (at + way_size by)) (broken_code m) → cond away a (at + way_size way) ≡ cond other b (at + way_size by)
  same_stop at a b n m true true way by below h k r q l j = same_target at a b way by below h k r q
  same_stop at a b n m false false way by below h k r q l j = ap (λ z. at + z) (same_size at a b way by h k)
  same_stop at a b n m true false way by below h k r q l j = same_fault at a b m way by below h k r j
  same_stop at a b n m false true way by below h k r q l j = sym (same_fault at b a n by way below k h q l)

-- a branch has two bytes or more
some_bytes : (way : Way) → 2 ≤ way_size way
some_bytes Short = omega arith
some_bytes Long = omega arith

module _ (ly : Layout) (whole : Part) (sc : SlotCode) (laid : GroupsLaid ly (inner ly whole) whole sc) where
  below : (n : ℕ) → ly.start n < 0xA000
  below n = by (content_at sc n) refl
    where
      by : (o : Option (List Instr)) → content_at sc n ≡ o → ly.start n < 0xA000
      by (Some js) e = let p = laid.lines n js e in omega (arith, p.stands.3)
      by None e = omega (arith, laid.absent n e, laid.past.0)

  past : is_start ly.start ly.numbers ly.past ≡ false
  past = not_inner ly whole ly.past _ laid.past.1.0.0

  -- a number of the layout has a list
  listed : (n : ℕ) → has_line ly.numbers n ≡ true → (js : List Instr) × (content_at sc n ≡ Some js)
  listed n e = has_content sc n (ap (λ ns. has_line ns n) laid.numbered ∙ e)

  distinct : (n m : ℕ) → has_line ly.numbers n ≡ true → has_line ly.numbers m ≡ true → ly.start n ≡ ly.start m → n ≡ m
  distinct n m e q same =
      let a = listed n e in
      let b = listed m q in
      let l = laid.lines n a.0 a.1 in
      let k = laid.lines m b.0 b.1 in
      let there : LineStands ly (inner ly whole) whole n (ly.start m) l.rest = subst (λ p. LineStands ly (inner ly whole) whole n p l.rest) same l.stands in
      let within = inner ly whole in
      let at = ly.start m + 5 in
      let branch : ly.start m + 3 + 2 ≡ at = omega arith in
      let x = there.0 in let y = k.stands.0 in
      let mine = subst (λ p. Stands within p (branch_code there.1 (branch_on Zero x) p there.2)) branch there.5.2.1 in
      let other = subst (λ p. Stands within p (branch_code k.stands.1 (branch_on Zero y) p k.stands.2)) branch k.stands.5.2.1 in
      let stop = same_stop within at there.2 k.stands.2 n m x y there.1 k.stands.1 (let b = there.5.2.0 in
      let z = branch_size there.1 Zero x (ly.start m + 3 + 2) there.2 in let w = some_bytes there.1 in omega (arith, b, z, w))
      mine other there.6 k.stands.6 there.7 k.stands.7 in
      same_number within _ n m l.small k.small (subst (λ p. Lies within p (broken_code n)) stop there.7) k.stands.7

  -- the lines of a program are apart
  pub lines_apart : AreApart ly sc
  lines_apart = record { numbered = laid.numbered; absent = laid.absent; below = below; past = past; distinct = distinct }

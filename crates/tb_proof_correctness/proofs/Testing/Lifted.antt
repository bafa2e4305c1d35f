-- A word compared with a constant, the highest bits of both turned, and the branch on C.
use Rattle.std.proofs.Common.{not, ◌≡◌, ℕ, ◌+◌, ◌/◌, ◌%◌, ◌≤◌, ◌<◌, Bool, true, false, cond, List, [], ◌∷◌, length, refl, sym, ap, ◌∙◌, subst, arith, leb, int_lt}
use Rattle.std.specs.Prelude.{if◌then◌else◌, nat_eq, nat_le, bit_xor}
use Rattle.std.proofs.lemmas.Bool.{eqb-true, le-leb}
use Rattle.tb_cpu.specs.Effects.{bit}
use Rattle.tb_words.specs.Words.{signed}
use Rattle.tb_machine_reaching.proofs.Comes.{chained, looser}
use Rattle.tb_machine_reaching.proofs.Instr.{Stands, ins}
use Rattle.tb_machine_reaching.specs.View.{Fits, Setup}
use Rattle.tb_runtime16.specs.Routines.{Here, Moves}
use Rattle.tb_proof_simulation.proofs.Mirrors.{Carrying}
use Rattle.tb_proof_simulation.proofs.Pieces.{moves_then, moves_looser}
use Rattle.tb_proof_simulation.proofs.Resolved.{Lies, highest_code, pieces_size, size}
use Rattle.tb_compiler_templates.specs.declared.sources.Source.{Source}
use Rattle.tb_proof_correctness.proofs.Pieces.Sources.{Fixed, value, lda, cmp, sbc, len, behind, compares_byte, loads_with, takes_byte}
use Rattle.tb_proof_correctness.proofs.CodeBytes.GroupCode.{AgainstReaches, Carry, Way, against_code, high, lifted, lifted_both, lifted_high, low, way_size, weighed}
use Rattle.tb_proof_correctness.proofs.Pieces.Branches.{branch_behind, branch_size, branches, is_taken}
use Rattle.tb_proof_correctness.proofs.Relation.Operands.{SourceHolds}
use Rattle.tb_proof_correctness.proofs.Pieces.Sums.{Grounded, low_read, high_read}
use Rattle.tb_proof_correctness.proofs.Pieces.ShiftSteps.{turns}
use Rattle.tb_proof_correctness.proofs.Testing.SignedOrder.{lifted_less, turned}
use Rattle.tb_proof_correctness.proofs.Testing.Tests.{weighs}

-- the branch leads on if the word is below, or, if it leaves for that, if it is not
leads_on : (below less : Bool) (next end : ℕ) → cond (is_taken (not below) (not less)) next end ≡ cond (turned below less) end next
leads_on true true next end = refl
leads_on true false next end = refl
leads_on false true next end = refl
leads_on false false next end = refl

module _ (f : Setup) (room : ℕ) (fits : Fits f room) (at : ℕ) (bs : List ℕ) (m : ℕ → ℕ) (text answers : List ℕ) (small : leb (length bs) room ≡ true)
    (a : Source) (x w : ℕ) (ga : Grounded a 0) (ha : SourceHolds m a x) (word : w < 65536) where
  -- whether the low byte is not below the constant's, and what C is by that
  abbrev c : Bool
  c = nat_le (w % 256) (value m (low a))

  abbrev least : ℕ
  least = (w / 256 + 128) % 256

  abbrev less : Bool
  less = int_lt (signed x) (signed w)

  -- the addresses of the instructions
  abbrev p2 : ℕ
  p2 = at + size (weighed (low a) (Fixed (w % 256)))

  abbrev p3 : ℕ
  p3 = p2 + len (lda (high a))

  abbrev end : ℕ
  end = at + size (lifted a w)

  by_both : at + size (lifted_both a w) ≤ highest_code → Stands f.code at (lifted_both a w) → Moves f (Here at bs m text answers)
      (Carrying (at + size (lifted_both a w)) bs m text answers (not less)) [] 5
  by_both r st =
      let t3 = sbc (Fixed least) ∷ [] in
      let t2 = ins 0x49 128 ∷ t3 in
      let t1 = lda (high a) ∷ t2 in
      let s1 = behind f.code at (lda (low a)) (cmp (Fixed (w % 256)) ∷ t1) (omega (arith, r)) st in
      let s2 = behind f.code (at + len (lda (low a))) (cmp (Fixed (w % 256))) t1 (omega (arith, r)) s1 in
      let here : at + len (lda (low a)) + 2 ≡ p2 = omega arith in
      let s2' = subst (λ p. Stands f.code p t1) here s2 in
      let s3 = behind f.code p2 (lda (high a)) t2 (omega (arith, r)) s2' in
      let s4 = behind f.code p3 (ins 0x49 128) t3 (omega (arith, r)) s3 in
      moves_then f _ _ _ [] [] 2 3 (weighs f room fits at bs m text answers small (low a) (Fixed (w % 256)) (omega (arith, r)) (low_read a 0 ga) tt (st.0, (st.1.0, tt)))
      (moves_then f _ _ _ [] [] 1 2 (λ u g. loads_with f room fits p2 bs m text answers small (high a) c (high_read a 0 ga) (omega (arith, r)) s2'.0 u (record { here = g.here; carry = g.carry }))
      (moves_then f _ _ _ [] [] 1 1 (turns f room fits p3 bs m text answers small 128 (value m (high a)) c (omega (arith, r)) s3.0)
      (moves_looser f _ _ _ [] 1 1 (omega arith)
      (λ u k. record {
        here = record {
          pc = k.here.pc ∙ (let q : p3 + 2 + 2 ≡ at + size (lifted_both a w) = omega arith in q);
          stack = k.here.stack;
          binary = k.here.binary;
          mem = k.here.mem;
          text = k.here.text;
          answers = k.here.answers;
        };
        carry = k.carry
            ∙ lifted_less (value m (low a)) (value m (high a)) x w ha.low_byte ha.high_byte ha.small word;
      })
      (takes_byte f room fits (p3 + 2) bs m text answers small (Fixed least) (bit_xor (value m (high a)) 128) c tt (omega (arith, r)) s4.0))))

  -- by the high bytes
  by_high : w % 256 ≡ 0 → at + size (lifted_high a w) ≤ highest_code → Stands f.code at (lifted_high a w) → Moves f (Here at bs m text answers)
      (Carrying (at + size (lifted_high a w)) bs m text answers (not less)) [] 3
  by_high none r st v h =
      let p1 = at + len (lda (high a)) in
      let s1 = behind f.code at (lda (high a)) (ins 0x49 128 ∷ cmp (Fixed least) ∷ []) (omega (arith, r)) st in
      let s2 = behind f.code p1 (ins 0x49 128) (cmp (Fixed least) ∷ []) (omega (arith, r)) s1 in
      let all : c ≡ true = le-leb (w % 256) (value m (low a)) (omega (arith, none)) in
      let same : least ≡ least + bit (not c) = (let e : least ≡ least + 0 = omega arith in e) ∙ ap (λ t. least + bit (not t)) (sym all) in
      moves_then f _ _ _ [] [] 1 2 (loads_with f room fits at bs m text answers small (high a) v.regs.flags.c (high_read a 0 ga) (omega (arith, r)) st.0)
      (moves_then f _ _ _ [] [] 1 1 (turns f room fits p1 bs m text answers small 128 (value m (high a)) v.regs.flags.c (omega (arith, r)) s1.0)
      (moves_looser f _ _ _ [] 1 1 (omega arith)
      (λ u k. record {
        here = record {
          pc = k.here.pc ∙ (let q : p1 + 2 + 2 ≡ at + size (lifted_high a w) = omega arith in q);
          stack = k.here.stack;
          binary = k.here.binary;
          mem = k.here.mem;
          text = k.here.text;
          answers = k.here.answers;
        };
        carry = k.carry ∙ ap (λ n. nat_le n (bit_xor (value m (high a)) 128)) same
            ∙ lifted_less (value m (low a)) (value m (high a)) x w ha.low_byte ha.high_byte ha.small word;
      })
      (λ u k. compares_byte f room fits (p1 + 2) bs m text answers small (Fixed least) (bit_xor (value m (high a)) 128) tt (omega (arith, r)) s2.0 u (record { here = k.here; number = k.number }))))
      v (record { here = h; carry = refl })

  -- by either
  by_bytes : (t : Bool) → nat_eq (w % 256) 0 ≡ t → at + size (if t then lifted_high a w else lifted_both a w) ≤ highest_code
      → Stands f.code at (if t then lifted_high a w else lifted_both a w) → Moves f (Here at bs m text answers)
      (Carrying (at + size (if t then lifted_high a w else lifted_both a w)) bs m text answers (not less)) [] 5
  by_bytes true e r st = moves_looser f _ _ _ [] 3 5 (omega arith) (λ u k. k) (by_high (eqb-true _ _ e) r st)
  by_bytes false e r st = by_both r st

  compares : end ≤ highest_code → Stands f.code at (lifted a w) → Moves f (Here at bs m text answers) (Carrying end bs m text answers (not less)) [] 5
  compares = by_bytes (nat_eq (w % 256) 0) refl

  module _ (below : Bool) (first : Way) (next : ℕ) (lies : Lies f.code at (against_code below first at a w next)) (reach : AgainstReaches first at a w next) where
    end_is : end + way_size first ≡ at + pieces_size (against_code below first at a w next)
    end_is = omega (arith, branch_size first Carry (not below) end next)

    -- where the test leads
    pub tests_against : Moves f (Here at bs m text answers) (Here (cond (turned below less) (at + pieces_size (against_code below first at a w next)) next) bs m text answers) [] 7
    tests_against v h =
        chained f v _ _ [] [] 5 2 (compares lies.0 lies.1 v h) (λ u g.
        looser f u _ _ [] 2 2 (omega arith) (λ z k. subst (λ e. Here (cond (turned below less) e next) bs m text answers z) end_is
        (subst (λ p. Here p bs m text answers z) (leads_on below less next (end + way_size first)) k.here))
        (branches f room fits bs m text answers small end first Carry (not below) (not less) next (branch_behind f end first Carry (not below) next [] lies.2).0 reach lies.2.1 u g.here g.carry))

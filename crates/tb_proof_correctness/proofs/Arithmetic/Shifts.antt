-- The law of a quotient over a power of two, which is computed by shifts and can't fault.
use Rattle.std.proofs.Common.{◌≡◌, ◌≢◌, ℕ, zero, suc, ◌+◌, ◌*◌, ◌/◌, ◌%◌, ◌^◌, ◌≤◌, ◌<◌, Bool, true, false, true≢false, List, []}
use Rattle.std.proofs.Common.{◌∷◌, ◌++◌, length, refl, sym, ap, ◌∙◌, subst, arith, leb}
use Rattle.std.specs.Prelude.{if◌then◌else◌, nat_eq, nat_le, nat_lt}
use Rattle.std.proofs.lemmas.Bool.{eq-eqb, eqb-true, ltb-false, ltb-true}
use Rattle.tb_cpu.specs.Effects.{bit, has_bit}
use Rattle.tb_memmap.specs.Bytes.{with_byte}
use Rattle.tb_words.specs.Words.{quotient, word}
use Rattle.tb_basic_syntax.specs.declared.expressions.Operator.TheVariants as op
use Rattle.tb_basic_meaning.specs.Control.{State}
use Rattle.tb_lower.specs.Slots.{Slots, SlotCode}
use Rattle.tb_lower.specs.Slots.{Instr as SlotInstr}
use Rattle.tb_machine_reaching.proofs.Comes.{chained, looser}
use Rattle.tb_machine_reaching.proofs.Instr.{Instr, Stands, ins}
use Rattle.tb_machine_reaching.proofs.Memory.{put_other, put_same}
use Rattle.tb_machine_reaching.specs.View.{Comes, Fits, Setup, View}
use Rattle.tb_compiled_kept.specs.Addresses.{LEFT}
use Rattle.tb_runtime16.specs.Routines.{Here, Moves, WithA}
use Rattle.tb_proof_simulation.proofs.Pieces.{put_word}
use Rattle.tb_proof_simulation.proofs.Resolved.{Code, Lies, highest_code, pieces_size, size}
use Rattle.tb_compiler_selection.specs.Groups.{Operand, Destination, Calculate, slot_of}
use Rattle.tb_compiler_selection.specs.Liveness.{live}
use Rattle.tb_compiler_selection.specs.Select.{select}
use Rattle.tb_compiler_templates.specs.declared.sources.Source.{Source}
use Rattle.tb_compiler_templates.specs.Sources.{destination_at, source_of}
use Rattle.tb_proof_correctness.proofs.CodeBytes.GroupCode.{GroupsLie, carried, cut, halved, halvings, high, high_first, low, lowered, rounded, shifted, signed, widened}
use Rattle.tb_proof_correctness.proofs.Pieces.Halves.{halve, halve_small, halve_times, halves_are, high_half, low_half, more, more_small, over_128, over_256, quotient_small}
use Rattle.tb_proof_correctness.proofs.Pieces.Halves.{raised_high, raised_low, sign_is}
use Rattle.tb_proof_correctness.proofs.Relation.GroupInvariants.{kept, kept_scratch}
use Rattle.tb_proof_correctness.proofs.Relation.Matching.{Matches}
use Rattle.tb_proof_correctness.proofs.Relation.Operands.{SourceHolds, dest_beyond}
use Rattle.tb_proof_correctness.proofs.Relation.Ready.{Ready, here}
use Rattle.tb_proof_correctness.proofs.Pieces.ShiftSteps.{Beyond, carries, ends_high, halves, lifts, rounds, signs, signs_a, size_append, stands_split, widens}
use Rattle.tb_proof_correctness.proofs.Slots.SlotSide.{calculated, landed, line, spread}
use Rattle.tb_proof_correctness.proofs.Pieces.Sources.{value}
use Rattle.tb_proof_correctness.proofs.Pieces.Sums.{Grounded}
use Rattle.tb_proof_correctness.proofs.Relation.Surroundings.{Surroundings}
use Rattle.tb_proof_correctness.proofs.Arithmetic.Calculated.{Leads, calculation, fit, leads_on, left_apart, left_holds, quotient_is, result_lands}
use Rattle.tb_proof_simulation.proofs.Returning.{apart}

module _ (f : Setup) (room : ℕ) (fits : Fits f room) (bs : List ℕ) (m : ℕ → ℕ) (text answers : List ℕ) (small : leb (length bs) room ≡ true) where
  -- the high byte of a word in A and its low byte in LEFT; the rest of the memory is m
  pub record HighInA (at v : ℕ) (w : View) : Type 0 where
    pub here : Here at bs w.mem text answers w
    pub high : w.regs.a ≡ v / 256
    pub low : w.mem LEFT ≡ v % 256
    pub is_word : v < 65536
    pub others : (p : ℕ) → p ≢ LEFT → w.mem p ≡ m p

  halves_on : (at v : ℕ) → at + size halved ≤ highest_code → Stands f.code at halved → Moves f (HighInA at v) (HighInA (at + size halved) (halve v)) [] 3
  halves_on at v r st w e =
      let h = w.regs.a in
      let l = w.mem LEFT / 2 + 128 * bit (has_bit h 1) in
      looser f w _ _ [] 3 3 (omega arith)
      (λ u k. record {
        here = record { pc = k.here.pc; stack = k.here.stack; binary = k.here.binary; mem = refl; text = k.here.text; answers = k.here.answers };
        high = k.number ∙ ap (λ a. a / 2 + 128 * bit (nat_le 128 a)) e.high ∙ high_half v e.is_word;
        low = ap (λ m. m LEFT) k.here.mem ∙ put_same w.mem LEFT l LEFT refl ∙ (λ i. e.low i / 2 + 128 * bit (has_bit (e.high i) 1)) ∙ low_half v e.is_word;
        is_word = halve_small v e.is_word;
        others = λ p n. ap (λ m. m p) k.here.mem ∙ put_other w.mem LEFT l p n ∙ e.others p n;
      })
      (halves f room fits at bs w.mem text answers small h r st w (record { here = e.here; number = refl }))

  -- this many halvings, and then a law
  halves_then : (k at v : ℕ) → at + size (halvings k) ≤ highest_code → Stands f.code at (halvings k) → (q : View → Type 0) (n : ℕ)
      → Moves f (HighInA (at + size (halvings k)) (halve_times k v)) q [] n → Moves f (HighInA at v) q [] (3 * k + n)
  halves_then zero at v r st q n next w e =
      looser f w q q [] n (3 * 0 + n) (omega arith) (λ u z. z) (next w (subst (λ p. HighInA p v w) (let s : at ≡ at + 0 = omega arith in s) e))
  halves_then (suc k) at v r st q n next w e =
      let s = size_append (halvings k) halved in
      let p = at + size (halvings k) in
      let parts = stands_split f.code at (halvings k) halved (omega (arith, r, s)) st in
      let there : p + size halved ≡ at + size (halvings k ++ halved) = omega (arith, s) in
      looser f w q q [] (3 * k + (3 + n)) (3 * suc k + n) (omega arith) (λ u x. x)
      (halves_then k at v (omega (arith, r, s)) parts.0 q (3 + n)
      (λ u g. chained f u _ q [] [] 3 n (halves_on p (halve_times k v) (omega (arith, r, s)) parts.1 u g) (λ x y. next x (subst (λ a. HighInA a (halve_times (suc k) v) x) there y))) w e)

  -- ---- the quotient of a raised word
  module _ (k x : ℕ) (few : k < 8) (small_x : x < 65536) (to : ℕ) (there : Beyond to) where
    abbrev over : ℕ
    over = quotient x (2 ^ (k + 1))

    abbrev pub raised : ℕ
    raised = word (x + more k (nat_le 32768 x))

    -- what follows of a view in which the quotient is stored
    abbrev pub Once : ℕ → (View → Type 0) → Type 0
    Once end q = (m' : ℕ → ℕ) (l g : ℕ) → l ≡ over % 256 → g ≡ over / 256 → ((p : ℕ) → p ≢ LEFT → m' p ≡ m p) → (u : View) → Here end bs (put_word m' to l g) text answers u → q u

    halves_all : (at : ℕ) → k < 6 → at + size (halvings (suc k) ++ high_first to) ≤ highest_code → Stands f.code at (halvings (suc k) ++ high_first to)
        → (q : View → Type 0) → Once (at + size (halvings (suc k) ++ high_first to)) q → Moves f (HighInA at raised) q [] 21
    halves_all at less r st q once w e =
        let s = size_append (halvings (suc k)) (high_first to) in
        let p = at + size (halvings (suc k)) in
        let parts = stands_split f.code at (halvings (suc k)) (high_first to) (omega (arith, r, s)) st in
        let is : halve_times (suc k) raised ≡ over = halves_are k x less small_x in
        let end : p + 8 ≡ at + size (halvings (suc k) ++ high_first to) = omega (arith, s) in
        looser f w q q [] (3 * suc k + 3) 21 (omega (arith, less)) (λ u z. z)
        (halves_then (suc k) at raised (omega (arith, r, s)) parts.0 q 3
        (λ u g. looser f u _ q [] 3 3 (omega arith)
        (λ z i. once u.mem (u.mem LEFT) u.regs.a (g.low ∙ ap (λ n. n % 256) is) (g.high ∙ ap (λ n. n / 256) is) g.others z
        (subst (λ p. Here p bs (put_word u.mem to (u.mem LEFT) u.regs.a) text answers z) end i))
        (ends_high f room fits p bs u.mem text answers small u.regs.a to (omega (arith, r, s)) there parts.1 u (record { here = g.here; number = refl }))) w e)

    -- what comes before the stores over 128 or 256
    abbrev cut_if : Bool → List Instr
    cut_if t = if t then ins 0x06 LEFT ∷ ins 0x2A 0 ∷ [] else ins 0xC9 128 ∷ []

    cuts_one : (at : ℕ) (t : Bool) → nat_eq k 6 ≡ t → 6 ≤ k → at + size (cut_if t ++ widened to) ≤ highest_code → Stands f.code at (cut_if t ++ widened to)
        → (q : View → Type 0) → Once (at + size (cut_if t ++ widened to)) q → Moves f (HighInA at raised) q [] 7
    cuts_one at true e least r st q once w h =
        let a = w.regs.a in
        let l = w.mem LEFT in
        let low = 2 * a % 256 + bit (has_bit l 128) in
        let m1 = with_byte w.mem LEFT (2 * l % 256) in
        let parts = stands_split f.code at (ins 0x06 LEFT ∷ ins 0x2A 0 ∷ []) (widened to) (omega (arith, r)) st in
        let is = over_128 k x (eqb-true k 6 e) small_x in
        chained f w _ q [] [] 2 5 (lifts f room fits at bs w.mem text answers small a (omega (arith, r)) parts.0 w (record { here = h.here; number = refl }))
        (λ u g. looser f u _ q [] 5 5 (omega arith)
        (λ z i. once m1 low (255 * bit (has_bit a 128)) ((λ j. 2 * h.high j % 256 + bit (has_bit (h.low j) 128)) ∙ is.0) ((λ j. 255 * bit (has_bit (h.high j) 128)) ∙ is.1)
        (λ p n. put_other w.mem LEFT (2 * l % 256) p n ∙ h.others p n) z
        (subst (λ p. Here p bs (put_word m1 to low (255 * bit (has_bit a 128))) text answers z) (let s : at + 3 + 12 ≡ at + size (cut_if true ++ widened to) = omega arith in s) i))
        (widens f room fits (at + 3) bs m1 text answers small low to (has_bit a 128) (omega (arith, r)) there.0 parts.1 u g))
    cuts_one at false e least r st q once w h =
        let a = w.regs.a in
        let parts = stands_split f.code at (ins 0xC9 128 ∷ []) (widened to) (omega (arith, r)) st in
        let is = over_256 k x (not_six e least) small_x in
        looser f w q q [] 6 7 (omega arith) (λ u z. z)
        (chained f w _ q [] [] 1 5 (signs_a f room fits at bs w.mem text answers small a (omega (arith, r)) parts.0 w (record { here = h.here; number = refl }))
        (λ u g. looser f u _ q [] 5 5 (omega arith)
        (λ z i. once w.mem a (255 * bit (nat_le 128 a)) (h.high ∙ is.0) ((λ j. 255 * bit (nat_le 128 (h.high j))) ∙ is.1) h.others z
        (subst (λ p. Here p bs (put_word w.mem to a (255 * bit (nat_le 128 a))) text answers z) (let s : at + 2 + 12 ≡ at + size (cut_if false ++ widened to) = omega arith in s) i))
        (widens f room fits (at + 2) bs w.mem text answers small a to (nat_le 128 a) (omega (arith, r)) there.0 parts.1 u g)))
      where
        not_six : nat_eq k 6 ≡ false → 6 ≤ k → k ≡ 7
        not_six e least = let n : k ≢ 6 = λ z. absurd (true≢false (sym (eq-eqb k 6 z) ∙ e)) in omega (arith, n, least, few)

    -- a raised word's quotient is stored
    pub lowers : (at : ℕ) (t : Bool) → nat_lt k 6 ≡ t → at + size (if t then halvings (suc k) ++ high_first to else cut k ++ widened to) ≤ highest_code
        → Stands f.code at (if t then halvings (suc k) ++ high_first to else cut k ++ widened to) → (q : View → Type 0)
        → Once (at + size (if t then halvings (suc k) ++ high_first to else cut k ++ widened to)) q → Moves f (HighInA at raised) q [] 21
    lowers at true e r st q once = halves_all at (ltb-true k 6 e) r st q once
    lowers at false e r st q once =
        λ w h. looser f w q q [] 7 21 (omega arith) (λ u z. z) (cuts_one at (nat_eq k 6) refl (ltb-false k 6 e) r st q once w h)

  -- ---- a word over 2^(k + 1)
  module _ (at : ℕ) (a : Source) (x : ℕ) (ga : Grounded a LEFT) (ha : SourceHolds m a x) (k : ℕ) (few : k < 8) (to : ℕ)
      (r : at + size (shifted k a to) ≤ highest_code) (st : Stands f.code at (shifted k a to)) where
    sizes : size (shifted k a to) ≡ size (signed a) + (size (rounded k a) + (size (carried a) + size (lowered k to)))
    sizes =
        let e1 = size_append (signed a) (rounded k a ++ (carried a ++ lowered k to)) in
        let e2 = size_append (rounded k a) (carried a ++ lowered k to) in
        let e3 = size_append (carried a) (lowered k to) in
        omega (arith, e1, e2, e3)

    -- the addresses of its parts
    abbrev p1 : ℕ
    p1 = at + size (signed a)

    abbrev p2 : ℕ
    p2 = p1 + size (rounded k a)

    abbrev pub p3 : ℕ
    p3 = p2 + size (carried a)

    s1 : Stands f.code at (signed a) × Stands f.code p1 (rounded k a ++ (carried a ++ lowered k to))
    s1 = stands_split f.code at (signed a) _ (omega (arith, r, sizes)) st

    s2 : Stands f.code p1 (rounded k a) × Stands f.code p2 (carried a ++ lowered k to)
    s2 = stands_split f.code p1 (rounded k a) _ (omega (arith, r, sizes)) s1.1

    s3 : Stands f.code p2 (carried a) × Stands f.code p3 (lowered k to)
    s3 = stands_split f.code p2 (carried a) _ (omega (arith, r, sizes)) s2.1

    -- the code that makes and stores the quotient of the raised word is there
    pub last_stands : Stands f.code p3 (lowered k to)
    last_stands = s3.1

    -- that code ends the quotient's
    pub end_is : p3 + size (lowered k to) ≡ at + size (shifted k a to)
    end_is = omega (arith, sizes)

    abbrev c : Bool
    c = nat_le 128 (value m (high a))

    abbrev n : ℕ
    n = more k c

    same_sign : c ≡ nat_le 32768 x
    same_sign = ap (nat_le 128) ha.high_byte ∙ sign_is x ha.small

    -- the word raised if it is negative
    raised_here : (u : View) → WithA p3 ((value m (high a) + bit (nat_lt 255 (value m (low a) + n))) % 256) bs
        (with_byte m LEFT ((value m (low a) + n) % 256)) text answers u → HighInA p3 (word (x + more k (nat_le 32768 x))) u
    raised_here u g =
        let l = (value m (low a) + n) % 256 in
        let nn = more k (nat_le 32768 x) in record {
          here = record { pc = g.here.pc; stack = g.here.stack; binary = g.here.binary; mem = refl; text = g.here.text; answers = g.here.answers };
          high = g.number ∙ (λ i. (ha.high_byte i + bit (nat_lt 255 (ha.low_byte i + more k (same_sign i)))) % 256) ∙ raised_high x nn ha.small (more_small k (nat_le 32768 x) few);
          low = ap (λ m. m LEFT) g.here.mem ∙ put_same m LEFT l LEFT refl ∙ (λ i. (ha.low_byte i + more k (same_sign i)) % 256) ∙ raised_low x nn;
          is_word = omega arith;
          others = λ p n. ap (λ m. m p) g.here.mem ∙ put_other m LEFT l p n;
        }

    -- a word raised, and then a law
    pub raises_then : (q : View → Type 0) (j : ℕ) → Moves f (HighInA p3 (word (x + more k (nat_le 32768 x)))) q [] j → Moves f (Here at bs m text answers) q [] (10 + j)
    raises_then q j next w e =
        looser f w q q [] (2 + (5 + (3 + j))) (10 + j) (omega arith) (λ u z. z)
        (chained f w _ q [] [] 2 (5 + (3 + j)) (signs f room fits at bs m text answers small a (omega (arith, r, sizes)) ga s1.0 w e) (λ u g.
        chained f u _ q [] [] 5 (3 + j) (rounds f room fits p1 bs m text answers small k a c few (omega (arith, r, sizes)) ga s2.0 u g) (λ u g.
        chained f u _ q [] [] 3 j (carries f room fits p2 bs m text answers small ((value m (low a) + n) % 256)
        (nat_lt 255 (value m (low a) + n)) a (omega (arith, r, sizes)) ga s3.0 u g) (λ u g. next u (raised_here u g)))))

module _ {around : Surroundings} (fits : Fits around.f 16) (code : SlotCode) {n : ℕ} {a b : Operand} {d : Destination} {is : List SlotInstr} {s : State}
    {r : Slots} {w : View} (h : Ready around n (Calculate op.Divide a b d) (spread op.Divide a b d is) is s r w) (j : ℕ) (few : j < 8)
    (lies : Lies around.f.code w.regs.pc (Code (shifted j (source_of (slot_of d) a) (destination_at d)) ∷ []))
    (rest : GroupsLie around.ly around.f.code n (w.regs.pc + pieces_size (Code (shifted j (source_of (slot_of d) a) (destination_at d)) ∷ [])) (select is)) where
  open around use {ly, f, lo, hi}
  open calculation a b d s r use {x, y, left, to}

  abbrev own : List ℕ
  own = lo ∷ hi ∷ []

  abbrev v : ℕ
  v = quotient x (2 ^ (j + 1))

  ha : SourceHolds w.mem left x
  ha = left_holds h w.mem (kept h)

  -- where the quotient is made of the raised word, and where its code ends
  abbrev at : ℕ
  at = p3 f 16 fits own w.mem w.text w.answers refl w.regs.pc left x (left_apart h) ha j few to lies.0 lies.1

  abbrev end : ℕ
  end = at + size (lowered j to)

  end_here : end ≡ w.regs.pc + size (shifted j left to)
  end_here = end_is f 16 fits own w.mem w.text w.answers refl w.regs.pc left x (left_apart h) ha j few to lies.0 lies.1

  behind : GroupsLie ly f.code n end (select is)
  behind = subst (λ p. GroupsLie ly f.code n p (select is)) (let e = end_here in let q : w.regs.pc + (size (shifted j left to) + 0) ≡ end = omega (arith, e) in q) rest

  lands : Moves f (HighInA f 16 fits own w.mem w.text w.answers refl at (word (x + more j (nat_le 32768 x))))
      (Matches around (line code n is (landed d v s) (calculated s r a b d v))) [] 21
  lands =
      lowers f 16 fits own w.mem w.text w.answers refl j x few ha.small to (dest_beyond d (fit h).dest) at (nat_lt j 6) refl (let e = end_here in omega (arith, e, lies.0))
      (last_stands f 16 fits own w.mem w.text w.answers refl w.regs.pc left x (left_apart h) ha j few to lies.0 lies.1) _
      (λ m' l g low high others u there. result_lands h code v l g end m' low high (quotient_small x (2 ^ (j + 1))) behind
      (kept_scratch around (live (spread op.Divide a b d is)) s r w.mem m' h.some_read (λ p o. others p (apart p LEFT o refl)) (kept h)) u there)

  -- the law of a quotient by shifts
  pub shift_law : y ≡ 2 ^ (j + 1) → y ≢ 0 → Leads h code 31
  shift_law power some =
      leads_on h code (quotient x y) 31 (quotient_is x y some)
      (subst (λ q. Comes f w (Matches around (line code n is (landed d q s) (calculated s r a b d q))) [] 31) (ap (quotient x) (sym power))
      (raises_then f 16 fits own w.mem w.text w.answers refl w.regs.pc left x (left_apart h) ha j few to lies.0 lies.1 _ 21 lands w (here h)))

-- The law of a product with a constant, which is computed by the constant's bits.
use Rattle.std.proofs.Common.{◌≡◌, ◌≢◌, ℕ, zero, suc, ◌+◌, ◌*◌, ◌/◌, ◌%◌, ◌≤◌, ◌<◌, Bool, true, false, List, []}
use Rattle.std.proofs.Common.{◌∷◌, ◌++◌, length, refl, sym, ap, ◌∙◌, subst, arith, leb}
use Rattle.std.specs.Prelude.{if◌then◌else◌, nat_eq, nat_lt}
use Rattle.std.proofs.lemmas.Bool.{eqb-true, ltb-true, ltb-false}
use Rattle.tb_cpu.specs.Effects.{bit, has_bit}
use Rattle.tb_memmap.specs.Bytes.{with_byte}
use Rattle.tb_words.specs.Words.{word}
use Rattle.tb_words.proofs.Powers.{pow2}
use Rattle.tb_basic_syntax.specs.declared.expressions.Operator.TheVariants as op
use Rattle.tb_basic_meaning.specs.Control.{State}
use Rattle.tb_lower.specs.Slots.{Instr, Slots, SlotCode}
use Rattle.tb_machine_reaching.proofs.Comes.{chained, looser}
use Rattle.tb_machine_reaching.proofs.Instr.{Stands}
use Rattle.tb_machine_reaching.proofs.Memory.{put_other, put_same}
use Rattle.tb_machine_reaching.specs.View.{Comes, Fits, Setup, View}
use Rattle.tb_compiled_kept.specs.Addresses.{LEFT}
use Rattle.tb_runtime16.specs.Routines.{Here, Moves, WithA}
use Rattle.tb_proof_simulation.proofs.Resolved.{Code, Lies, highest_code, pieces_size, size}
use Rattle.tb_compiler_selection.specs.Groups.{Operand, Destination, Calculate}
use Rattle.tb_compiler_selection.specs.Liveness.{live}
use Rattle.tb_compiler_selection.specs.Select.{select}
use Rattle.tb_compiler_templates.specs.declared.sources.Source.{Source}
use Rattle.tb_compiler_templates.specs.declared.sources.Source.TheVariants.{FixedWord, AtAddress}
use Rattle.tb_compiler_templates.specs.Sources.{destination_at}
use Rattle.tb_proof_correctness.proofs.CodeBytes.GroupCode.{GroupsLie, begun, by_bit, by_bits, doubled, high, increased, low, low_first, times}
use Rattle.tb_proof_correctness.proofs.Pieces.Halves.{by_even, by_odd, double_high, double_low, sum_high, sum_low}
use Rattle.tb_proof_correctness.proofs.Relation.GroupInvariants.{kept, kept_scratch}
use Rattle.tb_proof_correctness.proofs.Relation.Matching.{Matches}
use Rattle.tb_proof_correctness.proofs.Relation.Operands.{SourceHolds, dest_beyond}
use Rattle.tb_proof_correctness.proofs.Relation.Ready.{Ready, here}
use Rattle.tb_proof_correctness.proofs.Pieces.ShiftSteps.{begins, doubles, ends_low, increases, size_append, stands_split}
use Rattle.tb_proof_correctness.proofs.Slots.SlotSide.{calculated, landed, line, spread}
use Rattle.tb_proof_correctness.proofs.Pieces.Sources.{value}
use Rattle.tb_proof_correctness.proofs.Pieces.Sums.{Away, Grounded, high_read, low_read}
use Rattle.tb_proof_correctness.proofs.Relation.Surroundings.{Surroundings}
use Rattle.tb_proof_correctness.proofs.Arithmetic.Calculated.{Leads, calculation, fit, leads_on, result_lands}
use Rattle.tb_proof_simulation.proofs.Returning.{apart}

module _ (f : Setup) (room : ℕ) (fits : Fits f room) (bs : List ℕ) (m : ℕ → ℕ) (text answers : List ℕ) (small : leb (length bs) room ≡ true) where
  -- the low byte of a word in A and its high byte in LEFT; the rest of the memory is m
  pub record LowInA (at v : ℕ) (w : View) : Type 0 where
    pub here : Here at bs w.mem text answers w
    pub low : w.regs.a ≡ v % 256
    pub high : w.mem LEFT ≡ v / 256
    pub is_word : v < 65536
    pub others : (p : ℕ) → p ≢ LEFT → w.mem p ≡ m p

  module _ (a : Source) (x : ℕ) (ga : Grounded a LEFT) (away : Away a) (ha : SourceHolds m a x) where
    -- the word is still there
    low_still : (m' : ℕ → ℕ) → ((p : ℕ) → p ≢ LEFT → m' p ≡ m p) → (b : Source) → Away b → value m' (low b) ≡ value m (low b)
    low_still m' e (FixedWord w) d = refl
    low_still m' e (AtAddress p) d = e p (λ q. omega (arith, q, d))

    high_still : (m' : ℕ → ℕ) → ((p : ℕ) → p ≢ LEFT → m' p ≡ m p) → (b : Source) → Away b → value m' (high b) ≡ value m (high b)
    high_still m' e (FixedWord w) d = refl
    high_still m' e (AtAddress p) d = e (p + 1) (λ q. omega (arith, q, d))

    doubles_on : (at v : ℕ) → at + size doubled ≤ highest_code → Stands f.code at doubled → Moves f (LowInA at v) (LowInA (at + size doubled) (word (2 * v))) [] 2
    doubles_on at v r st w e =
        let h = 2 * w.mem LEFT % 256 + bit (has_bit w.regs.a 128) in
        looser f w _ _ [] 2 2 (omega arith)
        (λ u k. record {
          here = record { pc = k.here.pc; stack = k.here.stack; binary = k.here.binary; mem = refl; text = k.here.text; answers = k.here.answers };
          low = k.number ∙ ap (λ b. 2 * b % 256) e.low ∙ double_low v;
          high = ap (λ m. m LEFT) k.here.mem ∙ put_same w.mem LEFT h LEFT refl ∙ (λ i. 2 * e.high i % 256 + bit (has_bit (e.low i) 128)) ∙ double_high v e.is_word;
          is_word = omega arith;
          others = λ p n. ap (λ m. m p) k.here.mem ∙ put_other w.mem LEFT h p n ∙ e.others p n;
        })
        (doubles f room fits at bs w.mem text answers small w.regs.a r st w (record { here = e.here; number = refl }))

    increases_on : (at v : ℕ) → at + size (increased a) ≤ highest_code → Stands f.code at (increased a) → Moves f (LowInA at v) (LowInA (at + size (increased a)) (word (v + x))) [] 7
    increases_on at v r st w e =
        let la = value w.mem (low a) in
        let l = w.regs.a + la + 0 in
        let h = (w.mem LEFT + value w.mem (high a) + bit (nat_lt 255 l)) % 256 in
        let low_is : la ≡ x % 256 = low_still w.mem e.others a away ∙ ha.low_byte in
        let high_is : value w.mem (high a) ≡ x / 256 = high_still w.mem e.others a away ∙ ha.high_byte in
        looser f w _ _ [] 7 7 (omega arith)
        (λ u k. record {
          here = record { pc = k.here.pc; stack = k.here.stack; binary = k.here.binary; mem = refl; text = k.here.text; answers = k.here.answers };
          low = k.number ∙ (λ i. (e.low i + low_is i + 0) % 256) ∙ sum_low v x;
          high = ap (λ m. m LEFT) k.here.mem ∙ put_same w.mem LEFT h LEFT refl
              ∙ (λ i. (e.high i + high_is i + bit (nat_lt 255 (e.low i + low_is i + 0))) % 256) ∙ sum_high v x e.is_word ha.small;
          is_word = omega arith;
          others = λ p n. ap (λ m. m p) k.here.mem ∙ put_other w.mem LEFT h p n ∙ e.others p n;
        })
        (increases f room fits at bs w.mem text answers small w.regs.a a r (low_read a LEFT ga) (high_read a LEFT ga) st w (record { here = e.here; number = refl }))

    -- the product after a bit
    abbrev by : Bool → ℕ → ℕ
    by false v = word (2 * v)
    by true v = word (word (2 * v) + x)

    bit_on : (t : Bool) (at v : ℕ) → at + size (by_bit t a) ≤ highest_code → Stands f.code at (by_bit t a) → Moves f (LowInA at v) (LowInA (at + size (by_bit t a)) (by t v)) [] 9
    bit_on false at v r st w e = looser f w _ _ [] 2 9 (omega arith) (λ u g. g) (doubles_on at v r st w e)
    bit_on true at v r st w e =
        let s = size_append doubled (increased a) in
        let parts = stands_split f.code at doubled (increased a) (omega (arith, r, s)) st in
        let there : at + size doubled + size (increased a) ≡ at + size (doubled ++ increased a) = omega (arith, s) in
        chained f w _ _ [] [] 2 7 (doubles_on at v (omega (arith, r, s)) parts.0 w e) (λ u g.
        looser f u _ _ [] 7 7 (omega arith) (λ z k. subst (λ p. LowInA p (by true v) z) there k)
        (increases_on (at + size doubled) (word (2 * v)) (omega (arith, r, s)) parts.1 u g))

    product_by : (factor : ℕ) (odd : Bool) → nat_eq (factor % 2) 1 ≡ odd → by odd (word (x * (factor / 2))) ≡ word (x * factor)
    product_by factor true e = by_odd x factor (eqb-true (factor % 2) 1 e)
    product_by factor false e = by_even x factor (even (factor % 2) e (omega arith))
      where
        even : (n : ℕ) → nat_eq n 1 ≡ false → n < 2 → n ≡ 0
        even zero e h = refl
        even (suc zero) e h = absurd (let no : true ≡ false = e in cc)
        even (suc (suc n)) e h = absurd (omega (arith, h))

    one_times : (factor : ℕ) → factor ≡ 1 → x ≡ word (x * factor)
    one_times factor e = let s : word (x * 1) ≡ x = (let h = ha.small in omega (arith, h)) in sym s ∙ ap (λ n. word (x * n)) (sym e)

    -- by the bits of a factor, and then a law
    bits_then : (k factor at : ℕ) → 1 ≤ factor → factor < pow2 (suc k) → at + size (by_bits k factor a) ≤ highest_code
        → Stands f.code at (by_bits k factor a) → (q : View → Type 0) (n : ℕ)
        → Moves f (LowInA (at + size (by_bits k factor a)) (word (x * factor))) q [] n → Moves f (LowInA at x) q [] (9 * k + n)
    bits_then zero factor at one few r st q n next w e =
        looser f w q q [] n (9 * 0 + n) (omega arith) (λ u z. z)
        (next w (subst (λ p. LowInA p (word (x * factor)) w) (let s : at ≡ at + 0 = omega arith in s) (subst (λ v. LowInA at v w) (one_times factor (omega (arith, one, few))) e)))
    bits_then (suc k) factor at one few r st q n next w e =
        cases (nat_lt factor 2) refl (λ g. bits_then k (factor / 2) at g (omega (arith, few))) r st next
      where
        odd : Bool
        odd = nat_eq (factor % 2) 1

        cases : (t : Bool) → nat_lt factor 2 ≡ t
            → (1 ≤ factor / 2 → at + size (by_bits k (factor / 2) a) ≤ highest_code → Stands f.code at (by_bits k (factor / 2) a)
            → (q : View → Type 0) (n : ℕ) → Moves f (LowInA (at + size (by_bits k (factor / 2) a)) (word (x * (factor / 2)))) q [] n → Moves f (LowInA at x) q [] (9 * k + n))
            → at + size (if t then [] else by_bits k (factor / 2) a ++ by_bit odd a) ≤ highest_code
            → Stands f.code at (if t then [] else by_bits k (factor / 2) a ++ by_bit odd a)
            → Moves f (LowInA (at + size (if t then [] else by_bits k (factor / 2) a ++ by_bit odd a)) (word (x * factor))) q [] n → Comes f w q [] (9 * suc k + n)
        cases true t again r st next =
            looser f w q q [] n (9 * suc k + n) (omega arith) (λ u z. z)
            (next w (subst (λ p. LowInA p (word (x * factor)) w) (let s : at ≡ at + 0 = omega arith in s)
            (subst (λ v. LowInA at v w) (one_times factor (omega (arith, one, ltb-true factor 2 t))) e)))
        cases false t again r st next =
            let s = size_append (by_bits k (factor / 2) a) (by_bit odd a) in
            let p = at + size (by_bits k (factor / 2) a) in
            let parts = stands_split f.code at (by_bits k (factor / 2) a) (by_bit odd a) (omega (arith, r, s)) st in
            let there : p + size (by_bit odd a) ≡ at + size (by_bits k (factor / 2) a ++ by_bit odd a) = omega (arith, s) in
            looser f w q q [] (9 * k + (9 + n)) (9 * suc k + n) (omega arith) (λ u z. z)
            (again (omega (arith, ltb-false factor 2 t)) (omega (arith, r, s)) parts.0 q (9 + n)
            (λ u g. chained f u _ q [] [] 9 n (bit_on odd p (word (x * (factor / 2))) (omega (arith, r, s)) parts.1 u g)
            (λ u g. next u (subst (λ z. LowInA z (word (x * factor)) u) there (subst (λ v. LowInA (p + size (by_bit odd a)) v u) (product_by factor odd refl) g)))) w e)

    -- ---- a word times a factor
    module _ (at factor : ℕ) (some : 1 ≤ factor) (few : factor < 65536) (to : ℕ) (r : at + size (times factor a to) ≤ highest_code) (st : Stands f.code at (times factor a to)) where
      sizes : size (times factor a to) ≡ size (begun a) + (size (by_bits 15 factor a) + 8)
      sizes =
          let e1 = size_append (begun a) (by_bits 15 factor a ++ low_first to) in
          let e2 = size_append (by_bits 15 factor a) (low_first to) in
          omega (arith, e1, e2)

      abbrev p1 : ℕ
      p1 = at + size (begun a)

      abbrev pub p2 : ℕ
      p2 = p1 + size (by_bits 15 factor a)

      s1 : Stands f.code at (begun a) × Stands f.code p1 (by_bits 15 factor a ++ low_first to)
      s1 = stands_split f.code at (begun a) _ (omega (arith, r, sizes)) st

      s2 : Stands f.code p1 (by_bits 15 factor a) × Stands f.code p2 (low_first to)
      s2 = stands_split f.code p1 (by_bits 15 factor a) _ (omega (arith, r, sizes)) s1.1

      -- the code that stores the product is there
      pub last_stands : Stands f.code p2 (low_first to)
      last_stands = s2.1

      -- that code ends the product's
      pub end_is : p2 + 8 ≡ at + size (times factor a to)
      end_is = omega (arith, sizes)

      abbrev h : ℕ
      h = value m (high a)

      still : (p : ℕ) → p ≢ LEFT → with_byte m LEFT h p ≡ m p
      still p n = put_other m LEFT h p n

      begun_here : (u : View) → WithA p1 (value m (low a)) bs (with_byte m LEFT h) text answers u → LowInA p1 x u
      begun_here u g = record {
        here = record { pc = g.here.pc; stack = g.here.stack; binary = g.here.binary; mem = refl; text = g.here.text; answers = g.here.answers };
        low = g.number ∙ ha.low_byte;
        high = ap (λ m. m LEFT) g.here.mem ∙ put_same m LEFT h LEFT refl ∙ ha.high_byte;
        is_word = ha.small;
        others = λ p n. ap (λ m. m p) g.here.mem ∙ still p n;
      }

      -- a word times a factor, and then a law
      pub multiplies_then : (q : View → Type 0) (j : ℕ) → Moves f (LowInA p2 (word (x * factor))) q [] j → Moves f (Here at bs m text answers) q [] (138 + j)
      multiplies_then q j next w e =
          let all : pow2 16 ≡ 65536 = refl in
          looser f w q q [] (3 + (9 * 15 + j)) (138 + j) (omega arith) (λ u z. z)
          (chained f w _ q [] [] 3 (9 * 15 + j) (begins f room fits at bs m text answers small a (omega (arith, r, sizes)) ga (low_still (with_byte m LEFT h) still a away) s1.0 w e) (λ u g.
          bits_then 15 factor p1 some (omega (arith, few, all)) (omega (arith, r, sizes)) s2.0 q j next u (begun_here u g)))

module _ {around : Surroundings} (fits : Fits around.f 16) (code : SlotCode) {n : ℕ} {a b : Operand} {d : Destination} {is : List Instr} {s : State}
    {r : Slots} {w : View} (h : Ready around n (Calculate op.Multiply a b d) (spread op.Multiply a b d is) is s r w)
    (factor : ℕ) (some : 1 ≤ factor) (few : factor < 65536) (c : Source) (z : ℕ) (gc : Grounded c LEFT) (away : Away c) (hc : SourceHolds w.mem c z)
    (lies : Lies around.f.code w.regs.pc (Code (times factor c (destination_at d)) ∷ [])) (rest : GroupsLie around.ly around.f.code n
    (w.regs.pc + pieces_size (Code (times factor c (destination_at d)) ∷ [])) (select is)) where
  open around use {ly, f, lo, hi}
  open calculation a b d s r use {x, y, to}

  abbrev own : List ℕ
  own = lo ∷ hi ∷ []

  abbrev product : ℕ
  product = word (x * y)

  -- where the result is stored
  abbrev at : ℕ
  at = p2 f 16 fits own w.mem w.text w.answers refl c z gc away hc w.regs.pc factor some few to lies.0 lies.1

  end_here : at + 8 ≡ w.regs.pc + size (times factor c to)
  end_here = end_is f 16 fits own w.mem w.text w.answers refl c z gc away hc w.regs.pc factor some few to lies.0 lies.1

  behind : GroupsLie ly f.code n (at + 8) (select is)
  behind = subst (λ p. GroupsLie ly f.code n p (select is)) (let e = end_here in let q : w.regs.pc + (size (times factor c to) + 0) ≡ at + 8 = omega (arith, e) in q) rest

  lands : Moves f (LowInA f 16 fits own w.mem w.text w.answers refl at product) (Matches around (line code n is (landed d product s) (calculated s r a b d product))) [] 3
  lands u g =
      looser f u _ _ [] 3 3 (omega arith)
      (result_lands h code product u.regs.a (u.mem LEFT) (at + 8) u.mem g.low g.high g.is_word behind
      (kept_scratch around (live (spread op.Multiply a b d is)) s r w.mem u.mem h.some_read (λ p o. g.others p (apart p LEFT o refl)) (kept h)))
      (ends_low f 16 fits at own u.mem w.text w.answers refl u.regs.a to (let e = end_here in omega (arith, e, lies.0)) (dest_beyond d (fit h).dest)
      (last_stands f 16 fits own w.mem w.text w.answers refl c z gc away hc w.regs.pc factor some few to lies.0 lies.1) u (record { here = g.here; number = refl }))

  -- the law of a product by bits
  pub times_law : product ≡ word (z * factor) → Leads h code 141
  times_law same =
      leads_on h code product 141 refl
      (multiplies_then f 16 fits own w.mem w.text w.answers refl c z gc away hc w.regs.pc factor some few to lies.0 lies.1 _ 3
      (λ u g. lands u (subst (λ q. LowInA f 16 fits own w.mem w.text w.answers refl at q u) (sym same) g))
      w (here h))

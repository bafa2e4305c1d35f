-- What the code of a remainder by differences does: bytes leave it in the result, and other words go on to the call.
use Rattle.std.proofs.Common.{◌≡◌, ◌≢◌, ℕ, ◌+◌, ◌-◌, ◌*◌, ◌%◌, ◌≤◌, ◌<◌, true, false, List, [], ◌∷◌, ◌++◌, length}
use Rattle.std.proofs.Common.{refl, sym, ap, ◌∙◌, subst, arith, leb, eqb, ⊎_elim}
use Rattle.std.specs.Prelude.{nat_le, nat_lt, bit_or}
use Rattle.std.proofs.lemmas.Bool.{cases_eq, cases_lt, eq-eqb, le-leb, lt-leb, lt-ltb, ne_eqb}
use Rattle.std.proofs.lemmas.Nat.{le_or_l, le_or_r}
use Rattle.std.proofs.Math.Nat.{mod-eq_of_lt, mul-add-mod_self_right}
use Rattle.tb_opcodes.specs.declared.Mnemonic.TheVariants.{Cmp, Lda, Ldx, Ora, Sbc}
use Rattle.tb_machine_reaching.proofs.Instr.{Stands, ins}
use Rattle.tb_machine_reaching.proofs.Placed.{placed_last, placing}
use Rattle.tb_machine_reaching.specs.View.{Fits, Setup, View, is_data, view}
use Rattle.tb_compiled_kept.specs.Addresses.{RESULT}
use Rattle.tb_runtime16.specs.Routines.{Here, Moves, WithA}
use Rattle.tb_proof_simulation.proofs.Pieces.{InData, loads, loads_last, moves_looser, moves_then, put_word, stores, whatever, whatever_a}
use Rattle.tb_proof_simulation.proofs.Resolved.{highest_code}
use Rattle.tb_proof_correctness.proofs.CodeBytes.GroupCode.{all_taken, bytes_asked, differences, less_once, subtracted}
use Rattle.tb_proof_correctness.proofs.Pieces.ShiftSteps.{stands_split}

-- ---- numbers
-- no bit of two bytes is set if both are 0
none_set : (a b : ℕ) → bit_or a b ≡ 0 → (a ≡ 0) × (b ≡ 0)
none_set a b e = (omega (arith, e, le_or_l a b), omega (arith, e, le_or_r a b))

-- a divisor less leaves the same
less_leaves : (v d : ℕ) → d ≤ v → (v - d) % d ≡ v % d
less_leaves v d le =
    let whole : 1 * d + (v - d) ≡ v = omega (arith, le) in
    sym (ap (λ v. v % d) (sym whole) ∙ mul-add-mod_self_right 1 d (v - d))

module _ (f : Setup) (room : ℕ) (fits : Fits f room) (bs : List ℕ) (m : ℕ → ℕ) (text answers : List ℕ) (small : leb (length bs) room ≡ true) where
  -- ---- a difference
  module _ (q n at : ℕ) (there : is_data q ≡ true) (near : n < 128) (r : at + 8 + n ≤ highest_code) (st : Stands f.code at (less_once q n)) where
    takes_once : (v : ℕ) → v < 256 → m q ≤ v → Moves f (WithA at v bs m text answers) (WithA (at + 8) (v - m q) bs m text answers) [] 3
    takes_once v byte le = whatever_a f room fits at v bs m text answers _ [] 3 (λ x y n' o i z c.
        let t : nat_le (m q) v ≡ true = le-leb (m q) v le in
        loads f room fits 0xCD q Cmp (view v x y n' o i z c at bs m text answers) _ _ [] 2 refl refl refl small st.0 there refl
        (rw t (placing f room fits (ins 0x90 n) (view v x y _ o i _ true ((at + 3) % 65536) bs m text answers) _ _ [] 1 small st.1.0 refl
        (loads_last f room fits 0xED q Sbc (view v x y _ o i _ true (((at + 3) % 65536 + 2) % 65536) bs m text answers) _ _ refl refl refl small st.1.1.0 there refl
        (record {
          here = record { pc = omega (arith, r); stack = refl; binary = refl; mem = refl; text = refl; answers = refl };
          number = let e : (v + 256 - (m q + 0)) % 256 ≡ v - m q = omega (arith, le, byte) in e;
        })))))

    stays_once : (v : ℕ) → v < m q → Moves f (WithA at v bs m text answers) (WithA (at + 5 + n) v bs m text answers) [] 2
    stays_once v lt = whatever_a f room fits at v bs m text answers _ [] 2 (λ x y n' o i z c.
        let t : nat_le (m q) v ≡ false = lt-leb (m q) v lt in
        let forward : nat_lt n 128 ≡ true = lt-ltb n 128 near in
        loads f room fits 0xCD q Cmp (view v x y n' o i z c at bs m text answers) _ _ [] 1 refl refl refl small st.0 there refl
        (rw t (placed_last f room fits (ins 0x90 n) (view v x y _ o i _ false ((at + 3) % 65536) bs m text answers) _ _ small st.1.0 refl
        (record {
          here = record { pc = rw forward (omega (arith, r)); stack = refl; binary = refl; mem = refl; text = refl; answers = refl };
          number = refl;
        }))))

  -- ---- before and after the differences
  module _ (p q at : ℕ) (data_p : InData p) (data_q : InData q) (r : at + 86 ≤ highest_code) where
    module _ (st : Stands f.code at (bytes_asked p q)) where
      -- a word that is no byte: on to the call
      words_go_on : bit_or (m (p + 1)) (m (q + 1)) ≢ 0 → Moves f (Here at bs m text answers) (Here (at + 63) bs m text answers) [] 3
      words_go_on some = whatever f room fits at bs m text answers _ [] 3 (λ a x y n o i z c.
          let t : eqb (bit_or (m (p + 1)) (m (q + 1))) 0 ≡ false = ne_eqb _ _ some in
          loads f room fits 0xAD (p + 1) Lda (view a x y n o i z c at bs m text answers) _ _ [] 2 refl refl refl small st.0 data_p.1 refl
          (loads f room fits 0x0D (q + 1) Ora (view (m (p + 1)) x y _ o i _ c ((at + 3) % 65536) bs m text answers) _ _ [] 1 refl refl refl small st.1.0 data_q.1 refl
          (rw t (placed_last f room fits (ins 0xD0 55) (view _ x y _ o i false c (((at + 3) % 65536 + 3) % 65536) bs m text answers) _ _ small st.1.1.0 refl
          (record { pc = omega (arith, r); stack = refl; binary = refl; mem = refl; text = refl; answers = refl })))))

      -- a division by 0 too
      none_goes_on : bit_or (m (p + 1)) (m (q + 1)) ≡ 0 → m q ≡ 0 → Moves f (Here at bs m text answers) (Here (at + 63) bs m text answers) [] 5
      none_goes_on bytes none = whatever f room fits at bs m text answers _ [] 5 (λ a x y n o i z c.
          let t : eqb (bit_or (m (p + 1)) (m (q + 1))) 0 ≡ true = eq-eqb _ _ bytes in
          let u : eqb (m q) 0 ≡ true = eq-eqb _ _ none in
          loads f room fits 0xAD (p + 1) Lda (view a x y n o i z c at bs m text answers) _ _ [] 4 refl refl refl small st.0 data_p.1 refl
          (loads f room fits 0x0D (q + 1) Ora (view (m (p + 1)) x y _ o i _ c ((at + 3) % 65536) bs m text answers) _ _ [] 3 refl refl refl small st.1.0 data_q.1 refl
          (rw t (placing f room fits (ins 0xD0 55) (view _ x y _ o i true c (((at + 3) % 65536 + 3) % 65536) bs m text answers) _ _ [] 2 small st.1.1.0 refl
          (loads f room fits 0xAE q Ldx (view _ x y _ o i true c ((((at + 3) % 65536 + 3) % 65536 + 2) % 65536) bs m text answers) _ _ [] 1 refl refl refl small st.1.1.1.0 data_q.0 refl
          (rw u (placed_last f room fits (ins 0xF0 50) (view _ _ y _ o i true c (((((at + 3) % 65536 + 3) % 65536 + 2) % 65536 + 3) % 65536) bs m text answers) _ _ small st.1.1.1.1.0 refl
          (record { pc = omega (arith, r); stack = refl; binary = refl; mem = refl; text = refl; answers = refl }))))))))

      -- bytes: the dividend is in A
      bytes_go : bit_or (m (p + 1)) (m (q + 1)) ≡ 0 → m q ≢ 0 → Moves f (Here at bs m text answers) (WithA (at + 16) (m p) bs m text answers) [] 6
      bytes_go bytes some = whatever f room fits at bs m text answers _ [] 6 (λ a x y n o i z c.
          let t : eqb (bit_or (m (p + 1)) (m (q + 1))) 0 ≡ true = eq-eqb _ _ bytes in
          let u : eqb (m q) 0 ≡ false = ne_eqb _ _ some in
          loads f room fits 0xAD (p + 1) Lda (view a x y n o i z c at bs m text answers) _ _ [] 5 refl refl refl small st.0 data_p.1 refl
          (loads f room fits 0x0D (q + 1) Ora (view (m (p + 1)) x y _ o i _ c ((at + 3) % 65536) bs m text answers) _ _ [] 4 refl refl refl small st.1.0 data_q.1 refl
          (rw t (placing f room fits (ins 0xD0 55) (view _ x y _ o i true c (((at + 3) % 65536 + 3) % 65536) bs m text answers) _ _ [] 3 small st.1.1.0 refl
          (loads f room fits 0xAE q Ldx (view _ x y _ o i true c ((((at + 3) % 65536 + 3) % 65536 + 2) % 65536) bs m text answers) _ _ [] 2 refl refl refl small st.1.1.1.0 data_q.0 refl
          (rw u (placing f room fits (ins 0xF0 50) (view _ _ y _ o i false c (((((at + 3) % 65536 + 3) % 65536 + 2) % 65536 + 3) % 65536) bs m text answers) _ _ [] 1 small st.1.1.1.1.0 refl
          (loads_last f room fits 0xAD p Lda (view _ _ y _ o i false c ((((((at + 3) % 65536 + 3) % 65536 + 2) % 65536 + 3) % 65536 + 2) % 65536) bs m text answers) _ _ refl refl refl small
          st.1.1.1.1.1.0 data_p.0 refl
          (record { here = record { pc = omega (arith, r); stack = refl; binary = refl; mem = refl; text = refl; answers = refl }; number = refl })))))))))

    module _ (st : Stands f.code (at + 48) (all_taken q)) where
      -- too much is left: on to the call
      much_goes_on : (v : ℕ) → m q ≤ v → Moves f (WithA (at + 48) v bs m text answers) (Here (at + 63) bs m text answers) [] 2
      much_goes_on v le = whatever_a f room fits (at + 48) v bs m text answers _ [] 2 (λ x y n o i z c.
          let t : nat_le (m q) v ≡ true = le-leb (m q) v le in
          loads f room fits 0xCD q Cmp (view v x y n o i z c (at + 48) bs m text answers) _ _ [] 1 refl refl refl small st.0 data_q.0 refl
          (rw t (placed_last f room fits (ins 0xB0 10) (view v x y _ o i _ true ((at + 48 + 3) % 65536) bs m text answers) _ _ small st.1.0 refl
          (record { pc = omega (arith, r); stack = refl; binary = refl; mem = refl; text = refl; answers = refl }))))

      little_stays : (v : ℕ) → v < m q → Moves f (WithA (at + 48) v bs m text answers) (WithA (at + 53) v bs m text answers) [] 2
      little_stays v lt = whatever_a f room fits (at + 48) v bs m text answers _ [] 2 (λ x y n o i z c.
          let t : nat_le (m q) v ≡ false = lt-leb (m q) v lt in
          loads f room fits 0xCD q Cmp (view v x y n o i z c (at + 48) bs m text answers) _ _ [] 1 refl refl refl small st.0 data_q.0 refl
          (rw t (placed_last f room fits (ins 0xB0 10) (view v x y _ o i _ false ((at + 48 + 3) % 65536) bs m text answers) _ _ small st.1.0 refl
          (record { here = record { pc = omega (arith, r); stack = refl; binary = refl; mem = refl; text = refl; answers = refl }; number = refl }))))

      -- what is left goes to the result, past the call
      stores_left : (v : ℕ) → Moves f (WithA (at + 53) v bs m text answers) (Here (at + 86) bs (put_word m RESULT v 0) text answers) [] 4
      stores_left v = whatever_a f room fits (at + 53) v bs m text answers _ [] 4 (λ x y n o i z c.
          let first = subst (λ p. Stands f.code p (ins 0x8D RESULT ∷ ins 0xA9 0 ∷ ins 0x8D (RESULT + 1) ∷ ins 0xF0 23 ∷ []))
          (let e : ((at + 48 + 3) % 65536 + 2) % 65536 ≡ at + 53 = omega (arith, r) in e) st.1.1 in
          stores f room fits RESULT (view v x y n o i z c (at + 53) bs m text answers) _ [] 3 small first.0 refl
          (placing f room fits (ins 0xA9 0) (view v x y n o i z c ((at + 53 + 3) % 65536) bs _ text answers) _ _ [] 2 small first.1.0 refl
          (stores f room fits (RESULT + 1) (view 0 x y _ o i _ c (((at + 53 + 3) % 65536 + 2) % 65536) bs _ text answers) _ [] 1 small first.1.1.0 refl
          (placed_last f room fits (ins 0xF0 23) (view 0 x y _ o i _ c ((((at + 53 + 3) % 65536 + 2) % 65536 + 3) % 65536) bs _ text answers) _ _ small first.1.1.1.0 refl
          (record { pc = omega (arith, r); stack = refl; binary = refl; mem = refl; text = refl; answers = refl })))))

  -- ---- the whole
  module _ (p q at : ℕ) (data_p : InData p) (data_q : InData q) (r : at + 86 ≤ highest_code) (st : Stands f.code at (subtracted p q)) where
    first : Stands f.code at (bytes_asked p q) × Stands f.code (at + 16) (differences q ++ all_taken q)
    first = stands_split f.code at (bytes_asked p q) (differences q ++ all_taken q) (omega (arith, r)) st

    second : Stands f.code (at + 16) (differences q) × Stands f.code (at + 48) (all_taken q)
    second =
        let s = stands_split f.code (at + 16) (differences q) (all_taken q) (omega (arith, r)) first.1 in
        (s.0, subst (λ p. Stands f.code p (all_taken q)) (let e : at + 16 + 32 ≡ at + 48 = omega arith in e) s.1)

    one : Stands f.code (at + 16) (less_once q 32) × Stands f.code (at + 16 + 8) (less_once q 24 ++ (less_once q 16 ++ less_once q 8))
    one = stands_split f.code (at + 16) (less_once q 32) (less_once q 24 ++ (less_once q 16 ++ less_once q 8)) (omega (arith, r)) second.0

    two : Stands f.code (at + 16 + 8) (less_once q 24) × Stands f.code (at + 16 + 8 + 8) (less_once q 16 ++ less_once q 8)
    two = stands_split f.code (at + 16 + 8) (less_once q 24) (less_once q 16 ++ less_once q 8) (omega (arith, r)) one.1

    three : Stands f.code (at + 16 + 8 + 8) (less_once q 16) × Stands f.code (at + 16 + 8 + 8 + 8) (less_once q 8)
    three = stands_split f.code (at + 16 + 8 + 8) (less_once q 16) (less_once q 8) (omega (arith, r)) two.1

    -- what is left is stored, past the call
    pub stored : (v : ℕ) → Moves f (WithA (at + 53) v bs m text answers) (Here (at + 86) bs (put_word m RESULT v 0) text answers) [] 4
    stored v = stores_left p q at data_p data_q r second.1 v

    module _ (byte : m p < 256) (goal : View → Type 0) (t : List ℕ) (l : ℕ)
        (done : m (p + 1) ≡ 0 → m (q + 1) ≡ 0 → m q ≢ 0 → Moves f (WithA (at + 53) (m p % m q) bs m text answers) goal t (4 + l))
        (on : Moves f (Here (at + 63) bs m text answers) goal t l) where
      module _ (high : m (p + 1) ≡ 0) (high' : m (q + 1) ≡ 0) (some : m q ≢ 0) where
        abbrev Next : ℕ → ℕ → Type 0
        Next a k = (v : ℕ) → v < 256 → v % m q ≡ m p % m q → Moves f (WithA a v bs m text answers) goal t k

        left : (v : ℕ) → v < m q → v % m q ≡ m p % m q → Moves f (WithA (at + 53) v bs m text answers) goal t (4 + l)
        left v lt same = subst (λ v. Moves f (WithA (at + 53) v bs m text answers) goal t (4 + l)) (sym same ∙ mod-eq_of_lt lt) (done high high' some)

        last : Next (at + 48) (6 + l)
        last v small' same = ⊎_elim
            (λ lt. moves_looser f _ _ _ t (2 + (4 + l)) (6 + l) (omega arith) (λ w h. h)
            (moves_then f _ _ _ [] t 2 (4 + l) (little_stays p q at data_p data_q r second.1 v lt) (left v lt same)))
            (λ le. moves_looser f _ _ _ t (2 + l) (6 + l) (omega arith) (λ w h. h) (moves_then f _ _ _ [] t 2 l (much_goes_on p q at data_p data_q r second.1 v le) on))
            (cases_lt v (m q))

        -- one difference more, before what comes next
        more : (n a k k' : ℕ) → n < 128 → a + 5 + n ≡ at + 53 → a + 8 + n ≤ highest_code → Stands f.code a (less_once q n) → 3 + l ≤ k → 3 + k ≤ k' → Next (a + 8) k → Next a k'
        more n a k k' near end room' there least most next v small' same = ⊎_elim
            (λ lt. moves_looser f _ _ _ t (2 + (4 + l)) k' (omega (arith, least, most)) (λ w h. h)
            (moves_then f _ _ _ [] t 2 (4 + l) (stays_once q n a data_q.0 near room' there v lt) (subst (λ e. Moves f (WithA e v bs m text answers) goal t (4 + l)) (sym end) (left v lt same))))
            (λ le. moves_looser f _ _ _ t (3 + k) k' most (λ w h. h)
            (moves_then f _ _ _ [] t 3 k (takes_once q n a data_q.0 near room' there v small' le) (next (v - m q) (omega (arith, small')) (less_leaves v (m q) le ∙ same))))
            (cases_lt v (m q))

        four : Next (at + 16) (18 + l)
        four =
            let e : at + 16 + 8 + 8 + 8 + 8 ≡ at + 48 = omega arith in
            more 32 (at + 16) (15 + l) (18 + l) (omega arith) (omega arith) (omega (arith, r)) one.0 (omega arith) (omega arith)
            (more 24 (at + 16 + 8) (12 + l) (15 + l) (omega arith) (omega arith) (omega (arith, r)) two.0 (omega arith) (omega arith)
            (more 16 (at + 16 + 8 + 8) (9 + l) (12 + l) (omega arith) (omega arith) (omega (arith, r)) three.0 (omega arith) (omega arith)
            (more 8 (at + 16 + 8 + 8 + 8) (6 + l) (9 + l) (omega arith) (omega arith) (omega (arith, r)) three.1 (omega arith) (omega arith) (subst (λ a. Next a (6 + l)) (sym e) last))))

        differs : Moves f (WithA (at + 16) (m p) bs m text answers) goal t (18 + l)
        differs = four (m p) byte refl

      -- a remainder by differences, or on to the call
      pub tries : Moves f (Here at bs m text answers) goal t (24 + l)
      tries = ⊎_elim
          (λ bytes. let none = none_set (m (p + 1)) (m (q + 1)) bytes in ⊎_elim
          (λ z. moves_looser f _ _ _ t (5 + l) (24 + l) (omega arith) (λ w h. h) (moves_then f _ _ _ [] t 5 l (none_goes_on p q at data_p data_q r first.0 bytes z) on))
          (λ some. moves_looser f _ _ _ t (6 + (18 + l)) (24 + l) (omega arith) (λ w h. h) (moves_then f _ _ _ [] t 6 (18 + l) (bytes_go p q at data_p data_q r first.0 bytes some) (differs none.0 none.1 some)))
          (cases_eq (m q) 0))
          (λ words. moves_looser f _ _ _ t (3 + l) (24 + l) (omega arith) (λ w h. h) (moves_then f _ _ _ [] t 3 l (words_go_on p q at data_p data_q r first.0 words) on))
          (cases_eq (bit_or (m (p + 1)) (m (q + 1))) 0)

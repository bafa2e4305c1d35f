-- The search for a line compares the number that is sought with those of lines in turn.
use Rattle.std.proofs.Common.{◌≡◌, ◌≢◌, ℕ, ◌+◌, ◌-◌, ◌*◌, ◌/◌, ◌%◌, ◌<◌, ◌≤◌, Bool, true, false, List, [], ◌∷◌, length, refl, sym, ap, ◌∙◌, subst, arith, ⊎_elim, eqb}
use Rattle.std.specs.Prelude.{◌||◌}
use Rattle.std.proofs.lemmas.Bool.{cases_eq, eq-eqb, ne_eqb}
use Rattle.tb_basic_syntax.specs.Source.{Rises}
use Rattle.tb_basic_meaning.specs.Control.{has_line}
use Rattle.tb_opcodes.specs.declared.Mnemonic.TheVariants.{Lda, Ldx}
use Rattle.tb_machine_reaching.proofs.Comes.{chained, known, looser}
use Rattle.tb_machine_reaching.proofs.Instr.{Stands, ins}
use Rattle.tb_machine_reaching.proofs.Placed.{placed_last, placing}
use Rattle.tb_machine_reaching.specs.View.{Comes, Fits, Setup, View, back_at, view}
use Rattle.tb_runtime16.specs.Routines.{Here, Moves, WordAt}
use Rattle.tb_compiled_kept.specs.Addresses.{RESULT, WANTED}
use Rattle.tb_proof_simulation.specs.Layout.{Layout}
use Rattle.tb_proof_simulation.proofs.Pieces.{loads, loads_last, moves_then, put_word, sets, whatever}
use Rattle.tb_proof_simulation.proofs.Resolved.{Lies, Piece, all_compared, asked, back, constant, differing, highest_code}

-- other bytes differ after a comparison
other_byte : (b k : ℕ) → b < 256 → k < 256 → b ≢ k → eqb ((b + 256 - k) % 256) 0 ≡ false
other_byte b k p q n = ne_eqb _ _ (λ h. n (omega (arith, p, q, h)))

same_byte : (b k : ℕ) → b < 256 → b ≡ k → eqb ((b + 256 - k) % 256) 0 ≡ true
same_byte b k p e = eq-eqb _ _ (omega (arith, p, e))

-- a word with the same bytes is the same
same_word : (w n : ℕ) → w % 256 ≡ n % 256 → w / 256 ≡ n / 256 → w ≡ n
same_word w n p q = omega (arith, p, q)

module _ (f : Setup) (fits : Fits f 16) (l h lo hi : ℕ) (m : ℕ → ℕ) (text answers : List ℕ) where
  abbrev bs : List ℕ
  bs = l ∷ h ∷ lo ∷ hi ∷ []

  -- at an address, with a number in A and X
  pub record Asking (w at : ℕ) (u : View) : Type 0 where
    pub here : Here at bs m text answers u
    pub low : u.regs.a ≡ w % 256
    pub high : u.regs.x ≡ w / 256

  -- whatever the other registers and the flags
  whatever_asking : (w at : ℕ) (q : View → Type 0) (t : List ℕ) (k : ℕ)
      → ((y : ℕ) (n v i z c : Bool) → Comes f (view (w % 256) (w / 256) y n v i z c at bs m text answers) q t k) → Moves f (Asking w at) q t k
  whatever_asking w at q t k next u e =
      known f u at bs text answers q t k e.here.pc e.here.stack e.here.binary e.here.text e.here.answers
      (subst (λ m. Comes f (view u.regs.a u.regs.x u.regs.y u.regs.flags.n u.regs.flags.v u.regs.flags.i u.regs.flags.z u.regs.flags.c at bs m text answers) q t k) (sym e.here.mem)
      (subst (λ a. Comes f (view a u.regs.x u.regs.y u.regs.flags.n u.regs.flags.v u.regs.flags.i u.regs.flags.z u.regs.flags.c at bs m text answers) q t k) (sym e.low)
      (subst (λ x. Comes f (view (w % 256) x u.regs.y u.regs.flags.n u.regs.flags.v u.regs.flags.i u.regs.flags.z u.regs.flags.c at bs m text answers) q t k) (sym e.high) (next _ _ _ _ _ _))))

  -- the number that is sought goes to A and X
  pub asks : (w at : ℕ) → at + 6 ≤ highest_code → WordAt m WANTED w → Stands f.code at asked → Moves f (Here at bs m text answers) (Asking w (at + 6)) [] 2
  asks w at r is st = whatever f 16 fits at bs m text answers _ [] 2 (λ a x y n v i z c.
      loads f 16 fits 0xAD WANTED Lda (view a x y n v i z c at bs m text answers) _ _ [] 1 refl refl refl refl st.0 refl refl
      (loads_last f 16 fits 0xAE (WANTED + 1) Ldx (view (m WANTED) x y _ v i _ c ((at + 3) % 65536) bs m text answers) _ _ refl refl refl refl st.1.0 refl refl
      (record {
        here = record { pc = omega (arith, r); stack = refl; binary = refl; mem = refl; text = refl; answers = refl };
        low = is.low;
        high = is.high;
      })))

  -- one comparison
  module _ (w n at : ℕ) (r : at + 19 ≤ highest_code) (few : w < 65536) (small : n < 65536) (st : Stands f.code at (differing n)) (q : View → Type 0) (t : List ℕ) (k : ℕ)
      (same : w ≡ n → Moves f (Here (at + 8) bs m text answers) q t k) (other : w ≢ n → Moves f (Asking w (at + 19)) q t k) where
    -- what differs leads on
    leads_on : w ≢ n → (y p : ℕ) (g v i z c : Bool) → p ≡ at + 19 → Comes f (view (w % 256) (w / 256) y g v i z c p bs m text answers) q t k
    leads_on d y p g v i z c e = other d _ (record { here = record { pc = e; stack = refl; binary = refl; mem = refl; text = refl; answers = refl }; low = refl; high = refl })

    by_high : (y : ℕ) (g v i z c : Bool) → w % 256 ≡ n % 256
        → Comes f (view (w % 256) (w / 256) y g v i z c ((((at + 2) % 65536) + 2) % 65536) bs m text answers) q t (1 + (1 + k))
    by_high y g v i z c low =
        placing f 16 fits (ins 0xE0 (n / 256)) (view (w % 256) (w / 256) y g v i z c ((((at + 2) % 65536) + 2) % 65536) bs m text answers) _ q t (1 + k) refl st.1.1.0 refl
        (⊎_elim
        (λ yes. let e : eqb ((w / 256 + 256 - n / 256) % 256) 0 ≡ true = same_byte (w / 256) (n / 256) (omega (arith, few)) yes in
        placing f 16 fits (ins 0xD0 11) (view (w % 256) (w / 256) y _ v i _ _ (((((at + 2) % 65536) + 2) % 65536 + 2) % 65536) bs m text answers) _ q t k refl st.1.1.1.0 refl
        (rw e (same (same_word w n low yes) _ (record { pc = omega (arith, r); stack = refl; binary = refl; mem = refl; text = refl; answers = refl }))))
        (λ no. let e : eqb ((w / 256 + 256 - n / 256) % 256) 0 ≡ false = other_byte (w / 256) (n / 256) (omega (arith, few)) (omega (arith, small)) no in
        placing f 16 fits (ins 0xD0 11) (view (w % 256) (w / 256) y _ v i _ _ (((((at + 2) % 65536) + 2) % 65536 + 2) % 65536) bs m text answers) _ q t k refl st.1.1.1.0 refl
        (rw e (leads_on (λ s. no (ap (λ x. x / 256) s)) _ _ _ _ _ _ _ (omega (arith, r)))))
        (cases_eq (w / 256) (n / 256)))

    compares_one : Moves f (Asking w at) q t (1 + (1 + (1 + (1 + k))))
    compares_one = whatever_asking w at q t (1 + (1 + (1 + (1 + k)))) (λ y g v i z c.
        placing f 16 fits (ins 0xC9 (n % 256)) (view (w % 256) (w / 256) y g v i z c at bs m text answers) _ q t (1 + (1 + (1 + k))) refl st.0 refl
        (⊎_elim
        (λ yes. let e : eqb ((w % 256 + 256 - n % 256) % 256) 0 ≡ true = same_byte (w % 256) (n % 256) (omega arith) yes in
        placing f 16 fits (ins 0xD0 15) (view (w % 256) (w / 256) y _ v i _ _ ((at + 2) % 65536) bs m text answers) _ q t (1 + (1 + k)) refl st.1.0 refl
        (rw e (by_high _ _ _ _ _ _ yes)))
        (λ no. let e : eqb ((w % 256 + 256 - n % 256) % 256) 0 ≡ false = other_byte (w % 256) (n % 256) (omega arith) (omega arith) no in
        placing f 16 fits (ins 0xD0 15) (view (w % 256) (w / 256) y _ v i _ _ ((at + 2) % 65536) bs m text answers) _ q t (1 + (1 + k)) refl st.1.0 refl
        (rw e (looser f _ q q t k (1 + (1 + k)) (omega arith) (λ u z. z) (leads_on (λ s. no (ap (λ x. x % 256) s)) _ _ _ _ _ _ _ (omega (arith, r))))))
        (cases_eq (w % 256) (n % 256))))

  -- the address goes to the result, and back to the caller
  gives_back : (to at : ℕ) → at + 11 ≤ highest_code → Stands f.code at (constant to RESULT) → Stands f.code (at + 10) back
      → Moves f (Here at bs m text answers) (Here (back_at l h) (lo ∷ hi ∷ []) (put_word m RESULT (to % 256) (to / 256)) text answers) [] 5
  gives_back to at r st end =
      moves_then f _ _ _ [] [] 4 1 (sets f 16 fits at bs m text answers refl to RESULT (omega (arith, r)) (refl, refl) st)
      (whatever f 16 fits (at + 10) bs (put_word m RESULT (to % 256) (to / 256)) text answers _ [] 1 (λ a x y n v i z c.
      placed_last f 16 fits (ins 0x60 0) (view a x y n v i z c (at + 10) bs (put_word m RESULT (to % 256) (to / 256)) text answers) _ _ refl end.0 refl
      (record { pc = refl; stack = refl; binary = refl; mem = refl; text = refl; answers = refl })))

  module _ (ly : Layout) (w : ℕ) (few : w < 65536) where
    abbrev given : ℕ → ℕ
    given = put_word m RESULT (ly.start w % 256) (ly.start w / 256)

    -- a comparison with each of these numbers: the address of the line that is sought, or what follows them
    pub compares_all : (ns : List ℕ) (low : ℕ) → Rises low 65536 ns → (at : ℕ) (ps : List Piece) → Lies f.code at (all_compared ly ns ps)
        → (q : View → Type 0) (t : List ℕ) (k : ℕ) → (has_line ns w ≡ true → Moves f (Here (back_at l h) (lo ∷ hi ∷ []) given text answers) q t k)
        → (has_line ns w ≡ false → (to : ℕ) → Lies f.code to ps → Moves f (Here to bs m text answers) q t k) → Moves f (Asking w at) q t (4 * length ns + (5 + k))
    compares_all [] low r at ps lies q t k hit miss u e = looser f u q q t k (4 * length {A = ℕ} [] + (5 + k)) (omega arith) (λ v z. z) (miss refl at lies u e.here)
    compares_all (n ∷ ns) low r at ps lies q t k hit miss u e =
        let rest = lies.2.2.2 in
        let next : at + 8 + 10 + 1 ≡ at + 19 = omega arith in
        looser f u q q t (1 + (1 + (1 + (1 + (4 * length ns + (5 + k)))))) (4 * length (n ∷ ns) + (5 + k)) (omega arith) (λ v z. z)
        (compares_one w n at (omega (arith, lies.2.2.0)) few r.1 lies.1 q t (4 * length ns + (5 + k))
        (λ s v g.
        looser f v q q t (5 + k) (4 * length ns + (5 + k)) (omega arith) (λ v z. z)
        (chained f v _ q [] t 5 k
        (subst (λ to. Comes f v (Here (back_at l h) (lo ∷ hi ∷ []) (put_word m RESULT (to % 256) (to / 256)) text answers) [] 5) (ap ly.start (sym s))
        (gives_back (ly.start n) (at + 8) (omega (arith, lies.2.2.0)) lies.2.1 lies.2.2.1 v g))
        (hit (ap (λ b. b || has_line ns w) (eq-eqb n w (sym s))))))
        (λ d. compares_all ns (n + 1) r.2 (at + 19) ps (subst (λ p. Lies f.code p (all_compared ly ns ps)) next rest) q t k
        (λ yes. hit (ap (λ b. b || has_line ns w) (ne_eqb n w (λ s. d (sym s))) ∙ yes))
        (λ no. miss (ap (λ b. b || has_line ns w) (ne_eqb n w (λ s. d (sym s))) ∙ no)))
        u e)

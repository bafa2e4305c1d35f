-- A return that is stored or taken in line: the code's pieces, and what they leave in memory.
use Rattle.std.proofs.Common.{◌≡◌, ◌≢◌, ℕ, suc, ◌+◌, ◌/◌, ◌%◌, ◌≤◌, ◌<◌, Bool, true, false, cond, List, [], ◌∷◌}
use Rattle.std.proofs.Common.{length, refl, sym, ap, ◌∙◌, subst, arith, leb, eqb, Ok}
use Rattle.std.proofs.lemmas.Bool.Decides.{nat_tests}
use Rattle.tb_cpu.specs.declared.registers.Regs.{Regs}
use Rattle.tb_cpu.specs.Instructions.{executed, advanced}
use Rattle.tb_memmap.specs.Bytes.{with_byte}
use Rattle.tb_opcodes.specs.declared.Mnemonic.TheVariants.{Lda, Ldx, Sta}
use Rattle.tb_opcodes.specs.declared.Mode.TheVariants.{AbsoluteX}
use Rattle.tb_machine_reaching.proofs.Comes.{chained, known, looser}
use Rattle.tb_machine_reaching.proofs.Instr.{Stands, ins, instr_bytes}
use Rattle.tb_machine_reaching.proofs.Memory.{put_other, put_same}
use Rattle.tb_machine_reaching.proofs.Placed.{placed_last, placing, reads_data, stores_at, takes_at}
use Rattle.tb_machine_reaching.specs.View.{Bytes, Comes, Fits, Setup, View, is_data, view, with_s}
use Rattle.tb_compiled_kept.specs.Addresses.{LEFT, NOTES, RETURN_HIGH, RETURN_LOW}
use Rattle.tb_runtime16.specs.Routines.{Here, Moves, AreReturns, WordAt}
use Rattle.tb_proof_simulation.proofs.Mirrors.{Flagged}
use Rattle.tb_proof_simulation.proofs.Pieces.{loads_last, stores_short, stores_short_last, whatever}
use Rattle.tb_proof_simulation.proofs.Resolved.{Code, Lies, Piece, highest_code}
use Rattle.tb_proof_correctness.proofs.Pieces.Branches.{branch_behind, branches, is_taken}
use Rattle.tb_proof_correctness.proofs.CodeBytes.GroupCode.{BranchReaches, Way, Zero, asked, branch_code, branch_on, return_stored, return_taken, way_size}

return_there : (a : ℕ) → 0xC100 ≤ a → a ≤ 0xC4F3 → is_data a ≡ true
return_there a lo hi = grind (arith, nat_tests)

module _ (f : Setup) (room : ℕ) (fits : Fits f room) (bs : List ℕ) (m : ℕ → ℕ) (text answers : List ℕ) (small : leb (length bs) room ≡ true) where
  -- at an address with a known X
  pub record Indexed (at x : ℕ) (w : View) : Type 0 where
    pub here : Here at bs m text answers w
    pub index : w.regs.x ≡ x

  whatever_x : (at x : ℕ) (q : View → Type 0) (t : List ℕ) (l : ℕ)
      → ((a y : ℕ) (n v i z c : Bool) → Comes f (view a x y n v i z c at bs m text answers) q t l) → Moves f (Indexed at x) q t l
  whatever_x at x q t l h w e =
      known f w at bs text answers q t l e.here.pc e.here.stack e.here.binary e.here.text e.here.answers
      (subst (λ m. Comes f (view w.regs.a w.regs.x w.regs.y w.regs.flags.n w.regs.flags.v w.regs.flags.i w.regs.flags.z w.regs.flags.c at bs m text answers) q t l) (sym e.here.mem)
      (subst (λ x. Comes f (view w.regs.a x w.regs.y w.regs.flags.n w.regs.flags.v w.regs.flags.i w.regs.flags.z w.regs.flags.c at bs m text answers) q t l) (sym e.index) (h _ _ _ _ _ _ _)))

  -- a byte of data in X, with Z telling whether it is 0
  record Loaded (at x : ℕ) (w : View) : Type 0 where
    indexed : Indexed at x w
    zero : w.regs.flags.z ≡ eqb x 0

  loads_x : (at p : ℕ) → at + 3 ≤ highest_code → is_data p ≡ true → Bytes f.code at (instr_bytes (ins 0xAE p)) → Moves f (Here at bs m text answers) (Loaded (at + 3) (m p)) [] 1
  loads_x at p r d st = whatever f room fits at bs m text answers _ [] 1 (λ a x y n v i z c.
      loads_last f room fits 0xAE p Ldx (view a x y n v i z c at bs m text answers) _ _ refl refl refl small st d refl
      (record {
        indexed = record {
          here = record {
            pc = let e : (at + 3) % 65536 ≡ at + 3 = omega (arith, r) in e;
            stack = refl;
            binary = refl;
            mem = refl;
            text = refl;
            answers = refl;
          };
          index = refl;
        };
        zero = refl;
      }))

  -- where a branch leads by whether such a byte is 0
  pub asks : (at p to : ℕ) (way : Way) (wanted t : Bool) (ps : List Piece) → is_data p ≡ true → eqb (m p) 0 ≡ t → BranchReaches way (at + 3) to
      → Lies f.code at (Code (asked p) ∷ Code (branch_code way (branch_on Zero wanted) (at + 3) to) ∷ ps) → Moves f (Here at bs m text answers)
      (Indexed (cond (is_taken wanted t) to (at + 3 + way_size way)) (m p)) [] 3
  asks at p to way wanted t ps d e reach lies w h =
      let room_behind = branch_behind f (at + 3) way Zero wanted to ps lies.2 in
      chained f w _ _ [] [] 1 2 (loads_x at p lies.0 d lies.1.0 w h) (λ u g.
      looser f u _ _ [] 2 2 (omega arith) (λ v k. record { here = k.here; index = k.index ∙ g.indexed.index })
      (branches f room fits bs m text answers small (at + 3) way Zero wanted t to room_behind.0 reach lies.2.1 u g.indexed.here (g.zero ∙ e)))

  -- ---- a return's bytes by X
  stores_by_x : (base p : ℕ) (v : View) (q : View → Type 0) (t : List ℕ) (n : ℕ) → leb (length v.stack) room ≡ true
      → Bytes f.code v.regs.pc (instr_bytes (ins 0x9D base)) → (base + v.regs.x) % 65536 ≡ p → is_data p ≡ true
      → Comes f (record v { regs = advanced v.regs AbsoluteX; mem = with_byte v.mem p v.regs.a }) q t n → Comes f v q t (1 + n)
  stores_by_x base p v q t n short b e d next =
      placing f room fits (ins 0x9D base) v (record v { regs = advanced v.regs AbsoluteX; mem = with_byte v.mem p v.regs.a }) q t n short b
      (stores_at f.code room (ins 0x9D base) v Sta AbsoluteX p refl refl refl refl (ap (λ a. Ok a) e) v.regs.a d refl) next

  loads_by_x : (base p : ℕ) (v : View) (r : Regs) (q : View → Type 0) (t : List ℕ) (n : ℕ) → leb (length v.stack) room ≡ true
      → Bytes f.code v.regs.pc (instr_bytes (ins 0xBD base)) → (base + v.regs.x) % 65536 ≡ p → is_data p ≡ true
      → executed Lda (advanced v.regs AbsoluteX) (λ a. Ok (v.mem p)) p ≡ Ok (r, []) → Comes f (record v { regs = with_s v.regs.s r }) q t n → Comes f v q t (1 + n)
  loads_by_x base p v r q t n short b e d e' next =
      placing f room fits (ins 0xBD base) v (record v { regs = with_s v.regs.s r }) q t n short b
      (takes_at f.code room (ins 0xBD base) v Lda AbsoluteX p refl refl refl refl (ap (λ a. Ok a) e) (v.mem p) r (reads_data f.code v.mem p d) e') next

  module _ (at l h : ℕ) (few : m NOTES < 256) where
    -- memory with the two bytes, and with their count
    abbrev pub with_return : ℕ → ℕ
    with_return = with_byte (with_byte m (RETURN_LOW + m NOTES) l) (RETURN_HIGH + m NOTES) h

    abbrev pub counted : ℕ → ℕ
    counted = with_byte with_return NOTES ((with_return NOTES + 1) % 256)

    -- the piece that stores a return
    pub stores_return : at + 16 ≤ highest_code → Stands f.code at (return_stored l h) → Moves f (Here at bs m text answers)
        (Flagged (at + 16) bs counted text answers (eqb ((with_return NOTES + 1) % 256) 0)) [] 6
    stores_return r st = whatever f room fits at bs m text answers _ [] 6 (λ a x y n v i z c.
        placing f room fits (ins 0xAE NOTES) (view a x y n v i z c at bs m text answers) _ _ [] 5 small st.0 refl
        (placing f room fits (ins 0xA9 l) (view a (m NOTES) y _ v i _ c ((at + 3) % 65536) bs m text answers) _ _ [] 4 small st.1.0 refl
        (stores_by_x RETURN_LOW (RETURN_LOW + m NOTES) (view l (m NOTES) y _ v i _ c ((((at + 3) % 65536) + 2) % 65536) bs m text answers) _ [] 3 small
        st.1.1.0 (omega (arith, few)) (return_there (RETURN_LOW + m NOTES) (omega arith) (omega (arith, few)))
        (placing f room fits (ins 0xA9 h) (view l (m NOTES) y _ v i _ c ((((((at + 3) % 65536) + 2) % 65536) + 3) % 65536) bs _ text answers) _ _ [] 2 small st.1.1.1.0 refl
        (stores_by_x RETURN_HIGH (RETURN_HIGH + m NOTES) (view h (m NOTES) y _ v i _ c ((((((((at + 3) % 65536) + 2) % 65536) + 3) % 65536) + 2) % 65536)
        bs _ text answers) _ [] 1 small st.1.1.1.1.0 (omega (arith, few)) (return_there (RETURN_HIGH + m NOTES) (omega arith) (omega (arith, few)))
        (placed_last f room fits (ins 0xEE NOTES) (view h (m NOTES) y _ v i _ c ((((((((((at + 3) % 65536) + 2) % 65536) + 3) % 65536) + 2) % 65536)
        + 3) % 65536) bs with_return text answers) _ _ small st.1.1.1.1.1.0 refl
        (record { here = record { pc = omega (arith, r); stack = refl; binary = refl; mem = refl; text = refl; answers = refl }; zero = refl })))))))

  -- the high byte of the count goes up
  pub raises : (at : ℕ) → at + 3 ≤ highest_code → Stands f.code at (ins 0xEE (NOTES + 1) ∷ []) → Moves f (Here at bs m text answers)
      (Here (at + 3) bs (with_byte m (NOTES + 1) ((m (NOTES + 1) + 1) % 256)) text answers) [] 1
  raises at r st = whatever f room fits at bs m text answers _ [] 1 (λ a x y n v i z c.
      placed_last f room fits (ins 0xEE (NOTES + 1)) (view a x y n v i z c at bs m text answers) _ _ small st.0 refl
      (record { pc = omega (arith, r); stack = refl; binary = refl; mem = refl; text = refl; answers = refl }))

  module _ (at x : ℕ) (few : x < 256) where
    -- the count's low byte less one, and memory with it, and then with the return's bytes in page zero
    abbrev pub left : ℕ
    left = (x + 255) % 256

    abbrev pub less : ℕ → ℕ
    less = with_byte m NOTES left

    abbrev pub half_taken : ℕ → ℕ
    half_taken = with_byte less LEFT (less (RETURN_LOW + left))

    abbrev pub taken : ℕ → ℕ
    taken = with_byte half_taken (LEFT + 1) (half_taken (RETURN_HIGH + left))

    -- the piece that takes a return
    pub takes_return : at + 14 ≤ highest_code → Stands f.code at return_taken → Moves f (Indexed at x) (Here (at + 14) bs taken text answers) [] 6
    takes_return r st = whatever_x at x _ [] 6 (λ a y n v i z c.
        placing f room fits (ins 0xCA 0) (view a x y n v i z c at bs m text answers) _ _ [] 5 small st.0 refl
        (placing f room fits (ins 0x8E NOTES) (view a left y _ v i _ c ((at + 1) % 65536) bs m text answers) _ _ [] 4 small st.1.0 refl
        (loads_by_x RETURN_LOW (RETURN_LOW + left) (view a left y _ v i _ c ((((at + 1) % 65536) + 3) % 65536) bs less text answers) _ _ [] 3 small
        st.1.1.0 (omega arith) (return_there (RETURN_LOW + left) (omega arith) (omega arith)) refl
        (stores_short f room fits LEFT (view _ left y _ v i _ c ((((((at + 1) % 65536) + 3) % 65536) + 3) % 65536) bs less text answers) _ [] 2 small st.1.1.1.0 refl
        (loads_by_x RETURN_HIGH (RETURN_HIGH + left) (view _ left y _ v i _ c ((((((((at + 1) % 65536) + 3) % 65536) + 3) % 65536) + 2) % 65536) bs
        half_taken text answers) _ _ [] 1 small st.1.1.1.1.0 (omega arith) (return_there (RETURN_HIGH + left) (omega arith) (omega arith)) refl
        (stores_short_last f room fits (LEFT + 1) (view _ left y _ v i _ c ((((((((((at + 1) % 65536) + 3) % 65536) + 3) % 65536) + 2) % 65536) + 3) %
        65536) bs half_taken text answers) _ small st.1.1.1.1.1.0 refl
        (record { pc = omega (arith, r); stack = refl; binary = refl; mem = refl; text = refl; answers = refl })))))))

-- ---- what they leave in memory
-- memory that agrees on the bytes of the first returns has them too
returns_same : (m k : ℕ → ℕ) (ns : List ℕ) → ((j : ℕ) → j < length ns → (k (RETURN_LOW + j) ≡ m (RETURN_LOW + j)) × (k (RETURN_HIGH + j) ≡ m (RETURN_HIGH + j)))
    → AreReturns m ns → AreReturns k ns
returns_same m k [] e h = tt
returns_same m k (n ∷ ns) e h =
    let s = e (length ns) (omega arith) in
    (record { low = s.0 ∙ h.0.low; high = s.1 ∙ h.0.high; small = h.0.small }, returns_same m k ns (λ j p. e j (omega (arith, p))) h.1)

-- memory with one return more than another
pub record Added (m : ℕ → ℕ) (return_address : ℕ) (ns : List ℕ) (m' : ℕ → ℕ) : Type 0 where
  pub count : WordAt m' NOTES (suc (length ns))
  pub held : AreReturns m' (return_address ∷ ns)
  pub others : (a : ℕ) → a < RETURN_LOW → a ≢ NOTES → a ≢ NOTES + 1 → m' a ≡ m a

module _ (m : ℕ → ℕ) (return_address : ℕ) (ns : List ℕ) (word : return_address < 65536) (count : WordAt m NOTES (length ns)) (held : AreReturns m ns) (near : m (NOTES + 1) ≡ 0) where
  few : length ns < 256
  few = omega (arith, count.high, near, count.small)

  index : m NOTES ≡ length ns
  index = omega (arith, count.low, few)

  -- the count's low byte is a byte
  pub index_small : m NOTES < 256
  index_small = omega (arith, index, few)

  abbrev p : ℕ
  p = RETURN_LOW + m NOTES

  abbrev q : ℕ
  q = RETURN_HIGH + m NOTES

  abbrev one : ℕ → ℕ
  one = with_byte m p (return_address % 256)

  abbrev two : ℕ → ℕ
  two = with_byte one q (return_address / 256)

  apart : (a : ℕ) → a ≢ p → a ≢ q → two a ≡ m a
  apart a n n' = put_other one q (return_address / 256) a n' ∙ put_other m p (return_address % 256) a n

  two_returns : AreReturns two (return_address ∷ ns)
  two_returns = (
    record {
      low = ap (λ j. two (RETURN_LOW + j)) (sym index) ∙ put_other one q (return_address / 256) p (λ e. omega (arith, e)) ∙ put_same m p (return_address % 256) p refl;
      high = ap (λ j. two (RETURN_HIGH + j)) (sym index) ∙ put_same one q (return_address / 256) q refl;
      small = word;
    },
    returns_same m two ns (λ j lt. (
      apart (RETURN_LOW + j) (λ e. omega (arith, e, lt, index)) (λ e. omega (arith, e, lt, few, index)),
      apart (RETURN_HIGH + j) (λ e. omega (arith, e, lt, few, index)) (λ e. omega (arith, e, lt, index)),
    )) held,
  )

  low_byte : two NOTES ≡ length ns
  low_byte = apart NOTES (λ e. omega (arith, e)) (λ e. omega (arith, e)) ∙ index

  high_byte : two (NOTES + 1) ≡ 0
  high_byte = apart (NOTES + 1) (λ e. omega (arith, e)) (λ e. omega (arith, e)) ∙ near

  -- what then changes only the count
  with_count : (m' : ℕ → ℕ) → ((a : ℕ) → a ≢ NOTES → a ≢ NOTES + 1 → m' a ≡ two a) → WordAt m' NOTES (suc (length ns)) → Added m return_address ns m'
  with_count m' e c = record {
    count = c;
    held = returns_same two m' (return_address ∷ ns) (λ j lt. (
      e (RETURN_LOW + j) (λ k. omega (arith, k)) (λ k. omega (arith, k)),
      e (RETURN_HIGH + j) (λ k. omega (arith, k)) (λ k. omega (arith, k)),
    )) two_returns;
    others = λ a lo n n'. e a n n' ∙ apart a (λ k. omega (arith, k, lo)) (λ k. omega (arith, k, lo));
  }

  abbrev three : ℕ → ℕ
  three = with_byte two NOTES ((two NOTES + 1) % 256)

  stays : three (NOTES + 1) ≡ 0
  stays = put_other two NOTES ((two NOTES + 1) % 256) (NOTES + 1) (λ e. omega (arith, e)) ∙ high_byte

  goes_up : three NOTES ≡ (length ns + 1) % 256
  goes_up = put_same two NOTES _ NOTES refl ∙ ap (λ k. (k + 1) % 256) low_byte

  -- the count has no carry
  pub added : eqb ((two NOTES + 1) % 256) 0 ≡ false → Added m return_address ns three
  added e = with_count three (λ a n n'. put_other two NOTES _ a n) (record { low = omega (arith, goes_up); high = omega (arith, stays, some); small = omega (arith, few) })
    where
      some : length ns + 1 < 256
      some = let no : (length ns + 1) % 256 ≢ 0 = λ z. grind (arith, nat_tests, e, low_byte, z) in omega (arith, no, few)

  -- the count has a carry
  pub carried : eqb ((two NOTES + 1) % 256) 0 ≡ true → Added m return_address ns (with_byte three (NOTES + 1) ((three (NOTES + 1) + 1) % 256))
  carried e =
      with_count (with_byte three (NOTES + 1) ((three (NOTES + 1) + 1) % 256)) (λ a n n'. put_other three (NOTES + 1) _ a n' ∙ put_other two NOTES _ a n)
      (record {
        low = put_other three (NOTES + 1) ((three (NOTES + 1) + 1) % 256) NOTES (λ k. omega (arith, k)) ∙ omega (arith, goes_up);
        high = put_same three (NOTES + 1) _ (NOTES + 1) refl ∙ omega (arith, stays, full);
        small = omega (arith, few);
      })
    where
      full : length ns + 1 ≡ 256
      full = let z : (length ns + 1) % 256 ≡ 0 = grind (arith, nat_tests, e, low_byte) in omega (arith, z, few)

-- memory with one return less, which is in page zero
pub record Dropped (m : ℕ → ℕ) (return_address : ℕ) (ns : List ℕ) (m' : ℕ → ℕ) : Type 0 where
  pub address : WordAt m' LEFT return_address
  pub count : WordAt m' NOTES (length ns)
  pub others : (a : ℕ) → a ≢ NOTES → a ≢ LEFT → a ≢ LEFT + 1 → m' a ≡ m a

module _ (m : ℕ → ℕ) (return_address : ℕ) (ns : List ℕ) (count : WordAt m NOTES (suc (length ns))) (held : AreReturns m (return_address ∷ ns)) (near : m (NOTES + 1) ≡ 0) where
  abbrev x : ℕ
  x = m NOTES

  few_left : suc (length ns) < 256
  few_left = omega (arith, count.high, near, count.small)

  -- its low byte
  pub some : x ≡ suc (length ns)
  some = omega (arith, count.low, few_left)

  -- the count's low byte is a byte
  pub some_small : x < 256
  some_small = omega (arith, some, few_left)

  abbrev down : ℕ
  down = (x + 255) % 256

  down_is : down ≡ length ns
  down_is = omega (arith, some, few_left)

  abbrev first : ℕ → ℕ
  first = with_byte m NOTES down

  abbrev second : ℕ → ℕ
  second = with_byte first LEFT (first (RETURN_LOW + down))

  abbrev third : ℕ → ℕ
  third = with_byte second (LEFT + 1) (second (RETURN_HIGH + down))

  low_return : first (RETURN_LOW + down) ≡ return_address % 256
  low_return = put_other m NOTES down (RETURN_LOW + down) (λ e. omega (arith, e)) ∙ ap (λ j. m (RETURN_LOW + j)) down_is ∙ held.0.low

  high_return : second (RETURN_HIGH + down) ≡ return_address / 256
  high_return =
      put_other first LEFT _ (RETURN_HIGH + down) (λ e. omega (arith, e)) ∙ put_other m NOTES down (RETURN_HIGH + down) (λ e. omega (arith, e))
      ∙ ap (λ j. m (RETURN_HIGH + j)) down_is ∙ held.0.high

  -- the newest return was dropped from the list
  pub dropped : Dropped m return_address ns third
  dropped = record {
    address = record {
      low = put_other second (LEFT + 1) (second (RETURN_HIGH + down)) LEFT (λ e. omega (arith, e)) ∙ put_same first LEFT (first (RETURN_LOW + down)) LEFT refl ∙ low_return;
      high = put_same second (LEFT + 1) (second (RETURN_HIGH + down)) (LEFT + 1) refl ∙ high_return;
      small = held.0.small;
    };
    count = record {
      low = untouched NOTES (λ e. omega (arith, e)) (λ e. omega (arith, e)) ∙ put_same m NOTES down NOTES refl ∙ omega (arith, down_is, few_left);
      high = untouched (NOTES + 1) (λ e. omega (arith, e)) (λ e. omega (arith, e)) ∙ put_other m NOTES down (NOTES + 1) (λ e. omega (arith, e)) ∙ omega (arith, near, few_left);
      small = omega (arith, few_left);
    };
    others = λ a n n' n''. untouched a n' n'' ∙ put_other m NOTES down a n;
  }
    where
      untouched : (a : ℕ) → a ≢ LEFT → a ≢ LEFT + 1 → third a ≡ first a
      untouched a n n' = put_other second (LEFT + 1) _ a n' ∙ put_other first LEFT _ a n

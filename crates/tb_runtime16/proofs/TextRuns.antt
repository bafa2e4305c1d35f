-- Text.
use Rattle.std.proofs.Common.{◌≡◌, ◌≢◌, ℕ, suc, ◌+◌, ◌*◌, ◌%◌, ◌<◌, ◌≤◌, Bool, true, false, List, [], ◌∷◌, length}
use Rattle.std.proofs.Common.{refl, ap, ◌∙◌, subst, ⊎_elim, arith, eqb}
use Rattle.std.specs.Prelude.{Ok}
use Rattle.std.proofs.lemmas.Bool.{ne_eqb, eq-eqb, cases_eq}
use Rattle.tb_memmap.specs.Bytes.{with_byte}
use Rattle.tb_opcodes.specs.declared.Mnemonic.TheVariants.{Lda}
use Rattle.tb_opcodes.specs.declared.Mode.TheVariants.{IndirectY}
use Rattle.tb_machine_reaching.specs.View.{Setup, Holds, Fits, Comes, view, is_data, Bytes}
use Rattle.tb_machine_reaching.proofs.Instr.{ins}
use Rattle.tb_machine_reaching.proofs.Memory.{put_other, program_not_data}
use Rattle.tb_machine_reaching.proofs.Start.{in_program}
use Rattle.tb_machine_reaching.proofs.Comes.{after, ending, looser}
use Rattle.tb_machine_reaching.proofs.Calls.{under}
use Rattle.tb_machine_reaching.proofs.Placed.{placing, takes_at, reads_code}
use Rattle.tb_basic_meaning.specs.Control.{column_after}
use Rattle.tb_runtime16.specs.Addresses.{TEXT_AT}
use Rattle.tb_compiled_kept.specs.Addresses.{COLUMN, POINTER, LENGTH}
use Rattle.tb_runtime16.specs.Block.{block_part}
use Rattle.tb_runtime16.specs.Laws.{Back, Sent, Told, nowhere, TextLaw}
use Rattle.tb_opcodes.specs.Bytes.{AreBytes}
use Rattle.tb_runtime16.proofs.InMemory.{bytes_of, value}
use Rattle.tb_runtime16.proofs.Within.{text_part, text_in}
use Rattle.tb_runtime16.proofs.Called.{calls}
use Rattle.tb_runtime16.proofs.Columns.{column_same}
use Rattle.tb_runtime16.proofs.SendRuns.{send_law}
use Rattle.tb_runtime16.proofs.Frames.{leaves_now}

module _ (f : Setup) (fits : Fits f 4) (block : Holds block_part f.code) (lo hi : ℕ) (text answers : List ℕ) (m0 : ℕ → ℕ) (all : List ℕ) where
  -- the bytes from an address on are still to be sent, and those before were
  record Still (m : ℕ → ℕ) (at : ℕ) (bytes : List ℕ) : Type 0 where
    word_is : m POINTER + 256 * m (POINTER + 1) ≡ at
    low : m POINTER < 256
    high : m (POINTER + 1) < 256
    shown : Bytes f.code at bytes
    from : 0x0800 ≤ at
    to : at + length bytes ≤ 0xa000
    few : length bytes < 256
    small : AreBytes bytes
    others : (a : ℕ) → a ≢ COLUMN → a ≢ POINTER → a ≢ POINTER + 1 → a ≢ LENGTH → m a ≡ m0 a
    column : column_after (m COLUMN) bytes % 256 ≡ column_after (m0 COLUMN) all % 256
    column_small : m0 COLUMN < 256 → m COLUMN < 256

  put_pointer : (m : ℕ → ℕ) (b : ℕ) → ((a : ℕ) → a ≢ COLUMN → a ≢ POINTER → a ≢ POINTER + 1 → a ≢ LENGTH → m a ≡ m0 a) → (a : ℕ) → a ≢ COLUMN
      → a ≢ POINTER → a ≢ POINTER + 1 → a ≢ LENGTH → with_byte m POINTER b a ≡ m0 a
  put_pointer m b h a p q r s = put_other m POINTER b a q ∙ h a p q r s

  put_high : (m : ℕ → ℕ) (b : ℕ) → ((a : ℕ) → a ≢ COLUMN → a ≢ POINTER → a ≢ POINTER + 1 → a ≢ LENGTH → m a ≡ m0 a) → (a : ℕ) → a ≢ COLUMN
      → a ≢ POINTER → a ≢ POINTER + 1 → a ≢ LENGTH → with_byte m (POINTER + 1) b a ≡ m0 a
  put_high m b h a p q r s = put_other m (POINTER + 1) b a r ∙ h a p q r s

  put_length : (m : ℕ → ℕ) (b : ℕ) → ((a : ℕ) → a ≢ COLUMN → a ≢ POINTER → a ≢ POINTER + 1 → a ≢ LENGTH → m a ≡ m0 a) → (a : ℕ) → a ≢ COLUMN
      → a ≢ POINTER → a ≢ POINTER + 1 → a ≢ LENGTH → with_byte m LENGTH b a ≡ m0 a
  put_length m b h a p q r s = put_other m LENGTH b a s ∙ h a p q r s

  last : (a x y : ℕ) (n v i z c : Bool) (m : ℕ → ℕ) → Told m0 all m → Comes f (view a x y n v i z c (TEXT_AT + 23) (lo ∷ hi ∷ []) m text answers)
      (Back lo hi text answers (Told m0 all)) [] 1
  last a x y n v i z c m h = ending f 4 fits text_part (text_in f.code block) 0 (view a x y n v i z c (TEXT_AT + 23) (lo ∷ hi ∷ []) m text answers) _ refl
      (leaves_now refl h)

  Loop : List ℕ → Type 0
  Loop bs = (a x y : ℕ) (n v i z c : Bool) (m : ℕ → ℕ) (b at : ℕ) → Still m at (b ∷ bs) → m LENGTH ≡ suc (length bs)
      → Comes f (view a x y n v i z c (TEXT_AT + 5) (lo ∷ hi ∷ []) m text answers) (Back lo hi text answers (Told m0 all)) (b ∷ bs) (15 * length bs + 16)

  -- DEC LENGTH, and on
  Count : List ℕ → Type 0
  Count bs = (a x y : ℕ) (n v i z c : Bool) (m : ℕ → ℕ) (at : ℕ) → Still m at bs → m LENGTH ≡ suc (length bs)
      → Comes f (view a x y n v i z c (TEXT_AT + 18) (lo ∷ hi ∷ []) m text answers) (Back lo hi text answers (Told m0 all)) bs (15 * length bs + 3)

  count_none : Count []
  unfolding Count
  count_none a x y n v i z c m at h e =
      let done : eqb ((m LENGTH + 255) % 256) 0 ≡ true = eq-eqb _ _ (omega (arith, e)) in
      after f 4 fits text_part (text_in f.code block) 1 (view a x y n v i z c (TEXT_AT + 18) (lo ∷ hi ∷ []) m text answers) _ _ 1 refl
      (rw done (last _ _ _ _ _ _ _ _ _ (record { column = h.column; column_small = h.column_small; others = put_length m _ h.others })))

  count_more : (b : ℕ) (bs : List ℕ) → Loop bs → Count (b ∷ bs)
  unfolding Count Loop
  count_more b bs go a x y n v i z c m at h e =
      let less : (m LENGTH + 255) % 256 ≡ suc (length bs) = omega (arith, e, h.few) in
      let more : eqb ((m LENGTH + 255) % 256) 0 ≡ false = ne_eqb _ _ (λ x. omega arith) in
      looser f _ _ _ (b ∷ bs) (2 + (15 * length bs + 16)) (15 * length (b ∷ bs) + 3) (omega arith) (λ w h. h)
      (after f 4 fits text_part (text_in f.code block) 1 (view a x y n v i z c (TEXT_AT + 18) (lo ∷ hi ∷ []) m text answers) _ _ (15 * length bs + 16) refl
      (rw more (go _ _ _ _ _ _ _ _ _ b at
      (record {
        word_is = h.word_is;
        low = h.low;
        high = h.high;
        shown = h.shown;
        from = h.from;
        to = h.to;
        few = h.few;
        small = h.small;
        others = put_length m _ h.others;
        column = h.column;
        column_small = h.column_small;
      })
      less)))

  -- the pointer goes up after the byte was sent
  next_byte : (bs : List ℕ) → Count bs → (a x y : ℕ) (n v i z c : Bool) (m w : ℕ → ℕ) (b at : ℕ) → Still m at (b ∷ bs) → Sent nowhere m (b ∷ []) w
      → m LENGTH ≡ suc (length bs) → Comes f (view a x y n v i z c (TEXT_AT + 12) (lo ∷ hi ∷ []) w text answers)
      (Back lo hi text answers (Told m0 all)) bs (3 + (15 * length bs + 3))
  unfolding Count
  next_byte bs go a x y n v i z c m w b at h k e =
      let low : w POINTER ≡ m POINTER = k.others POINTER refl (λ e. omega (arith, e)) in
      let high : w (POINTER + 1) ≡ m (POINTER + 1) = k.others (POINTER + 1) refl (λ e. omega (arith, e)) in
      let length_is : w LENGTH ≡ suc (length bs) = k.others LENGTH refl (λ e. omega (arith, e)) ∙ e in
      let here = h.word_is in
      let up = h.to in
      let l = h.low in
      let g = h.high in
      let others : (a : ℕ) → a ≢ COLUMN → a ≢ POINTER → a ≢ POINTER + 1 → a ≢ LENGTH → w a ≡ m0 a = λ a p q r s. k.others a refl p ∙ h.others a p q r s in
      let column : column_after (w COLUMN) bs % 256 ≡ column_after (m0 COLUMN) all % 256 = column_same (w COLUMN) (column_after (m COLUMN) (b ∷ [])) bs (omega (arith, k.column)) ∙ h.column in
      let shown : Bytes f.code (at + 1) bs = subst (λ p. Bytes f.code p bs) (let s : (at + 1) % 65536 ≡ at + 1 = omega arith in s) h.shown.1 in
      ⊎_elim
      (λ over. let t : eqb ((w POINTER + 1) % 256) 0 ≡ true = eq-eqb _ _ over in
      looser f _ _ _ bs (2 + (1 + (15 * length bs + 3))) (3 + (15 * length bs + 3)) (omega arith) (λ w h. h)
      (after f 4 fits text_part (text_in f.code block) 1 (view a x y n v i z c (TEXT_AT + 12) (lo ∷ hi ∷ []) w text answers) _ _ (1 + (15 * length bs + 3)) refl
      (rw t (after f 4 fits text_part (text_in f.code block) 0 (view _ _ _ _ _ _ _ _ (TEXT_AT + 16) (lo ∷ hi ∷ [])
      (with_byte w POINTER ((w POINTER + 1) % 256)) text answers) _ _ (15 * length bs + 3) refl
      (go _ _ _ _ _ _ _ _ _ (at + 1)
      (record {
        word_is = omega arith;
        low = omega arith;
        high = omega arith;
        shown = shown;
        from = omega (arith, h.from);
        to = omega (arith, h.to);
        few = omega (arith, h.few);
        small = h.small.1;
        others = put_high _ _ (put_pointer w _ others);
        column = column;
        column_small = λ p. omega (arith, k.column);
      })
      length_is)))))
      (λ under. let t : eqb ((w POINTER + 1) % 256) 0 ≡ false = ne_eqb _ _ under in
      looser f _ _ _ bs (2 + (15 * length bs + 3)) (3 + (15 * length bs + 3)) (omega arith) (λ w h. h)
      (after f 4 fits text_part (text_in f.code block) 1 (view a x y n v i z c (TEXT_AT + 12) (lo ∷ hi ∷ []) w text answers) _ _ (15 * length bs + 3) refl
      (rw t (go _ _ _ _ _ _ _ _ _ (at + 1)
      (record {
        word_is = omega arith;
        low = omega arith;
        high = omega arith;
        shown = shown;
        from = omega (arith, h.from);
        to = omega (arith, h.to);
        few = omega (arith, h.few);
        small = h.small.1;
        others = put_pointer w _ others;
        column = column;
        column_small = λ p. omega (arith, k.column);
      })
      length_is))))
      (cases_eq ((w POINTER + 1) % 256) 0)

  -- JSR SEND with the byte in A
  send_a : (bs : List ℕ) → Count bs → (x y : ℕ) (n v i z c : Bool) (m : ℕ → ℕ) (b at : ℕ) → Still m at (b ∷ bs) → m LENGTH ≡ suc (length bs)
      → Comes f (view b x y n v i z c (TEXT_AT + 9) (lo ∷ hi ∷ []) m text answers) (Back lo hi text answers (Told m0 all)) (b ∷ bs) (1 + (7 + (3 + (15 * length bs + 3))))
  send_a bs go x y n v i z c m b at h e =
      after f 4 fits text_part (text_in f.code block) 0 (view b x y n v i z c (TEXT_AT + 9) (lo ∷ hi ∷ []) m text answers) _ _ (7 + (3 + (15 * length bs + 3))) refl
      (calls f (lo ∷ hi ∷ []) _ _ _ _ _ _ _ _ _ _ _ m text answers (Sent nowhere m (b ∷ [])) _ (b ∷ []) bs 7 (3 + (15 * length bs + 3))
      (send_law (under f (lo ∷ hi ∷ [])) (omega (arith, fits)) block _ _ text answers m b _ _ _ _ _ _ _ h.small.0)
      (λ a x y n v i z c w k. next_byte bs go a x y n v i z c m w b at h k e))

  send : (bs : List ℕ) → Count bs → Loop bs
  unfolding Loop
  send bs go a x y n v i z c m b at h e =
      let apart : is_data at ≡ false = program_not_data at (in_program at h.from (omega (arith, h.to))) in
      let place : (m POINTER + 256 * m (POINTER + 1) + 0) % 65536 ≡ at = omega (arith, h.word_is, h.to) in
      let ready = view a x 0 false v i true c (TEXT_AT + 7) (lo ∷ hi ∷ []) m text answers in
      looser f _ _ _ (b ∷ bs) (1 + (1 + (1 + (7 + (3 + (15 * length bs + 3)))))) (15 * length bs + 16) (omega arith) (λ w h. h)
      (after f 4 fits text_part (text_in f.code block) 0 (view a x y n v i z c (TEXT_AT + 5) (lo ∷ hi ∷ []) m text answers) _ _ (1 + (1 + (7 + (3 + (15 * length bs + 3))))) refl
      (placing f 4 fits (ins 0xb1 POINTER) ready _ _ _ (1 + (7 + (3 + (15 * length bs + 3)))) refl (text_in f.code block _ _ refl, (text_in f.code block _ _ refl, tt))
      (takes_at f.code 4 (ins 0xb1 POINTER) ready Lda IndirectY at refl refl refl refl (ap (λ a. Ok a) place) b _ (reads_code f.code m at b apart h.shown.0) refl)
      (send_a bs go _ _ _ _ _ _ _ m b at h e)))

  counts : (bs : List ℕ) → Count bs
  counts [] = count_none
  counts (b ∷ bs) = count_more b bs (send bs (counts bs))

  whole : (a x y : ℕ) (n v i z c : Bool) (m : ℕ → ℕ) (bytes : List ℕ) (at : ℕ) → Still m at bytes → m LENGTH ≡ length bytes
      → Comes f (view a x y n v i z c TEXT_AT (lo ∷ hi ∷ []) m text answers) (Back lo hi text answers (Told m0 all)) bytes (15 * length bytes + 3)
  unfolding Loop
  whole a x y n v i z c m [] at h e =
      let none : eqb (m LENGTH) 0 ≡ true = eq-eqb _ _ e in
      looser f _ _ _ [] 3 3 (omega arith) (λ w h. h)
      (after f 4 fits text_part (text_in f.code block) 1 (view a x y n v i z c TEXT_AT (lo ∷ hi ∷ []) m text answers) _ _ 1 refl
      (rw none (last _ _ _ _ _ _ _ _ _ (record { column = h.column; column_small = h.column_small; others = h.others }))))
  whole a x y n v i z c m (b ∷ bs) at h e =
      let some : eqb (m LENGTH) 0 ≡ false = ne_eqb _ _ (λ x. omega (arith, e)) in
      looser f _ _ _ (b ∷ bs) (2 + (15 * length bs + 16)) (15 * length (b ∷ bs) + 3) (omega arith) (λ w h. h)
      (after f 4 fits text_part (text_in f.code block) 1 (view a x y n v i z c TEXT_AT (lo ∷ hi ∷ []) m text answers) _ _ (15 * length bs + 16) refl
      (rw some (send bs (counts bs) _ _ _ _ _ _ _ _ _ b at h e)))

-- Text's law, from the block's bytes
pub text_law : TextLaw
text_law f fits block lo hi text answers m a x y n v i z c at bytes p =
    let small = bytes_of m POINTER at p.pointer in
    whole f fits block lo hi text answers m bytes a x y n v i z c m bytes at (record {
      word_is = value m POINTER at p.pointer;
      low = small.0;
      high = small.1;
      shown = p.shown;
      from = p.from;
      to = p.to;
      few = p.few;
      small = p.bytes_small;
      others = λ a p q r s. refl;
      column = refl;
      column_small = λ p. p;
    }) p.count

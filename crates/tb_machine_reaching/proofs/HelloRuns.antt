-- The program that sends a line, and its routine, whatever the ROM does.
use Rattle.std.proofs.Common.{◌≡◌, ◌≢◌, ℕ, suc, ◌+◌, ◌*◌, ◌%◌, ◌<◌, ◌≤◌, Bool, true, false, List, [], ◌∷◌, ◌++◌}
use Rattle.std.proofs.Common.{length, refl, sym, ap, ◌∙◌, subst, ⊎_elim, inl, inr, arith, eqb}
use Rattle.std.specs.Prelude.{Ok}
use Rattle.std.proofs.lemmas.Bool.{ne_eqb, eq-eqb, cases_eq}
use Rattle.tb_memmap.specs.Bytes.{with_byte}
use Rattle.tb_memmap.specs.Regions.{CODE_START}
use Rattle.tb_opcodes.specs.declared.Mnemonic.TheVariants.{Lda}
use Rattle.tb_opcodes.specs.declared.Mode.TheVariants.{IndirectY}
use Rattle.tb_kernal.specs.declared.rom.Service.TheVariants.{Chrout}
use Rattle.tb_machine_reaching.specs.declared.example.TheConstants.{HELLO}
use Rattle.tb_kernal.specs.Machine.{State}
use Rattle.tb_kernal.specs.Runs.{run}
use Rattle.tb_kernal.specs.Starts.{IsStart}
use Rattle.tb_machine_reaching.specs.View.{Setup, At, Part, Holds, Fits, UnderWay, Among, Comes, view, is_data, Bytes}
use Rattle.tb_machine_reaching.specs.Start.{setup_of, view_of, home_low, home_high, IsHome}
use Rattle.tb_machine_reaching.proofs.Instr.{ins}
use Rattle.tb_machine_reaching.specs.Hello.{pointer, left, program_part, Sent, SendsText, Prints, hello_text}
use Rattle.tb_machine_reaching.proofs.Memory.{put_other, program_not_data}
use Rattle.tb_machine_reaching.proofs.Comes.{after, ending, looser, known}
use Rattle.tb_machine_reaching.proofs.Calls.{calling, under, stacked_on}
use Rattle.tb_machine_reaching.proofs.Parts.{holds_itself}
use Rattle.tb_machine_reaching.proofs.Start.{in_program, at_start, fits_start, homed_start}
use Rattle.tb_machine_reaching.proofs.Ends.{settles, home_returned, home_rests}
use Rattle.tb_machine_reaching.proofs.Services.{serving}
use Rattle.tb_machine_reaching.proofs.Placed.{placing, takes_at, reads_code}

abbrev hello_part : Part
hello_part = program_part HELLO

abbrev high : ℕ
high = 0xfc

-- ---- the routine
module _ (f : Setup) (fits : Fits f 4) (st : Holds hello_part f.code) (lo hi : ℕ) (text answers : List ℕ) (m0 : ℕ → ℕ) where
  -- all but the routine's own bytes are as they were
  Rest : (ℕ → ℕ) → Type 0
  Rest m = (a : ℕ) → a ≢ pointer → a ≢ high → a ≢ left → m a ≡ m0 a

  put_pointer : (m : ℕ → ℕ) (b : ℕ) → Rest m → Rest (with_byte m pointer b)
  unfolding Rest
  put_pointer m b h a p q r = put_other m pointer b a p ∙ h a p q r

  put_high : (m : ℕ → ℕ) (b : ℕ) → Rest m → Rest (with_byte m high b)
  unfolding Rest
  put_high m b h a p q r = put_other m high b a q ∙ h a p q r

  put_left : (m : ℕ → ℕ) (b : ℕ) → Rest m → Rest (with_byte m left b)
  unfolding Rest
  put_left m b h a p q r = put_other m left b a r ∙ h a p q r

  -- the bytes from an address on are still to be sent
  record Still (m : ℕ → ℕ) (at : ℕ) (bytes : List ℕ) : Type 0 where
    word_is : m pointer + 256 * m high ≡ at
    low : m pointer < 256
    high_byte : m high < 256
    shown : Bytes f.code at bytes
    from : 0x0800 ≤ at
    to : at + length bytes ≤ 0xa000
    few : length bytes < 256
    others : Rest m

  last : (a x y : ℕ) (n v i z c : Bool) (m : ℕ → ℕ) → Rest m → Comes f (view a x y n v i z c 0x0836 (lo ∷ hi ∷ []) m text answers) (Sent lo hi m0 text answers) [] 1
  unfolding Rest
  last a x y n v i z c m h = ending f 4 fits hello_part st 0 (view a x y n v i z c 0x0836 (lo ∷ hi ∷ []) m text answers) _ refl
      (record { pc = refl; stack = refl; binary = refl; same_text = refl; same_answers = refl; others = h })

  Loop : List ℕ → Type 0
  Loop bs = (a x y : ℕ) (n v i z c : Bool) (m : ℕ → ℕ) (b at : ℕ) → Still m at (b ∷ bs) → m left ≡ suc (length bs)
      → Comes f (view a x y n v i z c 0x0824 (lo ∷ hi ∷ []) m text answers) (Sent lo hi m0 text answers) (b ∷ bs) (9 * length bs + 10)

  -- DEC left, and on
  Count : List ℕ → Type 0
  Count bs = (a x y : ℕ) (n v i z c : Bool) (m : ℕ → ℕ) (at : ℕ) → Still m at bs → m left ≡ suc (length bs)
      → Comes f (view a x y n v i z c 0x0831 (lo ∷ hi ∷ []) m text answers) (Sent lo hi m0 text answers) bs (9 * length bs + 3)

  count_none : Count []
  unfolding Count
  count_none a x y n v i z c m at h e =
      let done : eqb ((m left + 255) % 256) 0 ≡ true = eq-eqb _ _ (omega (arith, e)) in
      after f 4 fits hello_part st 1 (view a x y n v i z c 0x0831 (lo ∷ hi ∷ []) m text answers) _ _ 1 refl
      (rw done (last _ _ _ _ _ _ _ _ _ (put_left m _ h.others)))

  count_more : (b : ℕ) (bs : List ℕ) → Loop bs → Count (b ∷ bs)
  unfolding Count Loop
  count_more b bs go a x y n v i z c m at h e =
      let less : (m left + 255) % 256 ≡ suc (length bs) = omega (arith, e, h.few) in
      let more : eqb ((m left + 255) % 256) 0 ≡ false = ne_eqb _ _ (λ x. omega arith) in
      looser f _ _ _ (b ∷ bs) (2 + (9 * length bs + 10)) (9 * length (b ∷ bs) + 3) (omega arith) (λ w h. h)
      (after f 4 fits hello_part st 1 (view a x y n v i z c 0x0831 (lo ∷ hi ∷ []) m text answers) _ _ (9 * length bs + 10) refl
      (rw more (go _ _ _ _ _ _ _ _ _ b at
      (record { word_is = h.word_is; low = h.low; high_byte = h.high_byte; shown = h.shown; from = h.from; to = h.to; few = h.few; others = put_left m _ h.others })
      less)))

  -- the pointer goes up
  next_byte : (bs : List ℕ) → Count bs → (a x y : ℕ) (n v i z c : Bool) (m : ℕ → ℕ) (b at : ℕ) → Still m at (b ∷ bs) → m left ≡ suc (length bs)
      → Comes f (view a x y n v i z c 0x082b (lo ∷ hi ∷ []) m text answers) (Sent lo hi m0 text answers) bs (3 + (9 * length bs + 3))
  unfolding Count
  next_byte bs go a x y n v i z c m b at h e =
      let here = h.word_is in
      let up = h.to in
      let l = h.low in
      let g = h.high_byte in
      let shown : Bytes f.code (at + 1) bs = subst (λ p. Bytes f.code p bs) (let s : (at + 1) % 65536 ≡ at + 1 = omega arith in s) h.shown.1 in
      ⊎_elim
      (λ over. let t : eqb ((m pointer + 1) % 256) 0 ≡ true = eq-eqb _ _ over in
      looser f _ _ _ bs (2 + (1 + (9 * length bs + 3))) (3 + (9 * length bs + 3)) (omega arith) (λ w h. h)
      (after f 4 fits hello_part st 1 (view a x y n v i z c 0x082b (lo ∷ hi ∷ []) m text answers) _ _ (1 + (9 * length bs + 3)) refl
      (rw t (after f 4 fits hello_part st 0 (view _ _ _ _ _ _ _ _ 0x082f (lo ∷ hi ∷ []) (with_byte m pointer ((m pointer + 1) % 256)) text answers) _ _ (9 * length bs + 3) refl
      (go _ _ _ _ _ _ _ _ _ (at + 1)
      (record {
        word_is = omega arith;
        low = omega arith;
        high_byte = omega arith;
        shown = shown;
        from = omega (arith, h.from);
        to = omega (arith, h.to);
        few = omega (arith, h.few);
        others = put_high _ _ (put_pointer m _ h.others);
      })
      e)))))
      (λ under. let t : eqb ((m pointer + 1) % 256) 0 ≡ false = ne_eqb _ _ under in
      looser f _ _ _ bs (2 + (9 * length bs + 3)) (3 + (9 * length bs + 3)) (omega arith) (λ w h. h)
      (after f 4 fits hello_part st 1 (view a x y n v i z c 0x082b (lo ∷ hi ∷ []) m text answers) _ _ (9 * length bs + 3) refl
      (rw t (go _ _ _ _ _ _ _ _ _ (at + 1)
      (record {
        word_is = omega arith;
        low = omega arith;
        high_byte = omega arith;
        shown = shown;
        from = omega (arith, h.from);
        to = omega (arith, h.to);
        few = omega (arith, h.few);
        others = put_pointer m _ h.others;
      })
      e))))
      (cases_eq ((m pointer + 1) % 256) 0)

  -- JSR CHROUT with the byte in A
  send_a : (bs : List ℕ) → Count bs → (a x y : ℕ) (n v i z c : Bool) (m : ℕ → ℕ) (b at : ℕ) → Still m at (b ∷ bs) → m left ≡ suc (length bs)
      → Comes f (view a x y n v i z c 0x0828 (lo ∷ hi ∷ []) m text answers) (Sent lo hi m0 text answers) (a ∷ bs) (1 + (1 + (3 + (9 * length bs + 3))))
  send_a bs go a x y n v i z c m b at h e =
      after f 4 fits hello_part st 0 (view a x y n v i z c 0x0828 (lo ∷ hi ∷ []) m text answers) _ _ (1 + (3 + (9 * length bs + 3))) refl
      (serving f 4 fits Chrout _ _ _ _ _ _ (3 + (9 * length bs + 3)) refl refl refl refl (λ k. next_byte bs go k.a k.x k.y k.n k.v k.i k.z k.c m b at h e))

  send : (bs : List ℕ) → Count bs → Loop bs
  unfolding Loop
  send bs go a x y n v i z c m b at h e =
      let apart : is_data at ≡ false = program_not_data at (in_program at h.from (omega (arith, h.to))) in
      let place : (m pointer + 256 * m high + 0) % 65536 ≡ at = omega (arith, h.word_is, h.to) in
      let ready = view a x 0 false v i true c 0x0826 (lo ∷ hi ∷ []) m text answers in
      looser f _ _ _ (b ∷ bs) (1 + (1 + (1 + (1 + (3 + (9 * length bs + 3)))))) (9 * length bs + 10) (omega arith) (λ w h. h)
      (after f 4 fits hello_part st 0 (view a x y n v i z c 0x0824 (lo ∷ hi ∷ []) m text answers) _ _ (1 + (1 + (1 + (3 + (9 * length bs + 3))))) refl
      (placing f 4 fits (ins 0xb1 pointer) ready _ _ _ (1 + (1 + (3 + (9 * length bs + 3)))) refl (st _ _ refl, (st _ _ refl, tt))
      (takes_at f.code 4 (ins 0xb1 pointer) ready Lda IndirectY at refl refl refl refl (ap (λ a. Ok a) place) b _ (reads_code f.code m at b apart h.shown.0) refl)
      (send_a bs go _ _ _ _ _ _ _ _ m b at h e)))

  counts : (bs : List ℕ) → Count bs
  counts [] = count_none
  counts (b ∷ bs) = count_more b bs (send bs (counts bs))

  whole : (a x y : ℕ) (n v i z c : Bool) (bytes : List ℕ) → Still m0 (m0 pointer + 256 * m0 high) bytes → m0 left ≡ length bytes
      → Comes f (view a x y n v i z c 0x081f (lo ∷ hi ∷ []) m0 text answers) (Sent lo hi m0 text answers) bytes (9 * length bytes + 3)
  unfolding Loop Rest
  whole a x y n v i z c [] h e =
      let none : eqb (m0 left) 0 ≡ true = eq-eqb _ _ e in
      looser f _ _ _ [] 3 3 (omega arith) (λ w h. h)
      (after f 4 fits hello_part st 1 (view a x y n v i z c 0x081f (lo ∷ hi ∷ []) m0 text answers) _ _ 1 refl
      (rw none (last _ _ _ _ _ _ _ _ _ (λ a p q r. refl))))
  whole a x y n v i z c (b ∷ bs) h e =
      let some : eqb (m0 left) 0 ≡ false = ne_eqb _ _ (λ x. omega (arith, e)) in
      looser f _ _ _ (b ∷ bs) (2 + (9 * length bs + 10)) (9 * length (b ∷ bs) + 3) (omega arith) (λ w h. h)
      (after f 4 fits hello_part st 1 (view a x y n v i z c 0x081f (lo ∷ hi ∷ []) m0 text answers) _ _ (9 * length bs + 10) refl
      (rw some (send bs (counts bs) _ _ _ _ _ _ _ _ _ b (m0 pointer + 256 * m0 high) h e)))

-- the routine sends the text that it is pointed to
pub sends_text : SendsText HELLO
unfolding Rest
sends_text f fits st lo hi text answers m a x y n v i z c sent p =
    whole f fits st lo hi text answers m a x y n v i z c sent (record {
      word_is = refl;
      low = p.low;
      high_byte = p.high;
      shown = p.shown;
      from = p.from;
      to = p.to;
      few = p.few;
      others = λ a p q r. refl;
    }) p.count

-- ---- the program
program_from : 0x0800 ≤ CODE_START
program_from = omega arith

program_to : CODE_START + length HELLO ≤ 0xa000
program_to = let size : length HELLO ≡ 48 = refl in omega (arith, size)

-- the text follows the code
shown : (code : Part) → Holds hello_part code → Bytes code 0x0837 hello_text
shown code st = (st _ _ refl, (st _ _ refl, (st _ _ refl, (st _ _ refl, (st _ _ refl, (st _ _ refl, tt))))))

module _ (s : State) (h : IsStart CODE_START HELLO s) where
  abbrev f : Setup
  f = setup_of hello_part hello_part s

  abbrev own : List ℕ
  own = home_low s ∷ home_high s ∷ []

  runs : Comes f (view_of s) (IsHome f) hello_text 66
  runs =
      let st = holds_itself hello_part in
      let fits = fits_start CODE_START HELLO program_from program_to hello_part st s h in
      let home = homed_start CODE_START HELLO program_from program_to hello_part st s h in
      after f 18 fits hello_part st 7 (view_of s) (IsHome f) hello_text 58 refl
      (calling f own (view _ _ _ _ _ _ _ _ 0x081f (0x1d ∷ 0x08 ∷ []) _ s.text s.answers) _ (IsHome f) hello_text [] 57 1
      (sends_text (under f own) (omega (arith, fits)) st 0x1d 0x08 s.text s.answers _ _ _ _ _ _ _ _ _ hello_text
      (record { low = omega arith; high = omega arith; shown = shown hello_part st; from = omega arith; to = omega arith; count = refl; few = omega arith }))
      (λ w d. known f (stacked_on own w) 0x081e own s.text s.answers (IsHome f) [] 1 d.pc (ap (λ l. l ++ own) d.stack) d.binary d.same_text d.same_answers
      (ending f 18 fits hello_part st 0 (view _ _ _ _ _ _ _ _ 0x081e own w.mem s.text s.answers) (IsHome f) refl
      (record { pc = sym home.home; stack = refl; binary = refl }))))

-- the whole program prints its text within 66 Go events
pub prints_hello : Prints HELLO hello_text 66
prints_hello s h es l =
    let st = holds_itself hello_part in
    let f' = setup_of hello_part hello_part s in
    let above = (homed_start CODE_START HELLO program_from program_to hello_part st s h).above in
    ⊎_elim
    (λ d. inl (home_returned f' above (run es s) d.0, d.1 ∙ ap (λ l. l ++ hello_text) h.nothing_sent))
    (λ d. inr (d.kept.runs, (d.to_come, ap (λ l. l ++ d.to_come) (d.sent ∙ ap (λ l. l ++ d.so_far) h.nothing_sent) ∙ sym d.whole), d.few))
    (settles (UnderWay f') (At f' (view_of s)) (Among f' (IsHome f')) hello_text 66 (runs s h).reaches (home_rests f' above) s
    (at_start CODE_START HELLO program_from program_to hello_part st s h) es l)

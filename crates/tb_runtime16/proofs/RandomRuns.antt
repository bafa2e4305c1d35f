-- Random.
use Rattle.std.proofs.Common.{◌≡◌, ℕ, ◌+◌, ◌*◌, ◌/◌, ◌%◌, ◌<◌, ◌≤◌, Bool, true, false, if◌then◌else◌, List, []}
use Rattle.std.proofs.Common.{◌∷◌, refl, ap, ap₂, ◌∙◌, ⊎_elim, inl, inr, arith, eqb}
use Rattle.std.specs.Prelude.{◌==◌, nat_lt, bit_or}
use Rattle.std.proofs.lemmas.Bool.{ne_eqb, eq-eqb, cases_eq}
use Rattle.std.proofs.Math.Nat.{mod-add-mod}
use Rattle.std.proofs.lemmas.Nat.{le_or_l, le_or_r}
use Rattle.tb_cpu.specs.Operands.{word_in}
use Rattle.tb_cpu.specs.Effects.{bit}
use Rattle.tb_memmap.specs.Bytes.{with_byte}
use Rattle.tb_machine_reaching.specs.View.{Setup, View, Holds, Fits, Comes, view}
use Rattle.tb_machine_reaching.proofs.Comes.{after, ending, looser}
use Rattle.tb_words.specs.Words.{seed_after}
use Rattle.tb_runtime16.specs.Addresses.{RANDOM_AT}
use Rattle.tb_compiled_kept.specs.Addresses.{LEFT, RIGHT, SEED, SEEDED, SCRATCH}
use Rattle.tb_runtime16.specs.Block.{block_part}
use Rattle.tb_runtime16.specs.Laws.{is_argument, is_seed, unsigned_at, Back, Faults, Drawn, seed_of, RandomLaw, RandomRangeLaw}
use Rattle.tb_runtime16.proofs.InMemory.{IsWord, bytes_of, holds_word, of_word, same_place, value}
use Rattle.tb_runtime16.proofs.Within.{random_part, random_in}
use Rattle.tb_runtime16.proofs.Words.{small_byte, added, doubled, one_high}
use Rattle.tb_runtime16.proofs.Frames.{skip, leaves_now}
use Rattle.tb_runtime16.proofs.Called.{back_looser}
use Rattle.tb_runtime16.proofs.UnsignedRuns.{unsigned_law}

-- ---- the recurrence
-- 98 times a byte, by shifts and sums of bytes
abbrev scaled : ℕ → ℕ
scaled l = 2 * ((2 * (2 * (2 * (2 * ((2 * l % 256 + l + 0) % 256) % 256) % 256) % 256) % 256 + l + 0) % 256) % 256

scaled_is : (l : ℕ) → scaled l ≡ 98 * l % 256
scaled_is l =
    let three : (2 * l % 256 + l + 0) % 256 ≡ 3 * l % 256 = omega arith in
    let many : 2 * (2 * (2 * (2 * (3 * l % 256) % 256) % 256) % 256) % 256 ≡ 48 * l % 256 = omega arith in
    let same : (48 * l % 256 + l + 0) % 256 ≡ 49 * l % 256 = omega arith in
    ap (λ t. 2 * ((2 * (2 * (2 * (2 * t % 256) % 256) % 256) % 256 + l + 0) % 256) % 256) three
    ∙ ap (λ t. 2 * ((t + l + 0) % 256) % 256) many ∙ ap (λ t. 2 * t % 256) same ∙ (let twice : 2 * (49 * l % 256) % 256 ≡ 98 * l % 256 = omega arith in twice)

-- a turn: 4 times a word, and the state
abbrev turned : ℕ → ℕ → ℕ
turned seed p = (4 * p + seed) % 65536

-- four turns from 98 times the state's low byte, whatever is above that, are 25,173 times the state
four_turns : (l h top : ℕ) → turned (l + 256 * h) (turned (l + 256 * h) (turned (l + 256 * h) (turned (l + 256 * h) (scaled l + 256 * top))))
    ≡ 25173 * (l + 256 * h) % 65536
four_turns l h top =
    let s = l + 256 * h in let p = scaled l + 256 * top in
    let two : turned s (turned s p) ≡ (16 * p + 5 * s) % 65536 = omega arith in
    let three : turned s ((16 * p + 5 * s) % 65536) ≡ (64 * p + 21 * s) % 65536 = omega arith in
    let four : turned s ((64 * p + 21 * s) % 65536) ≡ (256 * p + 85 * s) % 65536 = omega arith in
    let last : (256 * (98 * l % 256 + 256 * top) + 85 * s) % 65536 ≡ 25173 * s % 65536 = omega arith in
    ap (λ q. turned s (turned s q)) two ∙ ap (turned s) three ∙ four ∙ ap (λ a. (256 * (a + 256 * top) + 85 * s) % 65536) (scaled_is l) ∙ last

-- ROL of the high byte after ASL of the low one
abbrev high_twice : ℕ → ℕ → ℕ
high_twice l h = 2 * h % 256 + bit (eqb (l / 128 % 2) 1)

high_twice_small : (l h : ℕ) → l < 256 → high_twice l h < 256
high_twice_small l h p = omega (arith, one_high l p)

-- the bytes that a turn leaves
abbrev turn_low : ℕ → ℕ → ℕ
turn_low a l = (2 * (2 * a % 256) % 256 + l + 0) % 256

abbrev turn_high : ℕ → ℕ → ℕ → ℕ → ℕ
turn_high a t l h = (high_twice (2 * a % 256) (high_twice a t) + h + bit (nat_lt 255 (2 * (2 * a % 256) % 256 + l + 0))) % 256

turn_is : (a t l h : ℕ) → a < 256 → t < 256 → l < 256 → h < 256 → turn_low a l + 256 * turn_high a t l h ≡ turned (l + 256 * h) (a + 256 * t)
turn_is a t l h p q r s =
    let once : 2 * a % 256 < 256 = small_byte (2 * a) in
    let twice : 2 * (2 * a % 256) % 256 < 256 = small_byte (2 * (2 * a % 256)) in
    let above = high_twice_small a t p in
    let e1 = doubled a t p q in
    let e2 = doubled (2 * a % 256) (high_twice a t) once above in
    added (2 * (2 * a % 256) % 256) (high_twice (2 * a % 256) (high_twice a t)) l h twice (high_twice_small (2 * a % 256) (high_twice a t) once) r s
    ∙ ap (λ w. (w + (l + 256 * h)) % 65536) (e2 ∙ ap (λ w. 2 * w % 65536) e1) ∙ (let e : (2 * (2 * (a + 256 * t) % 65536) % 65536 + (l + 256 * h)) % 65536 ≡ turned (l + 256 * h) (a + 256 * t) = omega arith in e)

module _ (f : Setup) (fits : Fits f 6) (block : Holds block_part f.code) (lo hi : ℕ) (text answers : List ℕ) (m0 : ℕ → ℕ) (p : IsWord m0 RIGHT)
    (least : 1 ≤ word_in m0 RIGHT) (most : word_in m0 RIGHT < 32768) where
  Rest : (ℕ → ℕ) → Type 0
  Rest m = (a : ℕ) → is_argument a ≡ false → (a == SCRATCH) ≡ false → is_seed a ≡ false → m a ≡ m0 a

  abbrev Goal : ℕ → View → ℕ → Type 0
  Goal seed v n = Comes f v (Back lo hi text answers (Drawn m0 (word_in m0 RIGHT) seed)) [] n

  -- the division, with the new state in LEFT and SEED
  draw : (a x y : ℕ) (n v i z c : Bool) (m : ℕ → ℕ) (seed : ℕ) → IsWord m LEFT → word_in m LEFT ≡ seed_after seed → m RIGHT ≡ m0 RIGHT → m (RIGHT + 1)
      ≡ m0 (RIGHT + 1) → IsWord m SEED → word_in m SEED ≡ seed_after seed → m SEEDED ≡ 1 → Rest m → Goal seed (view a x y n v i z c unsigned_at (lo ∷ hi ∷ []) m text answers) 156
  unfolding Rest
  draw a x y n v i z c m seed l le low high s se set r =
      let same : word_in m RIGHT ≡ word_in m0 RIGHT = omega (arith, low, high) in
      back_looser f _ lo hi text answers _ _ [] 156 156 (omega arith)
      (unsigned_law f (omega (arith, fits)) block lo hi text answers m a x y n v i z c (seed_after seed) (word_in m0 RIGHT)
      (holds_word m LEFT (seed_after seed) l le) (holds_word m RIGHT (word_in m0 RIGHT) (omega (arith, low, p), omega (arith, high, p)) same) least (omega (arith, most)))
      (λ w g. record {
        result = g.parts.rest;
        seed_at = same_place m w SEED (seed_after seed) (holds_word m SEED (seed_after seed) s se) (g.parts.others SEED refl) (g.parts.others (SEED + 1) refl);
        seeded = g.parts.others SEEDED refl ∙ set;
        others = λ a b d e. g.parts.others a b ∙ r a b d e;
      })

  -- in a turn: the state's bytes in LEFT and SEED + 1, the product's high byte in LEFT + 1
  record Going (l h : ℕ) (m : ℕ → ℕ) : Type 0 where
    low : m LEFT ≡ l
    high : m (SEED + 1) ≡ h
    top : m (LEFT + 1) < 256
    right_low : m RIGHT ≡ m0 RIGHT
    right_high : m (RIGHT + 1) ≡ m0 (RIGHT + 1)
    rest : Rest m

  -- ---- the new state
  abbrev new_low : ℕ → ℕ
  new_low a = (a + 25 + 0) % 256

  abbrev new_high : ℕ → ℕ → ℕ
  new_high a t = (t + 54 + bit (nat_lt 255 (a + 25 + 0))) % 256

  abbrev stored : ℕ → (ℕ → ℕ) → ℕ → ℕ
  stored a m = with_byte (with_byte (with_byte (with_byte m SEED (new_low a)) LEFT (new_low a)) (SEED + 1) (new_high a (m (LEFT + 1)))) (LEFT + 1) (new_high a (m (LEFT + 1)))

  stored_skip : (b : ℕ) (m : ℕ → ℕ) (a : ℕ) → is_argument a ≡ false → is_seed a ≡ false → stored b m a ≡ m a
  stored_skip b m a r e =
      skip is_argument (with_byte (with_byte (with_byte m SEED (new_low b)) LEFT (new_low b)) (SEED + 1) (new_high b (m (LEFT + 1)))) (LEFT + 1) (new_high b (m (LEFT + 1))) a refl r
      ∙ skip is_seed (with_byte (with_byte m SEED (new_low b)) LEFT (new_low b)) (SEED + 1) (new_high b (m (LEFT + 1))) a refl e
      ∙ skip is_argument (with_byte m SEED (new_low b)) LEFT (new_low b) a refl r
      ∙ skip is_seed m SEED (new_low b) a refl e

  -- 13,849 added, and stored
  store : (a y : ℕ) (n v i z c : Bool) (m : ℕ → ℕ) (l h : ℕ) → a < 256 → Going l h m → a + 256 * m (LEFT + 1) ≡ 25173 * (l + 256 * h) % 65536
      → Goal (l + 256 * h) (view a 0 y n v i z c (RANDOM_AT + 68) (lo ∷ hi ∷ []) m text answers) (11 + 156)
  unfolding Rest
  store a y n v i z c m l h small g e =
      let t = m (LEFT + 1) in
      let s = added a t 25 54 small g.top (omega arith) (omega arith) in
      let total : new_low a + 256 * new_high a t ≡ seed_after (l + 256 * h) = s ∙ ap (λ x. (x + 13849) % 65536) e ∙ mod-add-mod (25173 * (l + 256 * h)) 65536 13849 in
      after f 6 fits random_part (random_in f.code block) 10 (view a 0 y n v i z c (RANDOM_AT + 68) (lo ∷ hi ∷ []) m text answers) _ _ 156 refl
      (draw _ _ _ _ _ _ _ _ (stored a (with_byte m SEEDED 1)) (l + 256 * h)
      (small_byte (a + 25 + 0), small_byte (t + 54 + bit (nat_lt 255 (a + 25 + 0)))) total g.right_low g.right_high
      (small_byte (a + 25 + 0), small_byte (t + 54 + bit (nat_lt 255 (a + 25 + 0)))) total refl
      (λ b r d o. stored_skip a (with_byte m SEEDED 1) b r o ∙ skip is_seed m SEEDED 1 b refl o ∙ g.rest b r d o))

  -- ---- the turns
  -- memory after a turn
  abbrev after_turn : ℕ → (ℕ → ℕ) → ℕ → ℕ
  after_turn a m = with_byte (with_byte (with_byte m (LEFT + 1) (high_twice a (m (LEFT + 1)))) (LEFT + 1) (high_twice (2 * a % 256) (high_twice a (m (LEFT + 1)))))
      (LEFT + 1) (turn_high a (m (LEFT + 1)) (m LEFT) (m (SEED + 1)))

  turn_skip : (a : ℕ) (m : ℕ → ℕ) → Rest m → Rest (after_turn a m)
  unfolding Rest
  turn_skip a m k b r d o =
      let t = m (LEFT + 1) in let m1 = with_byte m (LEFT + 1) (high_twice a t) in let m2 = with_byte m1 (LEFT + 1) (high_twice (2 * a % 256) (high_twice a t)) in
      skip is_argument m2 (LEFT + 1) (turn_high a t (m LEFT) (m (SEED + 1))) b refl r
      ∙ skip is_argument m1 (LEFT + 1) (high_twice (2 * a % 256) (high_twice a t)) b refl r ∙ skip is_argument m (LEFT + 1) (high_twice a t) b refl r ∙ k b r d o

  -- the branch after a turn, by whether it was the last one
  on_or_out : (last : Bool) (q : View → Type 0) (k a x y : ℕ) (n v i c : Bool) (m : ℕ → ℕ)
      → Comes f (view a x y n v i last c (RANDOM_AT + (if last then 68 else 47)) (lo ∷ hi ∷ []) m text answers) q [] k
      → Comes f (view a x y n v i last c (RANDOM_AT + 66) (lo ∷ hi ∷ []) m text answers) q [] (1 + k)
  on_or_out true q k a x y n v i c m next =
      after f 6 fits random_part (random_in f.code block) 0 (view a x y n v i true c (RANDOM_AT + 66) (lo ∷ hi ∷ []) m text answers) _ _ k refl next
  on_or_out false q k a x y n v i c m next =
      after f 6 fits random_part (random_in f.code block) 0 (view a x y n v i false c (RANDOM_AT + 66) (lo ∷ hi ∷ []) m text answers) _ _ k refl next

  -- one turn, and on at the next one or after the last one
  turn : (x : ℕ) (last : Bool) → eqb ((x + 255) % 256) 0 ≡ last → (q : View → Type 0) (k : ℕ) (a y : ℕ) (n v i z c : Bool) (m : ℕ → ℕ) (l h word : ℕ) → a < 256
      → Going l h m → l < 256 → h < 256 → a + 256 * m (LEFT + 1) ≡ word
      → ((a y : ℕ) (n v i z c : Bool) (m : ℕ → ℕ) → a < 256 → Going l h m → a + 256 * m (LEFT + 1) ≡ turned (l + 256 * h) word
      → Comes f (view a ((x + 255) % 256) y n v i z c (RANDOM_AT + (if last then 68 else 47)) (lo ∷ hi ∷ []) m text answers) q [] k)
      → Comes f (view a x y n v i z c (RANDOM_AT + 47) (lo ∷ hi ∷ []) m text answers) q [] (12 + (1 + k))
  turn x last ends q k a y n v i z c m l h word small g low high e next =
      let l_is = g.low in let h_is = g.high in
      let total : turn_low a (m LEFT) + 256 * turn_high a (m (LEFT + 1)) (m LEFT) (m (SEED + 1)) ≡ turned (l + 256 * h) word =
      turn_is a (m (LEFT + 1)) (m LEFT) (m (SEED + 1)) small g.top (omega (arith, l_is, low)) (omega (arith, h_is, high))
      ∙ ap (λ w. turned (w + 256 * m (SEED + 1)) (a + 256 * m (LEFT + 1))) l_is ∙ ap (λ w. turned (l + 256 * w) (a + 256 * m (LEFT + 1))) h_is ∙ ap (turned (l + 256 * h)) e in
      after f 6 fits random_part (random_in f.code block) 11 (view a x y n v i z c (RANDOM_AT + 47) (lo ∷ hi ∷ []) m text answers) _ _ (1 + k) refl
      (rw ends (on_or_out last q k _ _ _ _ _ _ _ (after_turn a m) (next _ _ _ _ _ _ _ (after_turn a m) (small_byte (2 * (2 * a % 256) % 256 + m LEFT + 0))
      (record { low = l_is; high = h_is; top = small_byte _; right_low = g.right_low; right_high = g.right_high; rest = turn_skip a m g.rest }) total)))

  -- the four turns, from 98 times the state's low byte
  turns : (a y : ℕ) (n v i z c : Bool) (m : ℕ → ℕ) (l h : ℕ) → a ≡ scaled l → Going l h m → l < 256 → h < 256
      → Goal (l + 256 * h) (view a 4 y n v i z c (RANDOM_AT + 47) (lo ∷ hi ∷ []) m text answers) (13 + (13 + (13 + (13 + (11 + 156)))))
  turns a y n v i z c m l h e g low high =
      let small : a < 256 = omega (arith, e) in
      let top = m (LEFT + 1) in
      turn 4 false refl _ 206 a y n v i z c m l h (a + 256 * top) small g low high refl (λ a1 y n v i z c m1 s1 g1 e1.
      turn 3 false refl _ 193 a1 y n v i z c m1 l h _ s1 g1 low high e1 (λ a2 y n v i z c m2 s2 g2 e2.
      turn 2 false refl _ 180 a2 y n v i z c m2 l h _ s2 g2 low high e2 (λ a3 y n v i z c m3 s3 g3 e3.
      turn 1 true refl _ 167 a3 y n v i z c m3 l h _ s3 g3 low high e3 (λ a4 y n v i z c m4 s4 g4 e4.
      store a4 y n v i z c m4 l h s4 g4
      (e4 ∙ ap (λ b. turned (l + 256 * h) (turned (l + 256 * h) (turned (l + 256 * h) (turned (l + 256 * h) (b + 256 * top))))) e ∙ four_turns l h top)))))

  -- the state is in SEED
  advance : (a x y : ℕ) (n v i z c : Bool) (m : ℕ → ℕ) → IsWord m SEED → m (LEFT + 1) < 256 → m RIGHT ≡ m0 RIGHT → m (RIGHT + 1) ≡ m0 (RIGHT + 1) → Rest m
      → Goal (word_in m SEED) (view a x y n v i z c (RANDOM_AT + 28) (lo ∷ hi ∷ []) m text answers) (13 + (13 + (13 + (13 + (13 + (11 + 156))))))
  unfolding Rest
  advance a x y n v i z c m s top low high r =
      after f 6 fits random_part (random_in f.code block) 12 (view a x y n v i z c (RANDOM_AT + 28) (lo ∷ hi ∷ []) m text answers) _ _ (13 + (13 + (13 + (13 + (11 + 156))))) refl
      (turns _ _ _ _ _ _ _ (with_byte m LEFT (m SEED)) (m SEED) (m (SEED + 1)) refl
      (record { low = refl; high = refl; top = top; right_low = low; right_high = high; rest = λ b q d o. skip is_argument m LEFT (m SEED) b refl q ∙ r b q d o }) s.0 s.1)

  -- ---- which state
  seeding : (a x y : ℕ) (n v i z c : Bool) → IsWord m0 LEFT → IsWord m0 SEED → Goal (seed_of m0 (word_in m0 LEFT) (word_in m0 SEED))
      (view a x y n v i z c (RANDOM_AT + 13) (lo ∷ hi ∷ []) m0 text answers) (6 + (13 + (13 + (13 + (13 + (13 + (11 + 156)))))))
  unfolding Rest
  seeding a x y n v i z c q s =
      ⊎_elim
      (λ none. let b : eqb (m0 SEEDED) 0 ≡ true = eq-eqb _ _ none in
      after f 6 fits random_part (random_in f.code block) 1 (view a x y n v i z c (RANDOM_AT + 13) (lo ∷ hi ∷ []) m0 text answers) _ _ (4 + (13 + (13 + (13 + (13 + (13 + (11 + 156))))))) refl
      (rw b (after f 6 fits random_part (random_in f.code block) 3 (view _ _ _ _ _ _ _ _ (RANDOM_AT + 18) (lo ∷ hi ∷ []) m0 text answers) _ _ (13 + (13 + (13 + (13 + (13 + (11 + 156)))))) refl
      (advance _ _ _ _ _ _ _ _ (with_byte (with_byte m0 (SEED + 1) (m0 (LEFT + 1))) SEED (m0 LEFT)) (q.0, q.1) q.1 refl refl
      (λ b r d o. skip is_seed (with_byte m0 (SEED + 1) (m0 (LEFT + 1))) SEED (m0 LEFT) b refl o ∙ skip is_seed m0 (SEED + 1) (m0 (LEFT + 1)) b refl o)))))
      (λ some. let b : eqb (m0 SEEDED) 0 ≡ false = ne_eqb _ _ some in
      looser f _ _ _ [] (2 + (13 + (13 + (13 + (13 + (13 + (11 + 156))))))) (6 + (13 + (13 + (13 + (13 + (13 + (11 + 156))))))) (omega arith) (λ w h. h)
      (after f 6 fits random_part (random_in f.code block) 1 (view a x y n v i z c (RANDOM_AT + 13) (lo ∷ hi ∷ []) m0 text answers) _ _ (13 + (13 + (13 + (13 + (13 + (11 + 156)))))) refl
      (rw b (advance _ _ _ _ _ _ _ _ m0 s q.1 refl refl (λ b r d o. refl)))))
      (cases_eq (m0 SEEDED) 0)

  -- A and the bound's high byte, or its low byte, is not 0
  whole : (a x y : ℕ) (n v i z c : Bool) → IsWord m0 LEFT → IsWord m0 SEED → Goal (seed_of m0 (word_in m0 LEFT) (word_in m0 SEED))
      (view a x y n v i z c RANDOM_AT (lo ∷ hi ∷ []) m0 text answers) 242
  whole a x y n v i z c q s =
      let sign : eqb (m0 (RIGHT + 1) / 128 % 2) 1 ≡ false = ne_eqb _ _ (λ e. omega (arith, most, e)) in
      let b : eqb (bit_or (m0 (RIGHT + 1)) (m0 RIGHT)) 0 ≡ false = ne_eqb _ _ (λ e. omega (arith, least, e, le_or_l (m0 (RIGHT + 1)) (m0 RIGHT), le_or_r (m0 (RIGHT + 1)) (m0 RIGHT))) in
      after f 6 fits random_part (random_in f.code block) 1 (view a x y n v i z c RANDOM_AT (lo ∷ hi ∷ []) m0 text answers) _ _ (2 + (6 + (13 + (13 + (13 + (13 + (13 + (11 + 156)))))))) refl
      (rw sign (after f 6 fits random_part (random_in f.code block) 1 (view (m0 (RIGHT + 1)) x y _ v i (eqb (m0 (RIGHT + 1)) 0) c (RANDOM_AT + 4)
      (lo ∷ hi ∷ []) m0 text answers) _ _ (6 + (13 + (13 + (13 + (13 + (13 + (11 + 156))))))) refl
      (rw b (seeding _ _ _ _ _ _ _ _ q s))))

-- Random's law, from the block's bytes
pub random_law : RandomLaw
random_law f fits block lo hi text answers m a x y n v i z c bound option stored p q s least most =
    let start = view a x y n v i z c RANDOM_AT (lo ∷ hi ∷ []) m text answers in
    let same = value m RIGHT bound p in
    of_word (λ b. Comes f start (Back lo hi text answers (Drawn m b (seed_of m option stored))) [] 242) m RIGHT bound p
    (of_word (λ o. Comes f start (Back lo hi text answers (Drawn m (word_in m RIGHT) (seed_of m o stored))) [] 242) m LEFT option q
    (of_word (λ t. Comes f start (Back lo hi text answers (Drawn m (word_in m RIGHT) (seed_of m (word_in m LEFT) t))) [] 242) m SEED stored s
    (whole f fits block lo hi text answers m (bytes_of m RIGHT bound p) (omega (arith, same, least)) (omega (arith, same, most)) a x y n v i z c
    (bytes_of m LEFT option q) (bytes_of m SEED stored s))))

-- ---- the fault
module _ (f : Setup) (fits : Fits f 2) (block : Holds block_part f.code) (lo hi : ℕ) (text answers : List ℕ) (m : ℕ → ℕ) where
  bad : (a x y : ℕ) (n v i z c : Bool) → Comes f (view a x y n v i z c (RANDOM_AT + 8) (lo ∷ hi ∷ []) m text answers) (Faults lo hi text answers 3 (λ w. w ≡ m)) [] 2
  bad a x y n v i z c = ending f 2 fits random_part (random_in f.code block) 1 (view a x y n v i z c (RANDOM_AT + 8) (lo ∷ hi ∷ []) m text answers) _ refl
      (record { leaves = leaves_now refl refl; number = refl })

-- the law of Random with a bad bound, from the block's bytes
pub random_range_law : RandomRangeLaw
random_range_law f fits block lo hi text answers m a x y n v i z c bound p (inl none) =
    let low : m RIGHT ≡ 0 = omega (arith, none, p.low) in
    let high : m (RIGHT + 1) ≡ 0 = omega (arith, none, p.high) in
    let sign : eqb (m (RIGHT + 1) / 128 % 2) 1 ≡ false = ne_eqb _ _ (λ e. omega (arith, high, e)) in
    let b : eqb (bit_or (m (RIGHT + 1)) (m RIGHT)) 0 ≡ true = eq-eqb _ _ (ap₂ bit_or high low) in
    after f 2 fits random_part (random_in f.code block) 1 (view a x y n v i z c RANDOM_AT (lo ∷ hi ∷ []) m text answers) _ _ 4 refl
    (rw sign (after f 2 fits random_part (random_in f.code block) 1 (view (m (RIGHT + 1)) x y _ v i (eqb (m (RIGHT + 1)) 0) c (RANDOM_AT + 4) (lo ∷ hi ∷ []) m text answers) _ _ 2 refl
    (rw b (bad f fits block lo hi text answers m _ _ _ _ _ _ _ _))))
random_range_law f fits block lo hi text answers m a x y n v i z c bound p (inr big) =
    let sign : eqb (m (RIGHT + 1) / 128 % 2) 1 ≡ true = eq-eqb _ _ (omega (arith, big, p.high, p.small)) in
    looser f _ _ _ [] (2 + 2) 6 (omega arith) (λ w h. h)
    (after f 2 fits random_part (random_in f.code block) 1 (view a x y n v i z c RANDOM_AT (lo ∷ hi ∷ []) m text answers) _ _ 2 refl
    (rw sign (bad f fits block lo hi text answers m _ _ _ _ _ _ _ _)))

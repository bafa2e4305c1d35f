-- The map of free blocks is right.
use Rattle.std.proofs.Common.{◌≡◌, ◌≢◌, ℕ, zero, suc, ◌==◌, ◌+◌, ◌-◌, ◌*◌, ◌/◌, ◌%◌, ◌^◌, ◌<◌, ◌≤◌, Bool}
use Rattle.std.proofs.Common.{true, false, ◌&&◌, List, [], ◌∷◌, ◌++◌, length, map, get_or, refl, sym, ap, ◌∙◌, inl, inr, arith}
use Rattle.std.proofs.Common.{length-append}
use Rattle.std.specs.Prelude.{flat_map, slice_index, sum_by, count_by, nat_le, nat_lt, if◌then◌else◌}
use Rattle.std.specs.List.{range_with_len}
use Rattle.std.proofs.lemmas.Bool.{eq-eqb, ne_eqb, cases_lt, cases_eq, lt-ltb, le-ltb, le-leb, lt-leb}
use Rattle.std.proofs.lemmas.List.{map-id, get_or_append_left, get_or-append_right}
use Rattle.std.proofs.lemmas.List.Sums.{sum_by-cons, sum_by-append}
use Rattle.tb_machine_disk.specs.D64.{sectors_on, is_on_disk, block_index, map_bit, free_on}
use Rattle.tb_machine_disk.specs.Layout.{file_block, is_free, free_bit, bits_from, ones_from, track_map, free_map, title, head_block}

-- how often a number occurs in a list
abbrev pub times : ℕ → List ℕ → ℕ
times p xs = count_by (λ q. q == p) xs

times_cons : (p x : ℕ) (xs : List ℕ) → times p (x ∷ xs) ≡ (if x == p then 1 else 0) + times p xs
times_cons p x xs = sum_by-cons (λ q. if q == p then 1 else 0) x xs

times_not : (p x : ℕ) (xs : List ℕ) → x ≢ p → times p (x ∷ xs) ≡ times p xs
times_not p x xs ne = let c = times_cons p x xs ∙ ap (λ b. (if b then 1 else 0) + times p xs) (ne_eqb x p ne) in omega (arith, c)

times_yes : (p x : ℕ) (xs : List ℕ) → x ≡ p → times p (x ∷ xs) ≡ 1 + times p xs
times_yes p x xs e = times_cons p x xs ∙ ap (λ b. (if b then 1 else 0) + times p xs) (eq-eqb x p e)

-- a value that a function never takes on a range does not occur there, and one that it takes once occurs once
never : (f : ℕ → ℕ) (p a m : ℕ) → ((j : ℕ) → a ≤ j → j < a + m → f j ≢ p) → times p (map f (range_with_len a m)) ≡ 0
never f p a zero h = refl
never f p a (suc m) h =
    times_not p (f a) (map f (range_with_len (a + 1) m)) (h a (omega arith) (omega arith))
    ∙ never f p (a + 1) m (λ j l u. h j (omega arith) (omega arith))

once : (f : ℕ → ℕ) (p a m j : ℕ) → a ≤ j → j < a + m → f j ≡ p → ((i : ℕ) → i ≢ j → f i ≢ p) → times p (map f (range_with_len a m)) ≡ 1
once f p a zero j l u e others = absurd (omega arith)
once f p a (suc m) j l u e others = elim (cases_eq a j) [
  | inl same ↦
      times_yes p (f a) (map f (range_with_len (a + 1) m)) (ap f same ∙ e)
      ∙ ap (λ n. 1 + n) (never f p (a + 1) m (λ i low high. others i (λ s. absurd (omega (arith, s, same)))))
  | inr differ ↦
      let above : a + 1 ≤ j = omega (arith, differ) in
      times_not p (f a) (map f (range_with_len (a + 1) m)) (others a differ)
      ∙ once f p (a + 1) m j above (omega arith) e others
]

low_place : (j : ℕ) → j < 357 → file_block j ≡ j
low_place j h = ap (λ b. if b then j else j + 19) (lt-ltb j 357 h)

high_place : (j : ℕ) → 357 ≤ j → file_block j ≡ j + 19
high_place j h = ap (λ b. if b then j else j + 19) (le-ltb j 357 h)

-- the indices of blocks for files, taken once each
files_below : (used p : ℕ) → p < 357 → times p (map file_block (range_with_len 0 used)) ≡ (if nat_le used p then 0 else 1)
files_below used p h = elim (cases_lt p used) [
  | inl l ↦
      once file_block p 0 used p (omega arith) (omega arith) (low_place p h) (λ i ne e. elim (cases_lt i 357) [
        | inl low ↦ let x = low_place i low in absurd (ne (omega (arith, x, e)))
        | inr high ↦ let x = high_place i high in absurd (omega (arith, x, e, h))
      ]) ∙ ap (λ b. if b then 0 else 1) (sym (lt-leb used p l))
  | inr g ↦
      never file_block p 0 used (λ j low high e. elim (cases_lt j 357) [
        | inl l ↦ let x = low_place j l in absurd (omega (arith, x, e, g, high))
        | inr l ↦ let x = high_place j l in absurd (omega (arith, x, e, h))
      ]) ∙ ap (λ b. if b then 0 else 1) (sym (le-leb used p g))
]

files_between : (used p : ℕ) → 357 ≤ p → p ≤ 375 → times p (map file_block (range_with_len 0 used)) ≡ 0
files_between used p l u = never file_block p 0 used (λ j low high e. elim (cases_lt j 357) [
  | inl h ↦ let x = low_place j h in absurd (omega (arith, x, e))
  | inr h ↦ let x = high_place j h in absurd (omega (arith, x, e))
])

files_above : (used p : ℕ) → 376 ≤ p → times p (map file_block (range_with_len 0 used)) ≡ (if nat_le (used + 19) p then 0 else 1)
files_above used p h = elim (cases_lt p (used + 19)) [
  | inl l ↦
      once file_block p 0 used (p - 19) (omega arith) (omega arith) (high_place (p - 19) (omega arith) ∙ omega arith) (λ i ne e. elim (cases_lt i 357) [
        | inl low ↦ let x = low_place i low in absurd (omega (arith, x, e, h))
        | inr high ↦ let x = high_place i high in absurd (ne (omega (arith, x, e)))
      ]) ∙ ap (λ b. if b then 0 else 1) (sym (lt-leb (used + 19) p l))
  | inr g ↦
      never file_block p 0 used (λ j low high e. elim (cases_lt j 357) [
        | inl l ↦ let x = low_place j l in absurd (omega (arith, x, e, h))
        | inr l ↦ let x = high_place j l in absurd (omega (arith, x, e, g, high))
      ]) ∙ ap (λ b. if b then 0 else 1) (sym (le-leb (used + 19) p g))
]

-- the indices of the directory's blocks
directory_out : (d p : ℕ) → (p < 358) → times p (range_with_len 358 d) ≡ 0
directory_out d p h = ap (times p) (sym (map-id (range_with_len 358 d))) ∙ never (λ x. x) p 358 d (λ j l u e. absurd (omega (arith, e, l, h)))

directory_past : (d p : ℕ) → 358 + d ≤ p → times p (range_with_len 358 d) ≡ 0
directory_past d p h = ap (times p) (sym (map-id (range_with_len 358 d))) ∙ never (λ x. x) p 358 d (λ j l u e. absurd (omega (arith, e, u, h)))

directory_in : (d p : ℕ) → 358 ≤ p → p < 358 + d → times p (range_with_len 358 d) ≡ 1
directory_in d p l h = ap (times p) (sym (map-id (range_with_len 358 d))) ∙ once (λ x. x) p 358 d p l h refl (λ i ne e. ne e)

-- the indices of all blocks in use: the head, the directory's blocks, and those of the files
abbrev pub behind_head : ℕ → ℕ → List ℕ
behind_head used d = range_with_len 358 d ++ map file_block (range_with_len 0 used)

abbrev pub all_used : ℕ → ℕ → List ℕ
all_used used d = 357 ∷ behind_head used d

parts : (used d p : ℕ) → times p (behind_head used d) ≡ times p (range_with_len 358 d) + times p (map file_block (range_with_len 0 used))
parts used d p = sum_by-append (λ q. if q == p then 1 else 0) (range_with_len 358 d) (map file_block (range_with_len 0 used))

-- a block is in use once if it is not free, and else not at all
pub uses_are : (used d p : ℕ) → d ≤ 18 → times p (all_used used d) ≡ (if is_free used d p then 0 else 1)
uses_are used d p few = elim (cases_lt p 357) [
  | inl l ↦
      times_not p 357 (behind_head used d) (λ e. absurd (omega (arith, e, l))) ∙ parts used d p ∙ (λ i. directory_out d p (omega arith) i + files_below used p l i)
      ∙ plus_zero (if nat_le used p then 0 else 1)
      ∙ ap (λ b. if (if b then nat_le used p else if nat_le p 375 then nat_lt (357 + d) p else nat_le (used + 19) p) then 0 else 1) (sym (lt-ltb p 357 l))
  | inr g ↦ ap (λ n. n) (above g) ∙ ap (λ b. if (if b then nat_le used p else if nat_le p 375 then nat_lt (357 + d) p else nat_le (used + 19) p) then 0 else 1) (sym (le-ltb p 357 g))
]
  where
    plus_zero : (n : ℕ) → 0 + n ≡ n
    plus_zero n = omega arith

    on_track : 357 ≤ p → p ≤ 375 → times p (all_used used d) ≡ (if nat_lt (357 + d) p then 0 else 1)
    on_track g h = elim (cases_eq 357 p) [
      | inl e ↦
          times_yes p 357 (behind_head used d) e ∙ ap (λ n. 1 + n) (parts used d p ∙ (λ i. directory_out d p (omega (arith, e)) i + files_between used p g h i))
          ∙ ap (λ b. if b then 0 else 1) (sym (le-ltb (357 + d) p (omega (arith, e))))
      | inr ne ↦ elim (cases_lt (357 + d) p) [
        | inl past ↦
            times_not p 357 (behind_head used d) ne ∙ parts used d p ∙ (λ i. directory_past d p (omega (arith, past)) i + files_between used p g h i)
            ∙ ap (λ b. if b then 0 else 1) (sym (lt-ltb (357 + d) p past))
        | inr within ↦
            times_not p 357 (behind_head used d) ne ∙ parts used d p ∙ (λ i. directory_in d p (omega (arith, ne)) (omega (arith, within)) i + files_between used p g h i)
            ∙ ap (λ b. if b then 0 else 1) (sym (le-ltb (357 + d) p within))
      ]
    ]

    above : 357 ≤ p → times p (all_used used d) ≡ (if (if nat_le p 375 then nat_lt (357 + d) p else nat_le (used + 19) p) then 0 else 1)
    above g = elim (cases_lt 375 p) [
      | inl past ↦
          times_not p 357 (behind_head used d) (λ e. absurd (omega (arith, e, past))) ∙ parts used d p
          ∙ (λ i. directory_past d p (omega arith) i + files_above used p (omega arith) i) ∙ plus_zero (if nat_le (used + 19) p then 0 else 1)
          ∙ ap (λ b. if (if b then nat_lt (357 + d) p else nat_le (used + 19) p) then 0 else 1) (sym (lt-leb p 375 past))
      | inr h ↦ on_track g h ∙ ap (λ b. if (if b then nat_lt (357 + d) p else nat_le (used + 19) p) then 0 else 1) (sym (le-leb p 375 h))
    ]

-- ---- the bits of the map
bit_small : (used d track s : ℕ) → free_bit used d track s ≤ 1
bit_small used d track s = by (nat_lt s (sectors_on track)) (is_free used d (block_index track s))
  where
    by : (a b : Bool) → (if a then (if b then 1 else 0) else 0) ≤ 1
    by true true = omega arith
    by true false = omega arith
    by false b = omega arith

record Bits : Type 0 where
  b0 : ℕ
  b1 : ℕ
  b2 : ℕ
  b3 : ℕ
  b4 : ℕ
  b5 : ℕ
  b6 : ℕ
  b7 : ℕ
  s0 : b0 ≤ 1
  s1 : b1 ≤ 1
  s2 : b2 ≤ 1
  s3 : b3 ≤ 1
  s4 : b4 ≤ 1
  s5 : b5 ≤ 1
  s6 : b6 ≤ 1
  s7 : b7 ≤ 1

abbrev byte_of : Bits → ℕ
byte_of x = x.b0 + 2 * x.b1 + 4 * x.b2 + 8 * x.b3 + 16 * x.b4 + 32 * x.b5 + 64 * x.b6 + 128 * x.b7

bit0 : (x : Bits) → byte_of x / 1 % 2 ≡ x.b0
bit0 x = omega arith

bit1 : (x : Bits) → byte_of x / 2 % 2 ≡ x.b1
bit1 x = omega arith

bit2 : (x : Bits) → byte_of x / 4 % 2 ≡ x.b2
bit2 x = omega arith

bit3 : (x : Bits) → byte_of x / 8 % 2 ≡ x.b3
bit3 x = omega arith

bit4 : (x : Bits) → byte_of x / 16 % 2 ≡ x.b4
bit4 x = omega arith

bit5 : (x : Bits) → byte_of x / 32 % 2 ≡ x.b5
bit5 x = omega arith

bit6 : (x : Bits) → byte_of x / 64 % 2 ≡ x.b6
bit6 x = omega arith

bit7 : (x : Bits) → byte_of x / 128 % 2 ≡ x.b7
bit7 x = omega arith

bits_at : (used d track s : ℕ) → Bits
bits_at used d track s =
    let b = free_bit used d track in
    record {
      b0 = b s;
      b1 = b (s + 1);
      b2 = b (s + 2);
      b3 = b (s + 3);
      b4 = b (s + 4);
      b5 = b (s + 5);
      b6 = b (s + 6);
      b7 = b (s + 7);
      s0 = bit_small used d track s;
      s1 = bit_small used d track (s + 1);
      s2 = bit_small used d track (s + 2);
      s3 = bit_small used d track (s + 3);
      s4 = bit_small used d track (s + 4);
      s5 = bit_small used d track (s + 5);
      s6 = bit_small used d track (s + 6);
      s7 = bit_small used d track (s + 7);
    }

bit_read : (used d track s r : ℕ) → r < 8 → bits_from used d track s / 2 ^ r % 2 ≡ free_bit used d track (s + r)
unfolding bits_from bits_at
bit_read used d track s zero h = let z : s ≡ s + 0 = omega arith in bit0 (bits_at used d track s) ∙ ap (free_bit used d track) z
bit_read used d track s (suc zero) h = bit1 (bits_at used d track s)
bit_read used d track s (suc (suc zero)) h = bit2 (bits_at used d track s)
bit_read used d track s (suc (suc (suc zero))) h = bit3 (bits_at used d track s)
bit_read used d track s (suc (suc (suc (suc zero)))) h = bit4 (bits_at used d track s)
bit_read used d track s (suc (suc (suc (suc (suc zero))))) h = bit5 (bits_at used d track s)
bit_read used d track s (suc (suc (suc (suc (suc (suc zero)))))) h = bit6 (bits_at used d track s)
bit_read used d track s (suc (suc (suc (suc (suc (suc (suc zero))))))) h = bit7 (bits_at used d track s)
bit_read used d track s (suc (suc (suc (suc (suc (suc (suc (suc r)))))))) h = absurd (omega arith)

-- the bytes of a track in the map
map_byte : (f : ℕ → List ℕ) → ((t : ℕ) → length (f t) ≡ 4) → (a m i q : ℕ) → i < m → q < 4
    → get_or (flat_map f (range_with_len a m)) (4 * i + q) 0 ≡ get_or (f (a + i)) q 0
map_byte f four a zero i q h l = absurd (omega arith)
map_byte f four a (suc m) zero q h l =
    let e : 4 * 0 + q ≡ q = omega arith in
    let z : a ≡ a + 0 = omega arith in
    ap (λ n. get_or (f a ++ flat_map f (range_with_len (a + 1) m)) n 0) e
    ∙ get_or_append_left (f a) (flat_map f (range_with_len (a + 1) m)) 0 q (omega (arith, four a)) ∙ ap (λ t. get_or (f t) q 0) z
map_byte f four a (suc m) (suc i) q h l =
    let e : 4 * suc i + q - 4 ≡ 4 * i + q = omega arith in
    let z : a + 1 + i ≡ a + suc i = omega arith in
    get_or-append_right (f a) (flat_map f (range_with_len (a + 1) m)) 4 (4 * suc i + q) 0 (four a) (omega arith)
    ∙ ap (λ n. get_or (flat_map f (range_with_len (a + 1) m)) n 0) e ∙ map_byte f four (a + 1) m i q (omega arith) l ∙ ap (λ t. get_or (f t) q 0) z

map_length : (f : ℕ → List ℕ) → ((t : ℕ) → length (f t) ≡ 4) → (a m : ℕ) → length (flat_map f (range_with_len a m)) ≡ 4 * m
map_length f four a zero = omega arith
map_length f four a (suc m) = length-append (f a) (flat_map f (range_with_len (a + 1) m)) ∙ omega (arith, four a, map_length f four (a + 1) m)

-- the map has four bytes for each of the 35 tracks
pub free_map_length : (used d : ℕ) → length (free_map used d) ≡ 140
free_map_length used d = map_length (track_map used d) (λ t. refl) 1 35

head_byte : (used d : ℕ) (field : List ℕ) (track q : ℕ) → 1 ≤ track → track ≤ 35 → q < 4
    → slice_index (head_block used d field) (4 * track + q) ≡ slice_index (track_map used d track) q
unfolding head_block
head_byte used d field track q l u h =
    let e : 4 * track + q - 4 ≡ 4 * (track - 1) + q = omega arith in
    let z : 1 + (track - 1) ≡ track = omega arith in
    get_or-append_right (18 ∷ 1 ∷ 65 ∷ 0 ∷ []) (free_map used d ++ title field) 4 (4 * track + q) 0 refl (omega arith)
    ∙ ap (λ n. get_or (free_map used d ++ title field) n 0) e
    ∙ get_or_append_left (free_map used d) (title field) 0 (4 * (track - 1) + q) (omega (arith, free_map_length used d))
    ∙ map_byte (track_map used d) (λ t. refl) 1 35 (track - 1) q (omega arith) h ∙ ap (λ t. get_or (track_map used d t) q 0) z

bits_byte : (used d track q : ℕ) → q < 3 → slice_index (track_map used d track) (1 + q) ≡ bits_from used d track (8 * q)
bits_byte used d track zero h = refl
bits_byte used d track (suc zero) h = refl
bits_byte used d track (suc (suc zero)) h = refl
bits_byte used d track (suc (suc (suc q))) h = absurd (omega arith)

-- the bit of a sector in the head is the one of the layout
pub bits_are : (used d : ℕ) (field : List ℕ) (track sector : ℕ) → 1 ≤ track → track ≤ 35 → sector < 24
    → map_bit (head_block used d field) track sector ≡ free_bit used d track sector
bits_are used d field track sector l u h =
    let at : 4 * track + 1 + sector / 8 ≡ 4 * track + (1 + sector / 8) = omega arith in
    let whole : 8 * (sector / 8) + sector % 8 ≡ sector = omega arith in
    ap (λ n. slice_index (head_block used d field) n / 2 ^ (sector % 8) % 2) at
    ∙ ap (λ b. b / 2 ^ (sector % 8) % 2) (head_byte used d field track (1 + sector / 8) l u (omega arith) ∙ bits_byte used d track (sector / 8) (omega arith))
    ∙ bit_read used d track (8 * (sector / 8)) (sector % 8) (omega arith) ∙ ap (free_bit used d track) whole

sum_same : (f g : ℕ → ℕ) (a m : ℕ) → ((s : ℕ) → s < a + m → f s ≡ g s) → sum_by f (range_with_len a m) ≡ sum_by g (range_with_len a m)
sum_same f g a zero h = refl
sum_same f g a (suc m) h =
    sum_by-cons f a (range_with_len (a + 1) m) ∙ (λ i. h a (omega arith) i + sum_same f g (a + 1) m (λ s l. h s (omega arith)) i)
    ∙ sym (sum_by-cons g a (range_with_len (a + 1) m))

summed : (b : ℕ → ℕ) → (b 0 + b 1 + b 2 + b 3 + b 4 + b 5 + b 6 + b 7) + (b 8 + b 9 + b 10 + b 11 + b 12 + b 13 + b 14 + b 15)
    + (b 16 + b 17 + b 18 + b 19 + b 20 + b 21 + b 22 + b 23) ≡ sum_by b (range_with_len 0 24)
summed b = omega arith

-- the count of a track in the head is the sum of its bits
pub counts_are : (used d : ℕ) (field : List ℕ) (track : ℕ) → 1 ≤ track → track ≤ 35
    → free_on (head_block used d field) track ≡ sum_by (map_bit (head_block used d field) track) (range_with_len 0 24)
unfolding ones_from
counts_are used d field track l u =
    let at : 4 * track ≡ 4 * track + 0 = omega arith in
    ap (slice_index (head_block used d field)) at ∙ head_byte used d field track 0 l u (omega arith) ∙ summed (free_bit used d track)
    ∙ sum_same (free_bit used d track) (map_bit (head_block used d field) track) 0 24 (λ s h. sym (bits_are used d field track s l u (omega arith)))

-- a sector's bit, by what is in use
pub bit_tells : (used d track sector : ℕ) → d ≤ 18 → 1 ≤ track → track ≤ 35
    → free_bit used d track sector ≡ (if is_on_disk track sector then 1 - times (block_index track sector) (all_used used d) else 0)
bit_tells used d track sector few l u =
    tests (nat_lt sector (sectors_on track)) (is_free used d (block_index track sector)) (times (block_index track sector) (all_used used d)) (uses_are used d (block_index track sector) few)
    ∙ (λ i. if (sym (le-leb 1 track l) i && sym (le-leb track 35 u) i && nat_lt sector (sectors_on track)) then 1 - times (block_index track sector) (all_used used d) else 0)
  where
    tests : (a b : Bool) (n : ℕ) → n ≡ (if b then 0 else 1) → (if a then (if b then 1 else 0) else 0) ≡ (if (true && true && a) then 1 - n else 0)
    tests true true n e = omega (arith, e)
    tests true false n e = omega (arith, e)
    tests false b n e = refl

-- Bytes that come next in a line, and words of them.
use Rattle.std.proofs.Common.{◌≡◌, ◌≢◌, ℕ, zero, suc, ◌+◌, ◌-◌, ◌<◌, ◌≤◌, inl, inr, List, [], ◌∷◌, ◌++◌, length, get_or, drop, slice_index, Bool, if◌then◌else◌, false, refl, sym, ap, subst, ◌∙◌, arith}
use Rattle.std.proofs.lemmas.Bool.{cases_eq, cases_order, cases_lt, and_left, and_right, and_from, le-leb, lt-leb, ne_eqb}
use Rattle.std.proofs.lemmas.Str.Ascii.{uppercase_is}
use Rattle.std.specs.Char.{to_ascii_uppercase}
use Rattle.tb_basic_grammar.specs.Grammar.{is_letter}
use Rattle.tb_parser.specs.Squeezed.{upper}
use Rattle.tb_parser.specs.Kinds.{AreSpaces, IsWritten, IsWord, Follows, is_any_letter, is_sign}
use Rattle.tb_parser.proofs.Steps.{split}

-- upper case by the definition of a squeezed line is std's
pub upper_is : (b : ℕ) → to_ascii_uppercase b ≡ upper b
upper_is b =
    let cases = uppercase_is b in
    elim (cases_lt b 97) [
      | inl low ↦ cases.1 low ∙ sym (ap (λ (t : Bool). if t then b - 32 else b) (and_left _ _ (lt-leb 97 b low)))
      | inr from_a ↦ elim (cases_lt 122 b) [
        | inl high ↦ cases.2 high ∙ sym (ap (λ (t : Bool). if t then b - 32 else b) (and_right _ _ (lt-leb b 122 high)))
        | inr to_z ↦
            let small : to_ascii_uppercase b ≡ b - 32 = omega (arith, cases.0 (from_a, to_z)) in
            small ∙ sym (ap (λ (t : Bool). if t then b - 32 else b) (and_from _ _ (le-leb 97 b from_a) (le-leb b 122 to_z)))
      ]
    ]

-- a byte that is no letter, in capitals or not
pub no_letter : (b : ℕ) → (65 ≤ b → b ≤ 90 → ⊥) → (97 ≤ b → b ≤ 122 → ⊥) → is_any_letter b ≡ false
no_letter b no_capital no_small =
    let same : upper b ≡ b = elim (cases_lt b 97) [
      | inl low ↦ ap (λ (t : Bool). if t then b - 32 else b) (and_left _ _ (lt-leb 97 b low))
      | inr from_a ↦ elim (cases_lt 122 b) [
        | inl high ↦ ap (λ (t : Bool). if t then b - 32 else b) (and_right _ _ (lt-leb b 122 high))
        | inr to_z ↦ absurd (no_small from_a to_z)
      ]
    ] in
    ap is_letter same ∙ elim (cases_lt b 65) [
      | inl low ↦ and_left _ _ (lt-leb 65 b low)
      | inr from_a ↦ elim (cases_lt 90 b) [
        | inl high ↦ and_right _ _ (lt-leb b 90 high)
        | inr to_z ↦ absurd (no_capital from_a to_z)
      ]
    ]

-- a byte that is neither < nor >
pub no_sign : (b : ℕ) → b ≢ 60 → b ≢ 62 → is_sign b ≡ false
no_sign b less more = rw (ne_eqb b 60 less, ne_eqb b 62 more) refl

-- from a place on the first byte that is no space is at one place
pub written_one : (line : List ℕ) (from p q : ℕ) → IsWritten line from p → IsWritten line from q → p ≡ q
written_one line from p q h k = elim (cases_order p q) [
  | inl e ↦ e
  | inr o ↦ elim o [
    | inl lt ↦ absurd (h.written (k.spaces p h.in_order lt))
    | inr lt ↦ absurd (k.written (h.spaces q k.in_order lt))
  ]
]

-- before a byte that is no space there is a first one from a place on
first_in : (line : List ℕ) (n from q : ℕ) → q ≡ from + n → q < length line → slice_index line q ≢ 32 → (p : ℕ) × IsWritten line from p × (p ≤ q)
first_in line zero from q e within written = (
  q,
  record {
    in_order = omega arith;
    within = within;
    spaces = λ k le lt. absurd (omega arith);
    written = written;
  },
  omega arith,
)
first_in line (suc n) from q e within written = elim (cases_eq (slice_index line from) 32) [
  | inl space ↦
      let more = first_in line n (from + 1) q (omega arith) within written in (
        more.0,
        record {
          in_order = omega (arith, more.1.in_order);
          within = more.1.within;
          spaces = λ k le lt. elim (cases_eq k from) [
            | inl same ↦ ap (λ (m : ℕ). slice_index line m) same ∙ space
            | inr other ↦ more.1.spaces k (omega (arith, other)) lt
          ];
          written = more.1.written;
        },
        more.2,
      )
  | inr other ↦ (
    from,
    record {
      in_order = omega arith;
      within = omega arith;
      spaces = λ k le lt. absurd (omega arith);
      written = other;
    },
    omega arith,
  )
]

pub first_from : (line : List ℕ) (from q : ℕ) → from ≤ q → q < length line → slice_index line q ≢ 32 → (p : ℕ) × IsWritten line from p × (p ≤ q)
first_from line from q le within written = first_in line (q - from) from q (omega arith) within written

-- behind spaces up to the line's end no byte comes
pub none_written : (line : List ℕ) (from p : ℕ) → AreSpaces line from (length line) → IsWritten line from p → ⊥
none_written line from p spaces h = h.written (spaces p h.in_order h.within)

-- the byte that comes next decides what follows
pub follows_here : (line : List ℕ) (from p : ℕ) (Is : ℕ → Type 0) → IsWritten line from p → Follows line from Is → Is (slice_index line p)
follows_here line from p Is h f = subst (λ (q : ℕ). Is (slice_index line q)) (written_one line from f.0 p f.1 h) f.2

-- a word ends behind the place that it begins at, within the line
pub word_within : (line : List ℕ) (from : ℕ) (word : List ℕ) (end : ℕ) → from ≤ length line → IsWord line from word end → (from ≤ end) × (end ≤ length line)
word_within line from [] end le e = (omega (arith, e), omega (arith, e, le))
word_within line from (b ∷ word) end le (place, w, is, more) =
    let again = word_within line (place + 1) word end (omega (arith, w.within)) more in
    (omega (arith, w.in_order, again.0), again.1)

-- a word with a letter ends later than it begins
pub word_moves : (line : List ℕ) (from b : ℕ) (word : List ℕ) (end : ℕ) → IsWord line from (b ∷ word) end → from < end
word_moves line from b word end (place, w, is, more) =
    let again = word_within line (place + 1) word end (omega (arith, w.within)) more in
    omega (arith, w.in_order, again.0)

-- any word that has letters ends later than it begins
pub word_moves_by : (line : List ℕ) (from : ℕ) (word : List ℕ) (end : ℕ) → 0 < length word → IsWord line from word end → from < end
word_moves_by line from [] end some h = absurd (omega arith)
word_moves_by line from (b ∷ word) end some h = word_moves line from b word end h

-- a word ends at one place
pub word_one : (line : List ℕ) (from : ℕ) (word : List ℕ) (p q : ℕ) → IsWord line from word p → IsWord line from word q → p ≡ q
word_one line from [] p q h k = sym h ∙ k
word_one line from (b ∷ word) p q (x, wx, ix, mx) (y, wy, iy, my) =
    let same : x ≡ y = written_one line from x y wx wy in
    word_one line (x + 1) word p q mx (subst (λ (z : ℕ). IsWord line (z + 1) word q) (sym same) my)

-- a text's first byte
unfoldable pub head : List ℕ → ℕ
head [] = 0
head (b ∷ text) = b

-- words at one place begin with the same letter
pub word_heads : (line : List ℕ) (from : ℕ) (u v : List ℕ) (p q : ℕ) → 0 < length u → 0 < length v → IsWord line from u p → IsWord line from v q → head u ≡ head v
unfolding head
word_heads line from [] v p q some also h k = absurd (omega arith)
word_heads line from (a ∷ u) [] p q some also h k = absurd (omega arith)
word_heads line from (a ∷ u) (b ∷ v) p q some also (x, wx, ix, mx) (y, wy, iy, my) =
    sym ix ∙ ap (λ (z : ℕ). upper (slice_index line z)) (written_one line from x y wx wy) ∙ iy

-- words that end at the same place have the same letters
pub word_letters : (line : List ℕ) (from : ℕ) (u v : List ℕ) (end : ℕ) → from ≤ length line → IsWord line from u end → IsWord line from v end → u ≡ v
word_letters line from [] [] end le h k = refl
word_letters line from [] (b ∷ v) end le h k = let moved = word_moves line from b v end k in absurd (omega (arith, h, moved))
word_letters line from (a ∷ u) [] end le h k = let moved = word_moves line from a u end h in absurd (omega (arith, k, moved))
word_letters line from (a ∷ u) (b ∷ v) end le (x, wx, ix, mx) (y, wy, iy, my) =
    let same : x ≡ y = written_one line from x y wx wy in
    let rest : u ≡ v = word_letters line (x + 1) u v end (omega (arith, wx.within)) mx (subst (λ (z : ℕ). IsWord line (z + 1) v end) (sym same) my) in
    let first : a ≡ b = sym ix ∙ ap (λ (z : ℕ). upper (slice_index line z)) same ∙ iy in
    cc

-- of two words that begin at one place, the one that ends first is a front of the other
pub word_front : (line : List ℕ) (from : ℕ) (u v : List ℕ) (p q : ℕ) → from ≤ length line → p ≤ q → IsWord line from u p → IsWord line from v q
    → (rest : List ℕ) × (v ≡ u ++ rest)
word_front line from [] v p q le lt h k = (v, refl)
word_front line from (a ∷ u) [] p q le lt h k = let moved = word_moves line from a u p h in absurd (omega (arith, k, moved, lt))
word_front line from (a ∷ u) (b ∷ v) p q le lt (x, wx, ix, mx) (y, wy, iy, my) =
    let same : x ≡ y = written_one line from x y wx wy in
    let again = word_front line (x + 1) u v p q (omega (arith, wx.within)) lt mx (subst (λ (z : ℕ). IsWord line (z + 1) v q) (sym same) my) in
    let first : a ≡ b = sym ix ∙ ap (λ (z : ℕ). upper (slice_index line z)) same ∙ iy in
    (again.0, let rest = again.1 in cc)

module _ (line : List ℕ) (from : ℕ) (word : List ℕ) (i : ℕ) (lt : i < length word) where
  -- a word goes on with its next letter
  word_split : (end : ℕ) → IsWord line from (drop i word) end → IsWord line from (get_or word i 0 ∷ drop (i + 1) word) end
  word_split end h = subst (λ (letters : List ℕ). IsWord line from letters end) (split word i 0 lt) h

  -- it doesn't go on at the line's end
  pub word_ends : AreSpaces line from (length line) → (end : ℕ) → IsWord line from (drop i word) end → ⊥
  word_ends spaces end h = let parts = word_split end h in none_written line from parts.0 spaces parts.1

  module _ (p : ℕ) (written : IsWritten line from p) where
    -- nor at another letter
    pub word_stops : (upper (slice_index line p) ≡ get_or word i 0 → ⊥) → (end : ℕ) → IsWord line from (drop i word) end → ⊥
    word_stops other end h =
        let parts = word_split end h in
        other (subst (λ (q : ℕ). upper (slice_index line q) ≡ get_or word i 0) (written_one line from parts.0 p parts.1 written) parts.2)

    -- it goes on at this one
    pub word_later : (end : ℕ) → IsWord line from (drop i word) end → IsWord line (p + 1) (drop (i + 1) word) end
    word_later end h =
        let parts = word_split end h in
        subst (λ (q : ℕ). IsWord line (q + 1) (drop (i + 1) word) end) (written_one line from parts.0 p parts.1 written) parts.3

    pub word_sooner : upper (slice_index line p) ≡ get_or word i 0 → (end : ℕ) → IsWord line (p + 1) (drop (i + 1) word) end → IsWord line from (drop i word) end
    word_sooner same end h = subst (λ (letters : List ℕ). IsWord line from letters end) (sym (split word i 0 lt)) (p, written, same, h)

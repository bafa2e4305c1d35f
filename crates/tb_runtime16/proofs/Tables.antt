-- Parts of a table.
use Rattle.std.proofs.Common.{◌≡◌, ◌≢◌, ℕ, zero, suc, ◌+◌, ◌*◌, ◌/◌, ◌%◌, ◌<◌, ◌≤◌, List, [], ◌∷◌, ◌++◌}
use Rattle.std.proofs.Common.{length, refl, ap, ◌∙◌, subst, arith, if◌then◌else◌, eqb, Some, None}
use Rattle.std.proofs.lemmas.Bool.{ne_eqb}
use Rattle.tb_machine_reaching.specs.View.{Part, Bytes}
use Rattle.tb_basic_syntax.specs.Source.{Rises}
use Rattle.tb_runtime16.specs.Search.{Line, table_bytes, numbers_in, AllWords, address_of}

-- a table cut before its entry h
pub record Cut (es : List Line) (h : ℕ) : Type 0 where
  pub front : List Line
  pub here : Line
  pub back : List Line
  pub whole : es ≡ front ++ (here ∷ back)
  pub size : length front ≡ h

-- each table can be cut before each of its entries
pub cut : (es : List Line) (h : ℕ) → h < length es → Cut es h
cut [] h l = absurd (let no : ⊥ = omega arith in no)
cut (e ∷ es) zero l = record { front = []; here = e; back = es; whole = refl; size = refl }
cut (e ∷ es) (suc h) l =
    let c = cut es h (omega arith) in
    record { front = e ∷ c.front; here = c.here; back = c.back; whole = ap (λ l. e ∷ l) c.whole; size = omega (arith, c.size) }

-- ---- the bytes
-- the bytes of a table's first entry
pub entry_bytes : (code : Part) (at : ℕ) (e : Line) (es : List Line) → at + 4 ≤ 0xa000 → Bytes code at (table_bytes (e ∷ es))
    → (code at ≡ Some (e.0 % 256)) × (code (at + 1) ≡ Some (e.0 / 256)) × (code (at + 2) ≡ Some (e.1 % 256)) × (code (at + 3) ≡ Some (e.1 / 256))
entry_bytes code at e es r h = (
  h.0,
  ap code (let p : at + 1 ≡ (at + 1) % 65536 = omega (arith, r) in p) ∙ h.1.0,
  ap code (let p : at + 2 ≡ ((at + 1) % 65536 + 1) % 65536 = omega (arith, r) in p) ∙ h.1.1.0,
  ap code (let p : at + 3 ≡ (((at + 1) % 65536 + 1) % 65536 + 1) % 65536 = omega (arith, r) in p) ∙ h.1.1.1.0,
)

-- the address of the next entry
behind_entry : (at : ℕ) → at + 4 < 65536 → ((((at + 1) % 65536 + 1) % 65536 + 1) % 65536 + 1) % 65536 ≡ at + 4
behind_entry at r = omega arith

-- the front of a table's bytes is the front's table
pub bytes_front : (code : Part) (at : ℕ) (a b : List Line) → Bytes code at (table_bytes (a ++ b)) → Bytes code at (table_bytes a)
bytes_front code at [] b h = tt
bytes_front code at (e ∷ a) b h = (h.0, (h.1.0, (h.1.1.0, (h.1.1.1.0, bytes_front code (((((at + 1) % 65536 + 1) % 65536 + 1) % 65536 + 1) % 65536) a b h.1.1.1.1))))

-- the back of a table's bytes is the back's table
pub bytes_back : (code : Part) (at : ℕ) (a b : List Line) → at + 4 * length a < 65536 → Bytes code at (table_bytes (a ++ b)) → Bytes code (at + 4 * length a) (table_bytes b)
bytes_back code at [] b r h = subst (λ n. Bytes code n (table_bytes b)) (let e : at ≡ at + 4 * 0 = omega arith in e) h
bytes_back code at (e ∷ a) b r h =
    let rest : Bytes code (at + 4) (table_bytes (a ++ b)) = subst (λ n. Bytes code n (table_bytes (a ++ b))) (behind_entry at (omega (arith, r))) h.1.1.1.1 in
    subst (λ n. Bytes code n (table_bytes b)) (let e : at + 4 + 4 * length a ≡ at + 4 * suc (length a) = omega arith in e) (bytes_back code (at + 4) a b (omega (arith, r)) rest)

-- ---- the order
-- a number is below all of these
abbrev pub IsBelowAll : ℕ → List ℕ → Type 0
IsBelowAll k [] = Unit {0}
IsBelowAll k (n ∷ ns) = (k < n) × IsBelowAll k ns

-- each number is below all that follow it
abbrev pub AreRising : List ℕ → Type 0
AreRising [] = Unit {0}
AreRising (n ∷ ns) = IsBelowAll n ns × AreRising ns

-- numbers that rise from a greater one are all above
below_all : (k low : ℕ) (ns : List ℕ) → k < low → Rises low 65536 ns → IsBelowAll k ns
below_all k low [] l h = tt
below_all k low (n ∷ ns) l h = (omega (arith, l, h.0), below_all k (n + 1) ns (omega (arith, l, h.0)) h.2)

-- of numbers that rise each is below all that follow it
pub are_rising : (low : ℕ) (ns : List ℕ) → Rises low 65536 ns → AreRising ns
are_rising low [] h = tt
are_rising low (n ∷ ns) h = (below_all n (n + 1) ns (omega arith) h.2, are_rising (n + 1) ns h.2)

pub above_front : (k : ℕ) (a b : List Line) → IsBelowAll k (numbers_in (a ++ b)) → IsBelowAll k (numbers_in a)
above_front k [] b h = tt
above_front k (e ∷ a) b h = (h.0, above_front k a b h.1)

-- a number below all of a table's is below each entry's
pub above_here : (k : ℕ) (a : List Line) (e : Line) (b : List Line) → IsBelowAll k (numbers_in (a ++ (e ∷ b))) → k < e.0
above_here k [] e b h = h.0
above_here k (x ∷ a) e b h = above_here k a e b h.1

-- the front of rising numbers rises
pub rising_front : (a b : List Line) → AreRising (numbers_in (a ++ b)) → AreRising (numbers_in a)
rising_front [] b h = tt
rising_front (e ∷ a) b h = (above_front e.0 a b h.0, rising_front a b h.1)

-- the back of rising numbers rises
pub rising_back : (a b : List Line) → AreRising (numbers_in (a ++ b)) → AreRising (numbers_in b)
rising_back [] b h = h
rising_back (e ∷ a) b h = rising_back a b h.1

-- the front of a table has words only
pub words_front : (a b : List Line) → AllWords (a ++ b) → AllWords a
words_front [] b h = tt
words_front (e ∷ a) b h = (h.0, h.1, words_front a b h.2)

-- the back of a table has words only
pub words_back : (a b : List Line) → AllWords (a ++ b) → AllWords b
words_back [] b h = h
words_back (e ∷ a) b h = words_back a b h.2

-- ---- the look-up
pub other_line : (t : ℕ) (e : Line) (es : List Line) → e.0 ≢ t → address_of t (e ∷ es) ≡ address_of t es
other_line t e es h = ap (λ b. if b then Some e.1 else address_of t es) (ne_eqb e.0 t h)

-- a number below all of a table's is not in it
pub none_above : (k t : ℕ) (es : List Line) → IsBelowAll k (numbers_in es) → t ≤ k → address_of t es ≡ None
none_above k t [] h l = refl
none_above k t (e ∷ es) h l = other_line t e es (λ x. let p = h.0 in omega arith) ∙ none_above k t es h.1 l

-- a number below an entry's is looked up before it
pub address_front : (t : ℕ) (a : List Line) (e : Line) (b : List Line) → AreRising (numbers_in (a ++ (e ∷ b))) → t < e.0 → address_of t (a ++ (e ∷ b)) ≡ address_of t a
address_front t [] e b h l = other_line t e b (λ x. omega arith) ∙ none_above e.0 t b h.0 (omega arith)
address_front t (x ∷ a) e b h l = ap (λ o. if eqb x.0 t then Some x.1 else o) (address_front t a e b h.1 l)

-- any other number is looked up from it on
pub address_back : (t : ℕ) (a : List Line) (e : Line) (b : List Line) → AreRising (numbers_in (a ++ (e ∷ b))) → e.0 ≤ t → address_of t (a ++ (e ∷ b)) ≡ address_of t (e ∷ b)
address_back t [] e b h l = refl
address_back t (x ∷ a) e b h l =
    let less = above_here x.0 a e b h.0 in
    other_line t x (a ++ (e ∷ b)) (λ y. omega arith) ∙ address_back t a e b h.1 l

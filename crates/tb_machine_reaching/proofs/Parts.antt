-- The bytes of a program as its parts.
use Rattle.std.proofs.Common.{◌≡◌, ℕ, ◌+◌, ◌%◌, ◌<◌, ◌≤◌, List, [], ◌∷◌, ◌++◌, length, refl, sym, ap, ◌∙◌, subst, ⊎_elim, arith, Some, None}
use Rattle.std.specs.Prelude.{if◌then◌else◌}
use Rattle.std.proofs.lemmas.Bool.{cases_eq, eq-eqb, ne_eqb}
use Rattle.tb_machine_reaching.specs.View.{Part, Holds, part_at, Bytes}
use Rattle.tb_machine_reaching.proofs.Instr.{Instr, instr_bytes, flat, Stands}

-- ---- one part among another
pub holds_itself : (p : Part) → Holds p p
holds_itself p a b e = e

-- holding is transitive
pub holds_then : (p q r : Part) → Holds p q → Holds q r → Holds p r
holds_then p q r h k a b e = k a b (h a b e)

-- ---- lists of bytes
-- the first byte of a part
part_first : (at b : ℕ) (bs : List ℕ) → part_at at (b ∷ bs) at ≡ Some b
part_first at b bs = ap (λ t. if t then Some b else part_at (at + 1) bs at) (eq-eqb at at refl)

-- no byte lies before a part
part_before : (at : ℕ) (bs : List ℕ) (a : ℕ) → a < at → part_at at bs a ≡ None
part_before at [] a h = refl
part_before at (b ∷ bs) a h = ap (λ t. if t then Some b else part_at (at + 1) bs a) (ne_eqb a at (λ e. omega arith)) ∙ part_before (at + 1) bs a (omega arith)

-- the others of its bytes
part_next : (at b : ℕ) (bs : List ℕ) → Holds (part_at (at + 1) bs) (part_at at (b ∷ bs))
part_next at b bs a x e = ⊎_elim
    (λ h. let none : part_at (at + 1) bs a ≡ None = part_before (at + 1) bs a (omega arith) in let bad : Some x ≡ None = sym e ∙ none in cc)
    (λ n. ap (λ t. if t then Some b else part_at (at + 1) bs a) (ne_eqb a at n) ∙ e)
    (cases_eq a at)

-- the front and the back of a list of bytes
pub part_front : (at : ℕ) (xs ys : List ℕ) → Holds (part_at at xs) (part_at at (xs ++ ys))
part_front at [] ys a x e = cc
part_front at (b ∷ xs) ys a x e = ⊎_elim
    (λ s. ap (λ t. if t then Some b else part_at (at + 1) (xs ++ ys) a) (eq-eqb a at s) ∙ sym (ap (λ t. if t then Some b else part_at (at + 1) xs a) (eq-eqb a at s)) ∙ e)
    (λ n. ap (λ t. if t then Some b else part_at (at + 1) (xs ++ ys) a) (ne_eqb a at n)
    ∙ part_front (at + 1) xs ys a x (sym (ap (λ t. if t then Some b else part_at (at + 1) xs a) (ne_eqb a at n)) ∙ e))
    (cases_eq a at)

-- the second of two lists is a part of the whole
pub part_back : (at : ℕ) (xs ys : List ℕ) → Holds (part_at (at + length xs) ys) (part_at at (xs ++ ys))
part_back at [] ys = subst (λ n. Holds (part_at n ys) (part_at at ys)) (let e : at ≡ at + 0 = omega arith in e) (holds_itself (part_at at ys))
part_back at (b ∷ xs) ys =
    let later : at + 1 + length xs ≡ at + length (b ∷ xs) = omega arith in
    holds_then (part_at (at + length (b ∷ xs)) ys) (part_at (at + 1) (xs ++ ys)) (part_at at (b ∷ (xs ++ ys)))
    (subst (λ n. Holds (part_at n ys) (part_at (at + 1) (xs ++ ys))) later (part_back (at + 1) xs ys))
    (part_next at b (xs ++ ys))

-- bytes in one part are in each part that holds it
pub bytes_same : (p q : Part) → Holds p q → (at : ℕ) (bs : List ℕ) → Bytes p at bs → Bytes q at bs
bytes_same p q h at [] b = tt
bytes_same p q h at (x ∷ bs) b = (h at x b.0, bytes_same p q h ((at + 1) % 65536) bs b.1)

-- a part's bytes follow one another
pub part_bytes : (at : ℕ) (bs : List ℕ) → at + length bs ≤ 65536 → Bytes (part_at at bs) at bs
part_bytes at [] h = tt
part_bytes at (b ∷ []) h = (part_first at b [], tt)
part_bytes at (b ∷ c ∷ cs) h =
    let e : at + 1 ≡ (at + 1) % 65536 = omega arith in (
      part_first at b (c ∷ cs),
      subst (λ n. Bytes (part_at at (b ∷ c ∷ cs)) n (c ∷ cs)) e (bytes_same (part_at (at + 1) (c ∷ cs))
          (part_at at (b ∷ c ∷ cs)) (part_next at b (c ∷ cs)) (at + 1) (c ∷ cs) (part_bytes (at + 1) (c ∷ cs) (omega arith))),
    )

-- code that holds a list as a part has its bytes in order
pub holds_bytes : (code : Part) (at : ℕ) (bs : List ℕ) → at + length bs ≤ 65536 → Holds (part_at at bs) code → Bytes code at bs
holds_bytes code at bs r h = bytes_same (part_at at bs) code h at bs (part_bytes at bs r)

-- a part's byte is its first one, or one of the others
first_or_later : (code : Part) (at b : ℕ) (bs : List ℕ) (a x : ℕ) → code at ≡ Some b → (part_at (at + 1) bs a ≡ Some x → code a ≡ Some x)
    → part_at at (b ∷ bs) a ≡ Some x → code a ≡ Some x
first_or_later code at b bs a x here later e = ⊎_elim
    (λ s. let first : part_at at (b ∷ bs) a ≡ Some b = ap (λ t. if t then Some b else part_at (at + 1) bs a) (eq-eqb a at s) in
    ap code s ∙ here ∙ sym first ∙ e)
    (λ n. later (sym (ap (λ t. if t then Some b else part_at (at + 1) bs a) (ne_eqb a at n)) ∙ e))
    (cases_eq a at)

-- code that has bytes in order holds them as a part
pub bytes_hold : (code : Part) (at : ℕ) (bs : List ℕ) → at + length bs ≤ 65536 → Bytes code at bs → Holds (part_at at bs) code
bytes_hold code at [] r h a x e = cc
bytes_hold code at (b ∷ []) r h a x e = first_or_later code at b [] a x h.0 (λ e. cc) e
bytes_hold code at (b ∷ c ∷ cs) r h a x e =
    let s : (at + 1) % 65536 ≡ at + 1 = omega arith in
    first_or_later code at b (c ∷ cs) a x h.0 (λ e. bytes_hold code (at + 1) (c ∷ cs) (omega arith) (subst (λ n. Bytes code n (c ∷ cs)) s h.1) a x e) e

-- the first of two lists of bytes is in its place
pub bytes_front : (code : Part) (at : ℕ) (a b : List ℕ) → Bytes code at (a ++ b) → Bytes code at a
bytes_front code at [] b h = tt
bytes_front code at (x ∷ a) b h = (h.0, bytes_front code ((at + 1) % 65536) a b h.1)

-- the second of two lists of bytes follows the first
pub bytes_back : (code : Part) (at : ℕ) (a b : List ℕ) → at < 65536 → Bytes code at (a ++ b) → Bytes code ((at + length a) % 65536) b
bytes_back code at [] b r h = subst (λ n. Bytes code n b) (let e : at ≡ (at + 0) % 65536 = omega arith in e) h
bytes_back code at (x ∷ a) b r h =
    let e : ((at + 1) % 65536 + length a) % 65536 ≡ (at + length (x ∷ a)) % 65536 = omega arith in
    subst (λ n. Bytes code n b) e (bytes_back code ((at + 1) % 65536) a b (omega arith) h.1)

-- the bytes of instructions are those instructions
pub stands : (code : Part) (at : ℕ) (is : List Instr) → at < 65536 → Bytes code at (flat is) → Stands code at is
stands code at [] r h = tt
stands code at (i ∷ is) r h = (
  bytes_front code at (instr_bytes i) (flat is) h,
  stands code ((at + length (instr_bytes i)) % 65536) is (omega arith) (bytes_back code at (instr_bytes i) (flat is) r h),
)

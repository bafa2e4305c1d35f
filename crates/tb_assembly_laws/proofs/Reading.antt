-- Trees are read as their steps.
use Rattle.std.proofs.Common.{◌≡◌, ◌<◌, ◌≤◌, ℕ, true, false, List, [], ◌∷◌, ◌++◌, refl, sym, ap, subst, ◌∙◌, append_assoc, Result, Ok, arith, if◌then◌else◌}
use Rattle.std.proofs.lemmas.List.{append-nil}
use Rattle.std.proofs.lemmas.Bool.{le-leb, lt-leb}
use Rattle.tb_assembly_text.specs.declared.tokens.Sign.TheVariants.{Right}
use Rattle.tb_assembly_text.specs.declared.expressions.Unary.{Unary}
use Rattle.tb_assembly_text.specs.declared.expressions.Unary.TheVariants.{Negative, Low, High}
use Rattle.tb_assembly_text.specs.declared.expressions.Binary.{Binary}
use Rattle.tb_assembly_text.specs.declared.expressions.Binary.TheVariants.{Add, Subtract, Multiply, Divide, And, Or, Xor, ShiftLeft, ShiftRight}
use Rattle.tb_assembly_text.specs.declared.expressions.Waiting.TheVariants.{Open, Unary as UnaryWaiting, Binary as BinaryWaiting}
use Rattle.tb_assembly_text.specs.declared.expressions.Pending.{Pending}
use Rattle.tb_assembly_text.specs.declared.faults.Fault.{Fault}
use Rattle.tb_assembly_text.specs.Tokens.{Placed, sign}
use Rattle.tb_assembly_text.specs.Expressions.{Mark, State, alone, at_column, binary, closed, closing, column_at, level_of, moved, read_from, settled, unary, with_rest}
use Rattle.tb_assembly_laws.specs.Trees.{Tree, IsBound, numbers, names, stands, before, between, within, binary_sign, level, steps_of, unary_sign, written}
use Rattle.tb_assembly_laws.specs.TreeLaws.{ReadsTrees}

-- an operator that waits
abbrev waits : ℕ → Binary → Pending
waits c b = record { column = c; waiting = BinaryWaiting b }

-- nothing that waits has its right side where an operator of this level or a tighter one follows
abbrev Quiet : ℕ → List Pending → Type 0
Quiet k ps = (m : ℕ) (ms : List Mark) → k ≤ m → settled m ps ms ≡ (ps, ms)

-- what must hold of what waits before a tree: nothing, unless the tree has an operator between operands
abbrev Ready : Tree → List Pending → Type 0
Ready (between c b l r) ps = Quiet (level_of b) ps
Ready t ps = Unit {0}

-- a tree's operator binds more loosely than what is no operator
below : (b : Binary) → level_of b ≤ 6
below Add = omega arith
below Subtract = omega arith
below Multiply = omega arith
below Divide = omega arith
below And = omega arith
below Or = omega arith
below Xor = omega arith
below ShiftLeft = omega arith
below ShiftRight = omega arith

-- an operator before an operand needs nothing of what waits
ready_tight : (t : Tree) (ps : List Pending) → level t ≡ 7 → Ready t ps
ready_tight (numbers c n) ps e = tt
ready_tight (names c w) ps e = tt
ready_tight (stands c) ps e = tt
ready_tight (before c u t) ps e = tt
ready_tight (between c b l r) ps e = absurd (omega (arith, e, below b))
ready_tight (within c d t) ps e = tt

-- nor does a tree after an open parenthesis
ready_open : (t : Tree) (c : ℕ) (ps : List Pending) → Ready t (record { column = c; waiting = Open } ∷ ps)
ready_open (numbers c n) d ps = tt
ready_open (names c w) d ps = tt
ready_open (stands c) d ps = tt
ready_open (before c u t) d ps = tt
ready_open (between c b l r) d ps = λ m ms le. refl
ready_open (within c e t) d ps = tt

-- nor where nothing waits
ready_first : (t : Tree) → Ready t []
ready_first (numbers c n) = tt
ready_first (names c w) = tt
ready_first (stands c) = tt
ready_first (before c u t) = tt
ready_first (between c b l r) = λ m ms le. refl
ready_first (within c d t) = tt

-- what is quiet for a tree is so for its left operand
ready_left : (t : Tree) (k : ℕ) (ps : List Pending) → k ≤ level t → Quiet k ps → Ready t ps
ready_left (numbers c n) k ps le q = tt
ready_left (names c w) k ps le q = tt
ready_left (stands c) k ps le q = tt
ready_left (before c u t) k ps le q = tt
ready_left (between c b l r) k ps le q = λ m ms up. q m ms (omega (arith, le, up))
ready_left (within c d t) k ps le q = tt

-- an operator that waits has no right side yet where a tighter one follows
not_due : (c : ℕ) (b : Binary) (ps : List Pending) (m : ℕ) (ms : List Mark) → level_of b < m → settled m (waits c b ∷ ps) ms ≡ (waits c b ∷ ps, ms)
not_due c b ps m ms up = ap (λ x. if x then settled m ps (ms ++ (c, binary b) ∷ []) else (waits c b ∷ ps, ms)) (lt-leb m (level_of b) up)

-- but where a looser one follows
due : (c : ℕ) (b : Binary) (ps : List Pending) (m : ℕ) (ms : List Mark) → m ≤ level_of b → settled m (waits c b ∷ ps) ms ≡ settled m ps (ms ++ (c, binary b) ∷ [])
due c b ps m ms le = ap (λ x. if x then settled m ps (ms ++ (c, binary b) ∷ []) else (waits c b ∷ ps, ms)) (le-leb m (level_of b) le)

-- the right operand binds more tightly than what waits for it
ready_right : (t : Tree) (c : ℕ) (b : Binary) (ps : List Pending) → level_of b < level t → Ready t (waits c b ∷ ps)
ready_right (numbers c n) d b ps lt = tt
ready_right (names c w) d b ps lt = tt
ready_right (stands c) d b ps lt = tt
ready_right (before c u t) d b ps lt = tt
ready_right (between c b l r) d a ps lt = λ m ms up. not_due d a ps m ms (omega (arith, lt, up))
ready_right (within c e t) d b ps lt = tt

module _ (scope : List ℕ) (end : ℕ) where
  -- an operator before its operand waits
  opens : (c : ℕ) (u : Unary) (ps : List Pending) (ms : List Mark) (rest : List Placed)
      → read_from scope end true (ps, ms) ((c, sign (unary_sign u)) ∷ rest)
      ≡ read_from scope end true (record { column = c; waiting = UnaryWaiting u } ∷ ps, ms) rest
  opens c Negative ps ms rest = refl
  opens c Low ps ms rest = refl
  opens c High ps ms rest = refl

  -- an operator between operands waits after those that bind as tightly
  operates : (c : ℕ) (b : Binary) (s : State) (rest : List Placed)
      → read_from scope end false s ((c, sign (binary_sign b)) ∷ rest)
      ≡ read_from scope end true (waits c b ∷ (settled (level_of b) s.0 s.1).0, (settled (level_of b) s.0 s.1).1) rest
  operates c Add s rest = refl
  operates c Subtract s rest = refl
  operates c Multiply s rest = refl
  operates c Divide s rest = refl
  operates c And s rest = refl
  operates c Or s rest = refl
  operates c Xor s rest = refl
  operates c ShiftLeft s rest = refl
  operates c ShiftRight s rest = refl

  -- a tree was read: as what waits gets its right sides, up to operators that bind as the tree does, its steps are there
  abbrev AfterTree : Tree → List Pending → List Mark → List Placed → Type 0
  AfterTree t ps ms rest =
      (qs : List Pending) × (ns : List Mark)
      × (read_from scope end true (ps, ms) (written t ++ rest) ≡ read_from scope end false (qs, ns) rest)
      × ((k : ℕ) → k ≤ level t → settled k qs ns ≡ settled k ps (ms ++ steps_of scope t))

  -- a tree of one token
  at_once : (t : Tree) (ps : List Pending) (ms : List Mark) (rest : List Placed)
      → read_from scope end true (ps, ms) (written t ++ rest) ≡ read_from scope end false (ps, ms ++ steps_of scope t) rest → AfterTree t ps ms rest
  at_once t ps ms rest e = (ps, ms ++ steps_of scope t, e, λ k le. refl)

  -- an operator after its operand was read
  after_before : (c : ℕ) (u : Unary) (t : Tree) (ps : List Pending) (ms : List Mark) (rest : List Placed) → level t ≡ 7
      → AfterTree t (record { column = c; waiting = UnaryWaiting u } ∷ ps) ms rest → AfterTree (before c u t) ps ms rest
  after_before c u t ps ms rest tight (qs, ns, e, s) = (
    qs,
    ns,
    opens c u ps ms (written t ++ rest) ∙ e,
    λ k le. s k (subst (λ n. k ≤ n) (sym tight) le) ∙ ap (settled k ps) (append_assoc ms (steps_of scope t) ((c, unary u) ∷ [])),
  )

  -- the parenthesis after a tree closes the one before it
  after_within : (c d : ℕ) (t : Tree) (ps : List Pending) (ms : List Mark) (rest : List Placed)
      → AfterTree t (record { column = c; waiting = Open } ∷ ps) ms ((d, sign Right) ∷ rest) → AfterTree (within c d t) ps ms rest
  after_within c d t ps ms rest (qs, ns, e, s) =
      let p : Pending = record { column = c; waiting = Open } in
      let go : State → Result (List Mark × List Placed) Fault =
      λ x. moved false d ((d, sign Right) ∷ rest) (closing x) (λ w r. read_from scope end w r rest) in
      at_once (within c d t) ps ms rest
      (ap (read_from scope end true (p ∷ ps, ms)) (append_assoc (written t) ((d, sign Right) ∷ []) rest) ∙ e ∙ ap go (s 0 (omega arith)))

  -- an operator after its left operand was read
  at_operator : (c : ℕ) (b : Binary) (ps qs : List Pending) (ms ns : List Mark) (rest : List Placed) → Quiet (level_of b) ps
      → settled (level_of b) qs ns ≡ settled (level_of b) ps ms
      → read_from scope end false (qs, ns) ((c, sign (binary_sign b)) ∷ rest) ≡ read_from scope end true (waits c b ∷ ps, ms) rest
  at_operator c b ps qs ms ns rest quiet same =
      operates c b (qs, ns) rest
      ∙ ap (λ (s : State). read_from scope end true (waits c b ∷ s.0, s.1) rest) (same ∙ quiet (level_of b) ms (omega arith))

  -- an operator after its right operand was read
  after_between : (c : ℕ) (b : Binary) (l r : Tree) (ps : List Pending) (ms : List Mark) (rest : List Placed) → level_of b < level r → Quiet (level_of b) ps
      → (qs : List Pending) (ns : List Mark)
      → read_from scope end true (ps, ms) (written l ++ (c, sign (binary_sign b)) ∷ (written r ++ rest))
      ≡ read_from scope end false (qs, ns) ((c, sign (binary_sign b)) ∷ (written r ++ rest))
      → settled (level_of b) qs ns ≡ settled (level_of b) ps (ms ++ steps_of scope l)
      → AfterTree r (waits c b ∷ ps) (ms ++ steps_of scope l) rest → AfterTree (between c b l r) ps ms rest
  after_between c b l r ps ms rest lt quiet qs ns left same (os, ls, right, s) =
      let left_steps = steps_of scope l in
      let right_steps = steps_of scope r in (
        os,
        ls,
        ap (read_from scope end true (ps, ms)) (append_assoc (written l) ((c, sign (binary_sign b)) ∷ written r) rest) ∙ left
            ∙ at_operator c b ps qs (ms ++ left_steps) ns (written r ++ rest) quiet same ∙ right,
        λ k le. s k (omega (arith, le, lt)) ∙ due c b ps k ((ms ++ left_steps) ++ right_steps) le
            ∙ ap (settled k ps) (append_assoc (ms ++ left_steps) right_steps ((c, binary b) ∷ []) ∙ append_assoc ms left_steps (right_steps ++ (c, binary b) ∷ [])),
      )

  -- both operands were read
  after_both : (c : ℕ) (b : Binary) (l r : Tree) (ps : List Pending) (ms : List Mark) (rest : List Placed) → level_of b ≤ level l → level_of b < level r
      → Quiet (level_of b) ps → AfterTree l ps ms ((c, sign (binary_sign b)) ∷ (written r ++ rest))
      → AfterTree r (waits c b ∷ ps) (ms ++ steps_of scope l) rest → AfterTree (between c b l r) ps ms rest
  after_both c b l r ps ms rest le lt quiet (qs, ns, e, s) right = after_between c b l r ps ms rest lt quiet qs ns e (s (level_of b) le) right

  -- a tree is read
  reads : (t : Tree) (ps : List Pending) (ms : List Mark) (rest : List Placed) → IsBound t → Ready t ps → AfterTree t ps ms rest
  reads (numbers c n) ps ms rest bound ready = at_once (numbers c n) ps ms rest refl
  reads (names c w) ps ms rest bound ready = at_once (names c w) ps ms rest refl
  reads (stands c) ps ms rest bound ready = at_once (stands c) ps ms rest refl
  reads (before c u t) ps ms rest (tight, bound) ready =
      let qs = record { column = c; waiting = UnaryWaiting u } ∷ ps in
      after_before c u t ps ms rest tight (reads t qs ms rest bound (ready_tight t qs tight))
  reads (between c b l r) ps ms rest (le, lt, left, right) ready =
      after_both c b l r ps ms rest le lt ready (reads l ps ms ((c, sign (binary_sign b)) ∷ (written r ++ rest)) left (ready_left l (level_of b) ps le ready))
      (reads r (waits c b ∷ ps) (ms ++ steps_of scope l) rest right (ready_right r c b ps lt))
  reads (within c d t) ps ms rest bound ready =
      after_within c d t ps ms rest (reads t (record { column = c; waiting = Open } ∷ ps) ms ((d, sign Right) ∷ rest) bound (ready_open t c ps))

  -- where nothing is left, its steps are all
  whole_tree : (t : Tree) → AfterTree t [] [] [] → read_from scope end true ([], []) (written t) ≡ Ok (steps_of scope t, [])
  whole_tree t (qs, ns, e, s) =
      ap (read_from scope end true ([], [])) (sym (append-nil (written t))) ∙ e
      ∙ ap (λ (x : State). with_rest [] (closed end x)) (s 0 (omega arith))

-- a tree's tokens are read as its steps
pub reads_trees : ReadsTrees
reads_trees scope end t bound =
    ap (λ r. alone (at_column (column_at end (written t)) r)) (whole_tree scope end t (reads scope end t [] [] [] bound (ready_first t)))

-- Names of labels and of values, and words in either case.
use Rattle.std.specs.Prelude.{ℕ, Bool, false, ◌||◌, List, [], ◌∷◌, ◌++◌, map, eqb, if◌then◌else◌}
use Rattle.tb_asm.specs.Names.{fold_byte}
use Rattle.tb_asm.specs.Mnemonics.{same_text}

-- whether a byte begins the name of something that belongs to a plain label: a full stop, `@` or `_`
abbrev pub begins_local : ℕ → Bool
begins_local b = eqb b 46 || eqb b 64 || eqb b 95

-- whether a name belongs to the last plain label
abbrev pub is_local : List ℕ → Bool
is_local [] = false
is_local (b ∷ bs) = begins_local b

-- the name that a word means after a plain label: in upper case, with the label and a colon before a name that belongs to it
abbrev pub full_name : List ℕ → List ℕ → List ℕ
full_name scope w = if is_local w then scope ++ 58 ∷ map fold_byte w else map fold_byte w

-- the plain label to which names belong after a label
abbrev pub scope_after : List ℕ → List ℕ → List ℕ
scope_after scope w = if is_local w then scope else map fold_byte w

-- whether a word in either case has these letters, which are in upper case
abbrev pub spells : List ℕ → List ℕ → Bool
spells w letters = same_text (map fold_byte w) letters

-- What reading a text answers.
use Rattle.std.specs.Prelude.{◌≡◌, ℕ, ◌<◌, ◌≤◌, Option, Some, None, Result, Ok, Err, List, map, length, drop, take, ◌++◌, ◌∷◌, [], option_map, IfSome}
use Rattle.arrayvec.specs.ArrayVec.{ArrayVec}
use Rattle.tb_asm.specs.declared.items.Item.{Item}
use Rattle.tb_asm.specs.declared.errors.LineError.{LineError}
use Rattle.tb_asm.specs.declared.errors.LineError.TheVariants.{Bad, NoMemory as NoMemoryForLine}
use Rattle.tb_asm.specs.declared.errors.TextError.{TextError}
use Rattle.tb_asm.specs.declared.errors.TextError.TheVariants.{Line, NoMemory as NoMemoryForText}
use Rattle.tb_asm.specs.declared.parts.Part.{Part}
use Rattle.tb_asm.specs.Layout.{Entry, entry_of}
use Rattle.tb_asm.specs.Text.{items_of, split_lines}
use Rattle.tb_asm.specs.Parts.{with_part, with_found, parts_of}

-- a part of a line is read as `wanted`, is refused if nothing is wanted, or memory ran out
abbrev pub Reads : {A B : Type 0} → (A → B) → Option B → Result A LineError → Type 0
Reads view wanted (Ok v) = wanted ≡ Some (view v)
Reads view wanted (Err Bad) = wanted ≡ None
Reads view wanted (Err NoMemoryForLine) = Unit {0}

-- a text is read as `wanted`, its items or its first bad line, or memory ran out
abbrev pub ReadsText : {A : Type 0} → (A → List Entry) → Result (List Entry) ℕ → Result A TextError → Type 0
ReadsText view wanted (Ok items) = wanted ≡ Ok (view items)
ReadsText view wanted (Err (Line i)) = wanted ≡ Err i
ReadsText view wanted (Err NoMemoryForText) = Unit {0}

-- no line begins with these parts
abbrev pub IsNoWord : List Part → Type 0
IsNoWord [] = Unit {0}
IsNoWord (p ∷ ps) = items_of (p ∷ ps) ≡ None

-- the parts of a line are put into an empty list
abbrev pub Splits : {U : Type 0} → List ℕ → Result U LineError → List Part → Type 0
Splits line (Ok u) parts = parts_of line ≡ Some parts
Splits line (Err Bad) parts = parts_of line ≡ None
Splits line (Err NoMemoryForLine) parts = Unit {0}

-- a part, if there is one, before those that are read after it; None if these are refused
abbrev pub with_optional : Option Part → Option (List Part) → Option (List Part)
with_optional None ps = ps
with_optional (Some p) ps = with_part p ps

-- the first part: an optional part and the number of bytes that it takes, if the whole text has the parts `whole`
abbrev pub ReadsFirst : Option (List Part) → List ℕ → Option (Option Part × ℕ) → Type 0
ReadsFirst whole text None = whole ≡ None
ReadsFirst whole text (Some r) = (whole ≡ with_optional r.0 (parts_of (drop r.1 text))) × (0 < r.1) × (r.1 ≤ length text)

-- the letters or digits that go on in a text, and their count
abbrev pub ReadsRun : (ArrayVec ℕ → Option Part) → Option (List Part) → List ℕ → Option (ArrayVec ℕ × ℕ) → Type 0
ReadsRun part whole text None = whole ≡ None
ReadsRun part whole text (Some r) = (whole ≡ with_found (part r.0) (parts_of (drop r.1 text))) × (r.1 ≤ length text)

-- the items of a line, or of a part of it, are put after the others
abbrev pub Pushes : {U : Type 0} → Option (List Entry) → List Item → Result U LineError → List Item → Type 0
Pushes wanted old (Ok u) new = option_map (λ es. map entry_of old ++ es) wanted ≡ Some (map entry_of new)
Pushes wanted old (Err Bad) new = wanted ≡ None
Pushes wanted old (Err NoMemoryForLine) new = Unit {0}

-- the lines after the first one, which begin at a place of the text, if there are any
abbrev pub lines_at : Option ℕ → List ℕ → List (List ℕ)
lines_at None text = []
lines_at (Some n) text = split_lines (drop n text)

-- where the first line ends, and where the next one begins
abbrev pub FirstLine : List ℕ → ℕ × Option ℕ → Type 0
FirstLine text r = (split_lines text ≡ take r.0 text ∷ lines_at r.1 text) × (r.0 ≤ length text) × IfSome r.1 (λ n. (0 < n) × (n ≤ length text))

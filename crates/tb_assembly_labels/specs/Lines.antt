-- Label files: a line for each label, `al C:c000 .loop`. A label is said by its address and its name.
use Rattle.std.specs.Prelude.{◌≡◌, ℕ, ◌+◌, ◌-◌, ◌*◌, ◌==◌, ◌&&◌, Bool, nat_le, List, [], ◌∷◌, ◌++◌, map, Option, Some, None, Result, Ok, Err, if◌then◌else◌, string_bytes}
use Rattle.std.specs.List.{list_all}
use Rattle.std.specs.Option.{option_and_then}
use Rattle.std.specs.declared.alloc.Global.{Global}
use Rattle.std.specs.declared.vec.Vec.{Vec}
use Rattle.tb_basic_text.specs.Lines.{lines_of_file}
use Rattle.tb_assembly_labels.specs.declared.labels.Label.{Label}
use Rattle.tb_assembly_labels.specs.declared.labels.LabelsError.{LabelsError}
use Rattle.tb_assembly_labels.specs.declared.labels.LabelsError.TheVariants.{Line, NoMemory}

-- a label that was read
abbrev pub pair_of : Label → ℕ × List ℕ
pair_of l = (l.address, string_bytes l.name)

-- ---- a line

-- the value of a hexadecimal digit, in either case
abbrev pub digit : ℕ → Option ℕ
digit b =
    if nat_le 48 b && nat_le b 57 then Some (b - 48)
    else if nat_le 65 b && nat_le b 70 then Some (b - 65 + 10)
    else if nat_le 97 b && nat_le b 102 then Some (b - 97 + 10)
    else None

-- the address that four digits spell
abbrev pub address : ℕ → ℕ → ℕ → ℕ → Option ℕ
address a b c d =
    option_and_then (λ p. option_and_then (λ q. option_and_then (λ r. option_and_then (λ s. Some (4096 * p + 256 * q + 16 * r + s)) (digit d)) (digit c)) (digit b)) (digit a)

-- a byte of a name: a character of ASCII that is shown, but no space
abbrev pub is_name_byte : ℕ → Bool
is_name_byte b = nat_le 33 b && nat_le b 126

abbrev pub are_name_bytes : List ℕ → Bool
are_name_bytes bytes = list_all is_name_byte bytes

-- a name: one such byte or more
abbrev pub name : List ℕ → Option (List ℕ)
name [] = None
name (b ∷ bytes) = if are_name_bytes (b ∷ bytes) then Some (b ∷ bytes) else None

-- a name at an address, if both are there
abbrev pub named : Option ℕ → Option (List ℕ) → Option (ℕ × List ℕ)
named (Some at) (Some name) = Some (at, name)
named (Some at) None = None
named None name = None

-- what follows `C:`, or all if it isn't there
abbrev pub without_bank : List ℕ → List ℕ
without_bank (c ∷ colon ∷ rest) = if c == 67 && colon == 58 then rest else c ∷ colon ∷ rest
without_bank text = text

-- four digits, ` .` and a name
abbrev pub label_behind : List ℕ → Option (ℕ × List ℕ)
label_behind (a ∷ b ∷ c ∷ d ∷ space ∷ dot ∷ text) = if space == 32 && dot == 46 then named (address a b c d) (name text) else None
label_behind text = None

-- the label of a line: `al `, with `C:` or without, and these
abbrev pub label_in : List ℕ → Option (ℕ × List ℕ)
label_in (a ∷ l ∷ space ∷ text) = if a == 97 && l == 108 && space == 32 then label_behind (without_bank text) else None
label_in text = None

-- ---- a file

-- labels with one more after them, if there is one
abbrev pub one_more : List (ℕ × List ℕ) → Option (ℕ × List ℕ) → Option (List (ℕ × List ℕ))
one_more labels (Some l) = Some (labels ++ l ∷ [])
one_more labels None = None

-- the labels after one more line: an empty one says nothing, any other one must be a label
abbrev pub after_line : List (ℕ × List ℕ) → List ℕ → Option (List (ℕ × List ℕ))
after_line labels [] = Some labels
after_line labels (b ∷ line) = one_more labels (label_in (b ∷ line))

-- what follows a good line; the number of a bad one
abbrev pub or_bad : ℕ → (List (ℕ × List ℕ) → Result (List (ℕ × List ℕ)) ℕ) → Option (List (ℕ × List ℕ)) → Result (List (ℕ × List ℕ)) ℕ
or_bad n next (Some labels) = next labels
or_bad n next None = Err n

-- labels and those of lines from number n on, in their order, or the number of the first bad line
abbrev pub labels_from : ℕ → List (ℕ × List ℕ) → List (List ℕ) → Result (List (ℕ × List ℕ)) ℕ
labels_from n labels [] = Ok labels
labels_from n labels (line ∷ lines) = or_bad n (λ more. labels_from (n + 1) more lines) (after_line labels line)

-- the labels of a file, or the number of its first bad line
abbrev pub labels_of : List ℕ → Result (List (ℕ × List ℕ)) ℕ
labels_of text = labels_from 1 [] (lines_of_file text)

-- ---- reading

-- what taking one label more comes to
abbrev pub TakesLine : ℕ → Option (ℕ × List ℕ) → List (ℕ × List ℕ) → Result (Unit {0}) LabelsError → List (ℕ × List ℕ) → Type 0
TakesLine n label old (Ok done) new = one_more old label ≡ Some new
TakesLine n label old (Err (Line bad)) new = (bad ≡ n) × (one_more old label ≡ None)
TakesLine n label old (Err NoMemory) new = Unit {0}

-- what reading a file comes to
abbrev pub Reads : List ℕ → Result (Vec Label Global) LabelsError → Type 0
Reads text (Ok labels) = labels_of text ≡ Ok (map pair_of labels.items)
Reads text (Err (Line bad)) = labels_of text ≡ Err bad
Reads text (Err NoMemory) = Unit {0}

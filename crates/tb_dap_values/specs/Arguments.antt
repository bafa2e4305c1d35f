-- Arguments, as requests give them.
use Rattle.std.specs.Prelude.{ℕ, ℤ, pos, Bool, List, Option, Some, None, option_and_then, option_map}
use Rattle.serde_json.specs.Data.{Data, Items}
use Rattle.serde_json.specs.Find.{as_array, as_bool, as_i64, as_number, as_str, as_u64, get}

-- a text that is a member of a value
abbrev pub text_in : Data → List ℕ → Option (List ℕ)
text_in d name = option_and_then as_str (get name d)

-- a list that is one
abbrev pub list_in : Data → List ℕ → Option Items
list_in d name = option_and_then as_array (get name d)

-- a flag, if it is there; else what it usually is
abbrev pub flag_by : Option Data → Bool → Option Bool
flag_by (Some d) usual = as_bool d
flag_by None usual = Some usual

-- a flag that is a member of a value
abbrev pub flag_in : Data → List ℕ → Bool → Option Bool
flag_in d name usual = flag_by (get name d) usual

-- a number from 0, if it is there; else what it usually is
abbrev pub number_by : Option Data → ℕ → Option ℕ
number_by (Some d) usual = option_and_then as_u64 (as_number d)
number_by None usual = Some usual

-- a number from 0 that is a member of a value
abbrev pub number_in : Data → List ℕ → ℕ → Option ℕ
number_in d name usual = number_by (get name d) usual

-- a number of either sign, if it is there; else 0
abbrev pub offset_by : Option Data → Option ℤ
offset_by (Some d) = option_and_then as_i64 (as_number d)
offset_by None = Some (pos 0)

-- a number of either sign that is a member of a value
abbrev pub offset_in : Data → List ℕ → Option ℤ
offset_in d name = offset_by (get name d)

-- a text, if it is there
abbrev pub text_by : Option Data → Option (Option (List ℕ))
text_by (Some d) = option_map (λ t. Some t) (as_str d)
text_by None = Some None

-- a text that may be a member of a value
abbrev pub optional_text : Data → List ℕ → Option (Option (List ℕ))
optional_text d name = text_by (get name d)

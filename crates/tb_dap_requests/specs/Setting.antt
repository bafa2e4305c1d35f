-- Breakpoints and watches that are set, and what is answered.
use Rattle.std.specs.Prelude.{ℕ, ◌+◌, ◌-◌, ◌^◌, ◌||◌, ◌&&◌, min, Bool, true, false, not, nat_le, List, [], ◌∷◌, codes, length, map, replicate}
use Rattle.std.specs.Prelude.{Option, Some, None, option_and_then, option_map, if◌then◌else◌}
use Rattle.std.specs.Option.{is_some}
use Rattle.std.specs.Str.{bytes_eq}
use Rattle.serde_json.specs.Data.{Data, Items, item, no_items}
use Rattle.serde_json.specs.Find.{as_number, as_u64, get}
use Rattle.serde_json.specs.View.{items_of}
use Rattle.tb_dap_values.specs.Arguments.{list_in, optional_text, text_in}
use Rattle.tb_dap_values.specs.Stops.{breakpoints_body, unverified_value, verified_value, watched_value}
use Rattle.tb_dap_views.specs.Sources.{breakable, source_of}
use Rattle.tb_dap_views.specs.declared.sources.Breakable.{Breakable}
use Rattle.tb_dap_views.specs.declared.sources.SourceFile.{SourceFile}
use Rattle.std.specs.declared.alloc.Global.{Global}
use Rattle.std.specs.declared.vec.Vec.{Vec}
use Rattle.tb_words.specs.Letters.{letter_index}
use Rattle.tb_words.specs.declared.Letter.{Letter}
use Rattle.tb_dap_requests.specs.declared.setting.Breakpoints.{Breakpoints}
use Rattle.tb_dap_requests.specs.declared.setting.Wanted.{Wanted}
use Rattle.tb_dap_requests.specs.declared.setting.TheConstants.{ANOTHER_FILE, NO_CONDITIONS, NO_LINE, ONLY_WRITES}

-- a value has a member
abbrev pub has : Data → List ℕ → Bool
has d name = is_some (get name d)

-- a breakpoint breaks only under a condition, or is to say something
abbrev pub is_special : Data → Bool
is_special d = has d (codes "condition") || (has d (codes "hitCondition") || has d (codes "logMessage"))

-- a breakpoint at a line of the file
abbrev pub wanted : ℕ → Bool → Wanted
wanted line special = record { line = line; is_special = special }

-- a breakpoint that is asked for; none where it has another form
abbrev pub wanted_in : Data → Option Wanted
wanted_in d = option_map (λ line. wanted line (is_special d)) (option_and_then (λ v. option_and_then as_u64 (as_number v)) (get (codes "line") d))

-- one before others, if all have the form
abbrev pub before : Option Wanted → Option (List Wanted) → Option (List Wanted)
before (Some w) (Some ws) = Some (w ∷ ws)
before _ _ = None

-- the breakpoints that are asked for; none where one has another form
abbrev pub all_wanted : List Data → Option (List Wanted)
all_wanted [] = Some []
all_wanted (d ∷ ds) = before (wanted_in d) (all_wanted ds)

-- the values of a list
abbrev pub values_in : Items → List Data
values_in no_items = []
values_in (item d ds) = d ∷ values_in ds

-- the path of a file
abbrev pub path_in : Data → Option (List ℕ)
path_in d = option_and_then (λ s. text_in s (codes "path")) (get (codes "source") d)

-- a file, and the breakpoints that are asked for in it
pub record Asked : Type 0 where
  pub path : List ℕ
  pub lines : List Wanted

abbrev pub asked : List ℕ → List Wanted → Asked
asked path lines = record { path = path; lines = lines }

abbrev pub asked_of : Breakpoints → Asked
asked_of b = asked b.path.now b.lines.items

-- a file and the breakpoints that are asked for in it, by its path and a list, if there are both
abbrev pub asked_by : Option (List ℕ) → Option Items → Option Asked
asked_by (Some path) (Some values) = option_map (λ lines. asked path lines) (all_wanted (values_in values))
asked_by _ _ = None

-- the breakpoints that are asked for; none where the arguments have another form
abbrev pub breakpoints_in : Data → Option Asked
breakpoints_in d = asked_by (path_in d) (list_in d (codes "breakpoints"))

-- ---- answers

-- the line of the program at which a breakpoint breaks
abbrev pub spot_of : SourceFile → Wanted → Option Breakable
spot_of f w = if w.is_special then None else breakable f (min (w.line - 1) (length f.source.lines.items))

-- the line of a spot before others
abbrev pub with_line : Option Breakable → List ℕ → List ℕ
with_line (Some b) lines = b.number ∷ lines
with_line None lines = lines

-- the lines of the program at which breakpoints break
abbrev pub lines_of : SourceFile → List Wanted → List ℕ
lines_of f [] = []
lines_of f (w ∷ ws) = with_line (spot_of f w) (lines_of f ws)

-- a breakpoint that breaks nowhere, and why
abbrev pub nowhere : Bool → Data
nowhere special =
    if special then unverified_value NO_CONDITIONS.now
    else unverified_value NO_LINE.now

-- the line of a file at a place, as far as a number of 64 bits goes
abbrev pub line_of : ℕ → ℕ
line_of place = min (place + 1) (2 ^ 64 - 1)

-- a breakpoint as it is answered: where it breaks, or why nowhere
abbrev pub spot_value : SourceFile → Wanted → Option Breakable → Data
spot_value f w (Some b) = verified_value b.number (line_of b.place) (source_of f)
spot_value f w None = nowhere w.is_special

-- breakpoints, as they are answered
abbrev pub placed_value : SourceFile → Wanted → Data
placed_value f w = spot_value f w (spot_of f w)

abbrev pub placed_body : SourceFile → List Wanted → Data
placed_body f ws = breakpoints_body (items_of (map (placed_value f) ws))

-- so many breakpoints of another file
abbrev pub elsewhere_body : ℕ → Data
elsewhere_body n = breakpoints_body (items_of (replicate n (unverified_value ANOTHER_FILE.now)))

-- ---- watches

-- the index of the letter that a byte is, as a capital
abbrev pub capital_by : ℕ → Option ℕ
capital_by b = if nat_le 65 b && nat_le b 90 then Some (b - 65) else None

-- the index of the letter that a text is, as one capital
abbrev pub capital_in : List ℕ → Option ℕ
capital_in (b ∷ []) = capital_by b
capital_in _ = None

abbrev pub capital : Option (List ℕ) → Option ℕ
capital text = option_and_then capital_in text

-- a watch is of writes
abbrev pub is_of_writes : Option (Option (List ℕ)) → Bool
is_of_writes (Some (Some kind)) = bytes_eq kind (codes "write")
is_of_writes (Some None) = true
is_of_writes None = false

-- a watch is under no condition
abbrev pub is_plain : Data → Bool
is_plain d = is_of_writes (optional_text d (codes "accessType")) && not (has d (codes "condition") || has d (codes "hitCondition"))

-- the variable that a watch is of, by its index in the alphabet
abbrev pub watch_in : Data → Option ℕ
watch_in d = if is_plain d then capital (text_in d (codes "dataId")) else None

-- the variables of the watches that are asked for, by their indices in the alphabet
abbrev pub watches_in : Data → Option (List (Option ℕ))
watches_in d = option_map (λ values. map watch_in (values_in values)) (list_in d (codes "breakpoints"))

-- the index of a variable in the alphabet, if it is one
abbrev pub index_of : Option Letter → Option ℕ
index_of w = option_map letter_index w

-- the index of each of these variables in the alphabet, if it is one
abbrev pub indices_of : Vec (Option Letter) Global → List (Option ℕ)
indices_of ws = map index_of ws.items

-- a variable before others, if it is one
abbrev pub with_letter : Option Letter → List Letter → List Letter
with_letter (Some w) letters = w ∷ letters
with_letter None letters = letters

-- the variables that are watched
abbrev pub letters_of : List (Option Letter) → List Letter
letters_of [] = []
letters_of (w ∷ ws) = with_letter w (letters_of ws)

-- a watch as it is answered
abbrev pub watch_value : Option Letter → Data
watch_value (Some w) = watched_value
watch_value None = unverified_value ONLY_WRITES.now

-- the watches, as they are answered
abbrev pub watched_body : List (Option Letter) → Data
watched_body ws = breakpoints_body (items_of (map watch_value ws))

-- What arguments of `initialize` and `launch` ask for.
use Rattle.std.specs.Prelude.{ℕ, ◌&&◌, Bool, true, false, nat_le, List, [], codes, Option, Some, None, option_and_then, option_map, if◌then◌else◌}
use Rattle.std.specs.Option.{option_map_or}
use Rattle.std.specs.Str.{bytes_eq}
use Rattle.serde_json.specs.Data.{Data}
use Rattle.serde_json.specs.Find.{as_number, as_u64, get}
use Rattle.tb_dap_values.specs.Arguments.{flag_in, number_in, optional_text, text_in}
use Rattle.tb_compiled.specs.declared.settings.SizeLimit.{SizeLimit}
use Rattle.tb_basic_text.specs.declared.notation.Notation.{Notation}
use Rattle.tb_basic_text.specs.declared.notation.Notation.TheVariants.{Plain, Signs}
use Rattle.tb_compiled.specs.declared.settings.SizeLimit.TheVariants.{Cost, Memory}
use Rattle.tb_debug.specs.declared.rom.Rom.{Rom}
use Rattle.tb_debug.specs.declared.rom.Rom.TheVariants.{Quiet, Rude}
use Rattle.tb_engines.specs.Numbers.{MOST_EVENTS, USUAL_EVENTS}
use Rattle.tb_dap_requests.specs.declared.launching.Launch.{Launch}
use Rattle.tb_dap_requests.specs.declared.launching.Plan.{Plan}
use Rattle.tb_dap_requests.specs.declared.launching.Usual.{Usual}
use Rattle.tb_dap_requests.specs.declared.launching.Manner.{Manner}

-- a seed
abbrev pub seed_by : ℕ → Option ℕ
seed_by n = if nat_le n 65535 then Some n else None

-- the first state of RND, if it is given
abbrev pub seed_given : Option Data → Option (Option ℕ)
seed_given (Some d) = option_map Some (option_and_then seed_by (option_and_then as_u64 (as_number d)))
seed_given None = Some None

-- whether the seed is to be the clock's
abbrev pub is_by_clock : Data → Bool
is_by_clock d = option_map_or (λ text. bytes_eq text (codes "time")) (text_in d (codes "seed")) false

-- the clock's seed, if that is asked for
abbrev pub drawn_in : Option ℕ → Data → Option ℕ
drawn_in clock d = if is_by_clock d then clock else None

-- the first state of RND, if it is given; without a clock there is no seed by it
abbrev pub seed_in : Option ℕ → Data → Option (Option ℕ)
seed_in clock d = if is_by_clock d then option_map Some clock else seed_given (get (codes "seed") d)

-- when a program is too large: by what it costs, or only if it doesn't fit the memory
abbrev pub size_by : Bool → SizeLimit
size_by fit = if fit then Memory else Cost

-- how texts are read: with signs, or without
abbrev pub notation_by : Bool → Notation
notation_by petscii = if petscii then Signs else Plain

-- whether texts have signs in a notation
abbrev pub has_signs : Notation → Bool
has_signs Plain = false
has_signs Signs = true

-- how the program is to be compiled
abbrev pub manner_by : Option ℕ → Bool → Bool → Manner
manner_by seed fit petscii = record { seed = seed; size = size_by fit; notation = notation_by petscii }

-- how arguments ask for the program to be compiled: in the usual notation, if nothing else is asked for
abbrev pub manner_in : Usual → Data → Option Manner
manner_in usual d =
    option_and_then (λ seed. option_and_then (λ fit. option_map (λ petscii. manner_by seed fit petscii)
    (flag_in d (codes "petscii") (has_signs usual.notation))) (flag_in d (codes "fit") true)) (seed_in usual.clock d)

-- a rude ROM
abbrev pub rude_by : ℕ → Option Rom
rude_by n = option_map (λ seed. Rude seed) (seed_by n)

-- the ROM: a quiet one, if no seed is given
abbrev pub rom_by : Option Data → Option Rom
rom_by (Some d) = option_and_then rude_by (option_and_then as_u64 (as_number d))
rom_by None = Some Quiet

abbrev pub rom_in : Data → Option Rom
rom_in d = rom_by (get (codes "rude") d)

-- a limit
abbrev pub limit_by : ℕ → Option ℕ
limit_by n = if nat_le 1 n && nat_le n MOST_EVENTS then Some n else None

-- how many events a movement takes at most
abbrev pub limit_in : Data → Option ℕ
limit_in d = option_and_then limit_by (number_in d (codes "limit") USUAL_EVENTS)

-- how a run is debugged
abbrev pub plan_by : ℕ → Bool → Bool → Option ℕ → Plan
plan_by limit entry plain drawn = record { limit = limit; stops_on_entry = entry; is_plain = plain; drawn = drawn }

abbrev pub plan_in : Option ℕ → Data → Option Plan
plan_in clock d =
    option_and_then (λ limit. option_and_then (λ entry. option_map (λ plain. plan_by limit entry plain (drawn_in clock d))
    (flag_in d (codes "noDebug") false)) (flag_in d (codes "stopOnEntry") false)) (limit_in d)

-- a text that may be left out
abbrev pub digits_by : Option (Option (List ℕ)) → Option (List ℕ)
digits_by (Some (Some text)) = Some text
digits_by (Some None) = Some []
digits_by None = None

abbrev pub digits_in : Data → List ℕ → Option (List ℕ)
digits_in d name = digits_by (optional_text d name)

-- a path that isn't that of standard input, from which messages come
abbrev pub path_by : List ℕ → Option (List ℕ)
path_by path = if bytes_eq path (codes "-") then None else Some path

abbrev pub path_in : Data → Option (List ℕ)
path_in d = option_and_then path_by (text_in d (codes "program"))

-- what is launched: the program, how it is to be compiled, the ROM, what the keyboard gives in hexadecimal digits, and the plan
pub record Asked : Type 0 where
  pub path : List ℕ
  pub manner : Manner
  pub rom : Rom
  pub keys : List ℕ
  pub answers : List ℕ
  pub plan : Plan

-- what is launched, by each of its parts
abbrev pub asked : (path : List ℕ) → Manner → Rom → (keys answers : List ℕ) → Plan → Asked
asked path manner rom keys answers plan =
    record { path = path; manner = manner; rom = rom; keys = keys; answers = answers; plan = plan }

abbrev pub asked_of : Launch → Asked
asked_of l = asked l.path.now l.manner l.rom l.keys.now l.answers.now l.plan

-- what arguments ask for, of an adapter that has this for a launch
abbrev pub launch_in : Usual → Data → Option Asked
launch_in usual d =
    option_and_then (λ path. option_and_then (λ manner. option_and_then (λ rom. option_and_then (λ keys. option_and_then (λ answers.
    option_map (λ plan. asked path manner rom keys answers plan)
    (plan_in usual.clock d)) (digits_in d (codes "answers"))) (digits_in d (codes "keys"))) (rom_in d)) (manner_in usual d)) (path_in d)

-- a flag has its usual value, which is true
abbrev pub is_usual : Option Bool → Bool
is_usual (Some flag) = flag
is_usual None = false

-- paths are named as paths
abbrev pub names_paths : Option (Option (List ℕ)) → Bool
names_paths (Some (Some form)) = bytes_eq form (codes "path")
names_paths (Some None) = true
names_paths None = false

-- a client counts lines and columns from 1, and names files by paths
abbrev pub is_understood : Data → Bool
is_understood d =
    is_usual (flag_in d (codes "linesStartAt1") true)
    && (is_usual (flag_in d (codes "columnsStartAt1") true) && names_paths (optional_text d (codes "pathFormat")))

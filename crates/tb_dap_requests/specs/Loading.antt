-- Programs that are loaded as they are launched.
use Rattle.std.specs.Prelude.{ℕ, ◌≡◌, ◌⊎◌, nat_lt, Bool, true, false, is_err, unwrap_or, List, [], ◌∷◌, ◌++◌, codes, map, string_bytes, Option, Some, None, Result, Ok, Err, if◌then◌else◌}
use Rattle.std.specs.Fmt.{decimal}
use Rattle.std.specs.Option.{option_or}
use Rattle.std.specs.declared.alloc.Global.{Global}
use Rattle.std.specs.declared.vec.Vec.{Vec}
use Rattle.hex.specs.Hex.{decode_of}
use Rattle.tb_dap_messages.specs.Refusals.{text_of}
use Rattle.tb_dap_messages.specs.declared.refusals.Refusal.{Refusal}
use Rattle.tb_dap_messages.specs.declared.refusals.Refusal.TheVariants.{BadKeys, ReadFault}
use Rattle.tb_engine_findings.specs.Findings.{AreFindings}
use Rattle.tb_engine_findings.specs.declared.examination.Findings.{Findings}
use Rattle.tb_engine_findings.specs.Fitted.{TellsFits, excess_in}
use Rattle.tb_engine_check.specs.Options.{settings_for}
use Rattle.tb_engine_check.specs.Reports.{told_of}
use Rattle.tb_compiled.specs.Compiled.{prg_of}
use Rattle.tb_compiled.specs.Numbers.{USUAL_SEED}
use Rattle.tb_compiled.specs.declared.settings.SizeLimit.TheVariants.{Memory}
use Rattle.tb_basic_options.specs.Options.{notation_by, notation_for, options_of}
use Rattle.tb_basic_options.specs.declared.options.OwnOptions.{OwnOptions}
use Rattle.tb_compiled.specs.declared.settings.CompileSettings.{CompileSettings}
use Rattle.tb_engine_findings.specs.declared.settings.CheckSettings.{CheckSettings}
use Rattle.tb_compiled_errors.specs.declared.refusals.CompileError.{CompileError}
use Rattle.tb_compiled_errors.specs.declared.refusals.CompileError.TheVariants as compile_error
use Rattle.tb_compiled.specs.Answers.{Compiles}
use Rattle.tb_engine_sources.specs.declared.reading.CompiledSource.{CompiledSource}
use Rattle.tb_engines.specs.Programs.{StartsPrg}
use Rattle.tb_engines.specs.Texts as texts
use Rattle.tb_engines.specs.declared.delivery.NoText.TheVariants.{Refused as Unstartable}
use Rattle.tb_engines.specs.declared.outcome.Refusal.{Refusal as StartRefusal}
use Rattle.tb_kernal.specs.declared.machine.Keyboard.{Keyboard}
use Rattle.tb_basic_meaning.specs.declared.needs.LowerError.TheVariants.{TooDeep, NoMemory as NoLowerMemory}
use Rattle.tb_editor_navigation.specs.Remarks.{shown}
use Rattle.tb_parser.specs.declared.errors.SourceError.{SourceError}
use Rattle.tb_engine_streams.specs.declared.stream.InputError.{InputError}
use Rattle.tb_engine_streams.specs.declared.stream.InputError.TheVariants as input_error
use Rattle.tb_dap_requests.specs.Launching.{Asked}
use Rattle.tb_dap_requests.specs.declared.launching.Manner.{Manner}
use Rattle.tb_dap_requests.specs.Said.{Saying, output_of, refused, seen}
use Rattle.tb_dap_requests.specs.declared.loading.Compiling.{Compiling}
use Rattle.tb_dap_requests.specs.declared.loading.Compiling.TheVariants.{Fit, Unfit}
use Rattle.tb_dap_requests.specs.declared.loading.Loaded.{Loaded}
use Rattle.tb_dap_requests.specs.declared.loading.Loading.{Loading}
use Rattle.tb_dap_requests.specs.declared.loading.Loading.TheVariants as loading
use Rattle.tb_compiled.specs.Promise.{Own}
use Rattle.tb_engine_streams.specs.declared.outcome.TheConstants.{OUT_OF_MEMORY}

-- a text that is held is read, if there is memory for it
abbrev pub IsHeld : List ℕ → Result (List ℕ) InputError → Type 0
IsHeld text (Ok given) = given ≡ text
IsHeld text (Err e) = e ≡ input_error.NoMemory

-- ---- refusals of sources

-- why a line of a source is refused, or the whole of it
abbrev pub source_error_text : SourceError → List ℕ
source_error_text e =
    if nat_lt 0 e.line then decimal e.line ++ (codes ":" ++ (decimal e.column ++ (codes ": " ++ texts.source_text e.kind)))
    else texts.source_text e.kind

-- what is said of an expression that is too deep
abbrev pub too_deep_text : ℕ → List ℕ
too_deep_text line = codes "line " ++ (decimal line ++ (codes ": " ++ texts.too_deep_text))

-- why a source is refused, as `run` says it
abbrev pub error_text : CompileError → List ℕ
error_text (compile_error.Source e) = source_error_text e
error_text (compile_error.Lower (TooDeep line)) = too_deep_text line
error_text (compile_error.Lower NoLowerMemory) = OUT_OF_MEMORY.now
error_text (compile_error.TooLarge cost) = texts.too_large_text cost
error_text compile_error.NoMemory = OUT_OF_MEMORY.now

-- how a source is compiled, by what is asked for and by its options: a seed that is asked for goes before its own
abbrev pub settings_by : Manner → OwnOptions → CompileSettings
settings_by m o = record {
  seed = unwrap_or (option_or m.seed o.seed) USUAL_SEED;
  size = if o.fit then Memory else m.size;
  notation = notation_by m.notation o;
}

-- how a source is compiled, by what is asked for and by the options that the source has
abbrev pub compile_settings : Manner → List ℕ → CompileSettings
compile_settings m source = settings_by m (options_of source)

-- how a source is checked that is compiled like this
abbrev pub check_settings : CompileSettings → CheckSettings
check_settings settings = record { size = settings.size; notation = settings.notation }

-- what `check` says of a source under its path: of all that is found in it, and whether the memory holds it
abbrev pub IsReport : Own → CheckSettings → (path text said : List ℕ) → Type 0
IsReport own settings path text said =
    (found : Findings) × (fits : Bool) × AreFindings own (settings_for settings text) text found
    × TellsFits own (settings_for settings text).notation text (excess_in found) fits
    × (said ≡ told_of path text found fits)

-- what `check` says of a source, and then the refusal
abbrev pub IsUnfit : Own → CheckSettings → (path text : List ℕ) → CompileError → List Saying → Type 0
IsUnfit own settings path text e told =
    (said : List ℕ) × IsReport own settings path text said × (told ≡ output_of (codes "stderr") (shown said) ∷ refused (error_text e) true ∷ [])

-- what comes of compiling a source at a path
abbrev pub CompilesTo : Own → CompileSettings → (path text : List ℕ) → Compiling → Type 0
CompilesTo own settings path text (Fit s) = (s.text.items ≡ text) × Compiles own settings text (Ok s.program)
CompilesTo own settings path text (Unfit told) = (e : CompileError) × Compiles own settings text (Err e) × IsUnfit own (check_settings settings) path text e (map seen told.items)

-- ---- loading

-- what a keyboard gives by hexadecimal digits; none where they spell nothing
abbrev pub IsKeyboard : (keys answers : List ℕ) → Option Keyboard → Type 0
IsKeyboard keys answers (Some k) = (decode_of keys ≡ Ok k.text.items) × (decode_of answers ≡ Ok k.answers.items)
IsKeyboard keys answers None = (is_err (decode_of keys) ≡ true) ⊎ (is_err (decode_of answers) ≡ true)

-- a launch is refused
abbrev pub IsRefused : Refusal → Loading → Type 0
IsRefused refusal (loading.Unloaded told) = map seen told.items ≡ refused (text_of refusal) false ∷ []
IsRefused refusal (loading.Loaded l) = ⊥

-- what was asked for is loaded
pub record IsLoaded (a : Asked) (text answers : List ℕ) (s : CompiledSource) (l : Loaded) : Type 0 where
  pub path : string_bytes l.path ≡ a.path
  pub source : l.source ≡ s
  pub notation : l.notation ≡ notation_for a.manner.notation s.text.items
  pub machine : StartsPrg text answers (prg_of s.program) (Ok l.machine)
  pub rom : l.rom ≡ a.rom
  pub plan : l.plan ≡ a.plan

-- what comes of starting the machine of a program
abbrev pub Starts : Asked → (text answers : List ℕ) → CompiledSource → Loading → Type 0
Starts a text answers s (loading.Loaded l) = IsLoaded a text answers s l
Starts a text answers s (loading.Unloaded told) =
    (why : StartRefusal) × StartsPrg text answers (prg_of s.program) (Err (Unstartable why)) × IsRefused ReadFault (loading.Unloaded told)

-- what comes of a source that was read
abbrev pub Compiled : Own → Asked → (text answers source : List ℕ) → Loading → Type 0
Compiled own a text answers source l =
    ((s : CompiledSource) × CompilesTo own (compile_settings a.manner source) a.path source (Fit s) × Starts a text answers s l)
    ⊎ ((told : Vec _ Global) × CompilesTo own (compile_settings a.manner source) a.path source (Unfit told) × (l ≡ loading.Unloaded told))

-- what comes of reading one
abbrev pub ReadsTo : Own → Asked → (text answers : List ℕ) → Result (List ℕ) InputError → Loading → Type 0
ReadsTo own a text answers (Ok source) l = Compiled own a text answers source l
ReadsTo own a text answers (Err e) l = (e ≡ input_error.Fault) × IsRefused ReadFault l

abbrev pub Reads : {S : Type 0} → Own → (S → List ℕ → Result (List ℕ) InputError → S → Type 0) → Asked → (text answers : List ℕ) → S → Loading → S → Type 0
Reads own reads a text answers s l t = (given : Result (List ℕ) InputError) × reads s a.path given t × ReadsTo own a text answers given l

-- what comes of a launch
abbrev pub Loads : {S : Type 0} → Own → (S → List ℕ → Result (List ℕ) InputError → S → Type 0) → Asked → S → Loading → S → Type 0
Loads own reads a s l t =
    ((k : Keyboard) × IsKeyboard a.keys a.answers (Some k) × Reads own reads a k.text.items k.answers.items s l t)
    ⊎ (IsKeyboard a.keys a.answers None × (t ≡ s) × IsRefused BadKeys l)

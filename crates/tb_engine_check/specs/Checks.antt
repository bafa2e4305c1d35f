-- What comes of checking sources, one after the other.
use Rattle.std.specs.Prelude.{ℕ, ◌≡◌, ◌≢◌, ◌||◌, Bool, true, false, List, [], ◌∷◌, map, flat_map, take, slice_index_or, is_some, Option, Result, Ok, Err, if◌then◌else◌}
use Rattle.std.specs.List.{list_any}
use Rattle.std.specs.Io.KnownBytes.{Appends}
use Rattle.std.specs.declared.alloc.Global.{Global}
use Rattle.std.specs.declared.vec.Vec.{Vec}
use Rattle.tb_engine_streams.specs.Streams.{AppendsPrefix}
use Rattle.tb_engine_streams.specs.declared.stream.InputError.{InputError}
use Rattle.tb_engine_streams.specs.declared.stream.InputError.TheVariants.{Fault}
use Rattle.tb_engine_findings.specs.declared.settings.CheckSettings.{CheckSettings}
use Rattle.tb_engine_findings.specs.Findings.{AreFindings}
use Rattle.tb_engine_findings.specs.Fitted.{TellsFits, excess_in}
use Rattle.tb_engine_findings.specs.declared.examination.Findings.{Findings}
use Rattle.tb_engine_findings.specs.declared.examination.Findings.TheVariants as findings
use Rattle.tb_basic_options.specs.Options.{options_of}
use Rattle.tb_basic_options.specs.declared.options.BadWord.{BadWord}
use Rattle.tb_engine_check.specs.Options.{settings_for}
use Rattle.tb_engine_check.specs.Reports.{told_of}
use Rattle.tb_engine_check.specs.declared.engine.Marks.{Marks}
use Rattle.tb_engine_check.specs.declared.engine.Seen.{Seen}
use Rattle.tb_engine_check.specs.declared.engine.Seen.TheVariants as seen
use Rattle.tb_engine_check.specs.Outcomes.{CheckOutcome}
use Rattle.tb_engine_check.specs.declared.outcome.Checked.TheVariants as checked
use Rattle.tb_engine_streams.specs.declared.outcome.Outcome.TheVariants.{Ended, Refused, ReadFault, WriteFault, NoMemory}
use Rattle.tb_compiled.specs.Promise.{Own}

-- what reading a source gives, by its bytes
abbrev pub bytes_of : Result (Vec ℕ Global) InputError → Result (List ℕ) InputError
bytes_of (Ok source) = Ok source.items
bytes_of (Err e) = Err e

-- a source is not compiled
abbrev pub is_refused : Findings → Bool
is_refused (findings.BadLines lines) = true
is_refused findings.Empty = true
is_refused (findings.Refused deep too_large) = true
is_refused (findings.Accepted warnings) = false

-- a source is not compiled, or one of its own words is no option
abbrev pub is_faulty : Option BadWord → Findings → Bool
is_faulty bad found = is_some bad || is_refused found

-- ---- one source

-- what came of a source: it was read, and this was found, and whether the memory holds it, if it is refused for its size;
-- or it could not be read
pub data Look : Type 0 where
  Saw : List ℕ → Findings → Bool → Look
  Missed : Look

-- a source whose turn has come
pub record Turn : Type 0 where
  pub name : List ℕ
  pub look : Look

-- what is said of a source under a name
abbrev pub said_of : List ℕ → Look → List ℕ
said_of name (Saw source found fits) = told_of name source found fits
said_of name Missed = []

-- what is said of a source whose turn has come
abbrev pub said : Turn → List ℕ
said turn = said_of turn.name turn.look

-- a source that is not compiled, or has a word that is no option
abbrev pub is_refusal : Look → Bool
is_refusal (Saw source found fits) = is_faulty (options_of source).bad found
is_refusal Missed = false

-- a source that could not be read
abbrev pub is_miss : Look → Bool
is_miss (Saw source found fits) = false
is_miss Missed = true

-- a source was read by its name, and this is what is found in it; or reading it failed
abbrev pub IsLook : {S : Type 0} → Own → (S → List ℕ → Result (List ℕ) InputError → S → Type 0) → CheckSettings → S → List ℕ → Look → S → Type 0
IsLook own reads settings s name (Saw source found fits) t =
    reads s name (Ok source) t × AreFindings own (settings_for settings source) source found
    × TellsFits own (settings_for settings source).notation source (excess_in found) fits
IsLook own reads settings s name Missed t = reads s name (Err Fault) t

-- ---- all sources

-- sources were read one after the other
abbrev pub Looks : {S : Type 0} → Own → (S → List ℕ → Result (List ℕ) InputError → S → Type 0) → CheckSettings → S → List Turn → S → Type 0
Looks own reads settings s [] u = u ≡ s
Looks own reads settings s (turn ∷ turns) u = (t : _) × IsLook own reads settings s turn.name turn.look t × Looks own reads settings t turns u

-- the sources with these names were read one after the other, and what is said of each of them was written, in order
pub record Told {S : Type 0} (own : Own) (reads : S → List ℕ → Result (List ℕ) InputError → S → Type 0) (settings : CheckSettings) (s : S) (names : List (List ℕ)) (old : Option (List ℕ)) (t : S) (new : Option (List ℕ)) : Type 0 where
  pub turns : List Turn
  pub named : map (λ t. t.name) turns ≡ names
  pub looks : Looks own reads settings s turns t
  pub wrote : Appends old new (flat_map said turns)

-- what came of sources, all in all
abbrev pub marks_of : List Turn → Marks
marks_of turns =
    record { is_refused = list_any (λ t. is_refusal t.look) turns; is_unread = list_any (λ t. is_miss t.look) turns }

-- how a check ends: a source that could not be read comes before one that is not compiled
abbrev pub ending : Marks → CheckOutcome
ending m = if m.is_unread then ReadFault else if m.is_refused then Ended checked.Refused else Ended checked.Accepted

-- the sources up to the n-th were told of, and the n-th was read, or the attempt failed
abbrev pub name_at : List (List ℕ) → ℕ → List ℕ
name_at names n = slice_index_or names n []

-- What a check did, by how it ended. All sources were told of. Or the writer failed at what is said of the n-th one, of
-- which a prefix was written. Or memory ran out when the n-th one was read or looked at, of which nothing was written.
abbrev pub Checks : {S : Type 0} → Own → (S → List ℕ → Result (List ℕ) InputError → S → Type 0) → CheckSettings → S → List (List ℕ) → Option (List ℕ) → CheckOutcome → S → Option (List ℕ) → Type 0
Checks own reads settings s names old WriteFault t new =
    (n : ℕ) × (u : _) × (mid : Option (List ℕ)) × Told own reads settings s (take n names) old u mid
    × (look : Look) × IsLook own reads settings u (name_at names n) look t × AppendsPrefix mid new (said_of (name_at names n) look)
Checks own reads settings s names old NoMemory t new =
    (n : ℕ) × (u : _) × Told own reads settings s (take n names) old u new
    × (given : Result (List ℕ) InputError) × reads u (name_at names n) given t
Checks own reads settings s names old outcome t new =
    (told : Told own reads settings s names old t new) × (outcome ≡ ending (marks_of told.turns))

-- a write fault comes only if the writer failed in this call
abbrev pub WriteFaults : CheckOutcome → ℕ → ℕ → Type 0
WriteFaults WriteFault old new = new ≢ old
WriteFaults (Ended checked) old new = new ≡ old
WriteFaults (Refused never) old new = new ≡ old
WriteFaults ReadFault old new = new ≡ old
WriteFaults NoMemory old new = new ≡ old

-- ---- steps of the engine

-- what came of a source that was read, by its word that is no option and what is found
abbrev pub seen_by : Option BadWord → Findings → Seen
seen_by bad found = if is_faulty bad found then seen.Refused else seen.Accepted

-- what came of a source
abbrev pub seen_of : Look → Seen
seen_of (Saw source found fits) = seen_by (options_of source).bad found
seen_of Missed = seen.Unread

-- with what came of one more source
abbrev pub marked : Marks → Seen → Marks
marked m seen.Accepted = m
marked m seen.Refused = record (m) { is_refused = true }
marked m seen.Unread = record (m) { is_unread = true }

-- how a check stands after a source
abbrev pub outcome_of : Result Seen CheckOutcome → CheckOutcome
outcome_of (Ok seen) = Ended checked.Accepted
outcome_of (Err outcome) = outcome

-- a source was looked at, and told of as far as its writer took it
abbrev pub Tells : Own → CheckSettings → List ℕ → List ℕ → Result Seen CheckOutcome → Option (List ℕ) → Option (List ℕ) → Type 0
Tells own settings name source (Ok answer) old new =
    (found : Findings) × (fits : Bool) × AreFindings own (settings_for settings source) source found
    × TellsFits own (settings_for settings source).notation source (excess_in found) fits
    × Appends old new (told_of name source found fits) × (answer ≡ seen_of (Saw source found fits))
Tells own settings name source (Err WriteFault) old new =
    (found : Findings) × (fits : Bool) × AreFindings own (settings_for settings source) source found
    × TellsFits own (settings_for settings source).notation source (excess_in found) fits
    × AppendsPrefix old new (told_of name source found fits)
Tells own settings name source (Err NoMemory) old new = new ≡ old
Tells own settings name source (Err e) old new = ⊥

-- a source was looked at by its name, if it could be read, and told of as far as its writer took it
abbrev pub ChecksNext : {S : Type 0} → Own → (S → List ℕ → Result (List ℕ) InputError → S → Type 0) → CheckSettings → S → List ℕ → Option (List ℕ) → Result Seen CheckOutcome → S → Option (List ℕ) → Type 0
ChecksNext own reads settings s name old (Ok answer) t new =
    (look : Look) × IsLook own reads settings s name look t × Appends old new (said_of name look) × (answer ≡ seen_of look)
ChecksNext own reads settings s name old (Err WriteFault) t new =
    (look : Look) × IsLook own reads settings s name look t × AppendsPrefix old new (said_of name look)
ChecksNext own reads settings s name old (Err NoMemory) t new =
    (given : Result (List ℕ) InputError) × reads s name given t × (new ≡ old)
ChecksNext own reads settings s name old (Err e) t new = ⊥

-- What assembling does with files.
use Rattle.std.specs.Prelude.{◌≡◌, ◌⊎◌, ℕ, ◌+◌, ◌*◌, Bool, List, [], ◌∷◌, ◌++◌, length, map, Option, Some, None, option_map, Result, Ok, Err, ⊤, string_bytes}
use Rattle.std.specs.Borrow.{Bor}
use Rattle.tb_engine_files.specs.Checks.{Judges, put_of}
use Rattle.tb_engine_files.specs.Deeds.{BreaksOff, Deed, Saves, Did}
use Rattle.tb_engine_files.specs.declared.checks.Barred.TheVariants as barred
use Rattle.tb_engine_files.specs.declared.checks.Output.{Output}
use Rattle.tb_engine_files.specs.Looks.{code_kind}
use Rattle.tb_engine_files.specs.declared.looks.Kind.{Kind}
use Rattle.tb_engine_files.specs.declared.looks.Kind.TheVariants.{Labels, Listing}
use Rattle.tb_engine_files.specs.declared.looks.Look.{Look}
use Rattle.tb_engine_files.specs.declared.places.Place.{Place}
use Rattle.tb_engine_files.specs.declared.system.Trouble.TheVariants as trouble
use Rattle.tb_assembly_files.specs.Libraries.{Source}
use Rattle.tb_assembly_output.specs.Assembled.{Answers}
use Rattle.tb_assembly_output.specs.declared.assembling.Assembly.{Assembly}
use Rattle.tb_assembly_output.specs.declared.assembling.Manner.{Manner}
use Rattle.tb_assembly_output.specs.declared.assembling.Assembled.TheVariants as answer
use Rattle.tb_assembly_output.specs.declared.assembling.AssemblyError.TheVariants as error
use Rattle.tb_assembly_engine.specs.Gathering.{AsksFor, Gathers, LacksMemory, kept_of}
use Rattle.tb_assembly_engine.specs.Outcomes.{TextFailure}
use Rattle.tb_assembly_engine.specs.declared.outcome.TextRefusal.TheVariants.{Said, Item, TooManyFiles, SameFile, IsSource, Unlike}
use Rattle.tb_engine_streams.specs.declared.outcome.Outcome.TheVariants.{Ended, Refused, ReadFault, WriteFault, NoMemory}
use Rattle.tb_assembly_engine.specs.declared.saving.TextNames.{TextNames}

-- the load address of a PRG file, if it has one
abbrev pub load_address : List ℕ → Option ℕ
load_address (low ∷ high ∷ rest) = Some (low + 256 * high)
load_address prg = None

-- an output of a kind, if it is named
abbrev pub wanted : Kind → Option (List ℕ) → List (List ℕ × Kind)
wanted kind None = []
wanted kind (Some path) = (path, kind) ∷ []

-- all that is written, in order
abbrev pub outputs_of : TextNames → Assembly → List (List ℕ × Kind)
outputs_of names a =
    (names.out.now, code_kind names.out.now (load_address a.prg.items))
    ∷ wanted Labels (option_map (λ p. p.now) names.labels) ++ wanted Listing (option_map (λ p. p.now) names.listing)

-- a text is written to its path, if that is named
abbrev pub save_of : Option (List ℕ) → List ℕ → List Deed
save_of None text = []
save_of (Some path) text = Saves path text (Ok tt) ∷ []

-- all that is written, in order: the PRG file, the labels and the listing, each to its own path
abbrev pub saves_of : TextNames → Assembly → List Deed
saves_of names a =
    Saves names.out.now a.prg.items (Ok tt)
    ∷ save_of (option_map (λ p. p.now) names.labels) a.labels.items ++ save_of (option_map (λ p. p.now) names.listing) a.listing.items

-- this is made of the files that were read
abbrev pub IsMade : {F : Type 0} → (F → Deed → F → Type 0) → (F → List ℕ → Option (List ℕ) → Type 0) → List ℕ → F → Manner → List Source → Assembly → F → Type 0
IsMade does holds text f manner lib a g = Gathers does holds text f [] lib g × Answers manner lib (Ok (answer.Made a))

-- why nothing is made of files that were read
abbrev pub Fails : Manner → List Source → TextFailure → Type 0
Fails manner lib (Refused (Said text)) = Answers manner lib (Ok (answer.Refused text))
Fails manner lib (Refused (Item e)) = Answers manner lib (Err (error.Item e))
Fails manner lib (Refused TooManyFiles) = length lib ≡ 257
Fails manner lib (Refused SameFile) = ⊥
Fails manner lib (Refused (IsSource path)) = ⊥
Fails manner lib (Refused (Unlike path kind)) = ⊥
Fails manner lib ReadFault = Answers manner lib (Ok answer.Unread)
Fails manner lib WriteFault = ⊥
Fails manner lib (Ended never) = ⊥
Fails manner lib NoMemory = ⊤

-- files were read, and nothing is made of them
abbrev pub IsNotMade : {F : Type 0} → (F → Deed → F → Type 0) → (F → List ℕ → Option (List ℕ) → Type 0) → List ℕ → F → Manner → TextFailure → F → Type 0
IsNotMade does holds text f manner why g = (lib : List Source) × Gathers does holds text f [] lib g × Fails manner lib why

-- files were read, and memory ran out while one more was, or after that
abbrev pub RunsOut : {F : Type 0} → (F → Deed → F → Type 0) → (F → List ℕ → Option (List ℕ) → Type 0) → List ℕ → F → F → Type 0
RunsOut does holds text f g =
    (lib : List Source) × (h : _) × Gathers does holds text f [] lib h × (path : List ℕ) × AsksFor text lib path × LacksMemory does holds h path g

-- files were read, and nothing is made: by what was read, or since memory ran out
abbrev pub Stops : {F : Type 0} → (F → Deed → F → Type 0) → (F → List ℕ → Option (List ℕ) → Type 0) → List ℕ → F → Manner → TextFailure → F → Type 0
Stops does holds text f manner why g = IsNotMade does holds text f manner why g ⊎ ((why ≡ NoMemory) × RunsOut does holds text f g)

-- Whether files may be written, where others must be kept: it is not allowed to write one of those, one twice, a text of people
-- that is there, or a file that looks like something else, unless it is forced.
abbrev pub Permits : {F : Type 0} → (F → List ℕ → Place → Type 0) → (F → List ℕ → Option Look → Type 0)
    → F → List (List ℕ) → List Output → Bool → Result Unit TextFailure → Type 0
Permits leads shows f kept outputs is_forced (Ok u) = Judges leads shows f kept outputs is_forced (Ok u)
Permits leads shows f kept outputs is_forced (Err (Refused SameFile)) = Judges leads shows f kept outputs is_forced (Err barred.SameFile)
Permits leads shows f kept outputs is_forced (Err (Refused (IsSource path))) =
    (p : Bor (List ℕ)) × (string_bytes path ≡ p.now) × Judges leads shows f kept outputs is_forced (Err (barred.Source p))
Permits leads shows f kept outputs is_forced (Err (Refused (Unlike path kind))) =
    (o : Output) × (string_bytes path ≡ o.path.now) × (kind ≡ o.kind) × Judges leads shows f kept outputs is_forced (Err (barred.Unlike o))
Permits leads shows f kept outputs is_forced (Err NoMemory) = ⊤
Permits leads shows f kept outputs is_forced (Err e) = ⊥

-- whether all that is made of these files may be written
abbrev pub MayWrite : {F : Type 0} → (F → List ℕ → Place → Type 0) → (F → List ℕ → Option Look → Type 0)
    → F → List Source → TextNames → Assembly → Result Unit TextFailure → Type 0
MayWrite leads shows f lib names a (Err NoMemory) = ⊤
MayWrite leads shows f lib names a result =
    (outputs : List Output) × (map put_of outputs ≡ outputs_of names a) × Permits leads shows f (kept_of lib) outputs names.is_forced result

-- files are written, in order; it breaks off at one that can't be written
abbrev pub Puts : {F : Type 0} → (F → Deed → F → Type 0) → F → List Deed → Result Unit TextFailure → F → Type 0
Puts does f deeds (Ok u) g = Did does f deeds g
Puts does f deeds (Err WriteFault) g = BreaksOff does trouble.Fault f deeds g
Puts does f deeds (Err NoMemory) g = BreaksOff does trouble.NoMemory f deeds g
Puts does f deeds (Err e) g = ⊥

-- what is made is written, if it may be; else nothing is
abbrev pub Writes : {F : Type 0} → (F → List ℕ → Place → Type 0) → (F → List ℕ → Option Look → Type 0) → (F → Deed → F → Type 0)
    → F → List Source → TextNames → Assembly → Result Unit TextFailure → F → Type 0
Writes leads shows does f lib names a result g =
    ((why : TextFailure) × (result ≡ Err why) × (g ≡ f) × MayWrite leads shows f lib names a (Err why))
    ⊎ (MayWrite leads shows f lib names a (Ok tt) × Puts does f (saves_of names a) result g)

-- What assembling the text at a path did with files, by how it ended: the text was read with what it includes, and nothing is
-- made of it; or it is, and then all of it is written, if it may be.
abbrev pub Assembles : {F : Type 0} → (F → List ℕ → Place → Type 0) → (F → List ℕ → Option Look → Type 0) → (F → Deed → F → Type 0)
    → (F → List ℕ → Option (List ℕ) → Type 0) → List ℕ → F → Manner → TextNames → Result Unit TextFailure → F → Type 0
Assembles leads shows does holds text f manner names result g =
    ((why : TextFailure) × (result ≡ Err why) × Stops does holds text f manner why g)
    ⊎ ((lib : List Source) × (a : Assembly) × (h : _) × IsMade does holds text f manner lib a h × Writes leads shows does h lib names a result g)

-- What a build does with files.
use Rattle.std.specs.Prelude.{◌≡◌, ℕ, Bool, true, false, List, [], ◌∷◌, Option, Some, None, MatchBool}
use Rattle.tb_engine_files.specs.Deeds.{Deed, OfOne, Refuses, Transfers}
use Rattle.tb_compiled.specs.declared.settings.CompileSettings.{CompileSettings}
use Rattle.tb_compiled.specs.declared.settings.SizeLimit.{SizeLimit}
use Rattle.tb_compiled.specs.declared.settings.SizeLimit.TheVariants.{Cost, Memory}
use Rattle.tb_compiled_errors.specs.declared.refusals.CompileError.{CompileError}
use Rattle.tb_compiled_errors.specs.declared.refusals.CompileError.TheVariants as compile
use Rattle.tb_engine_streams.specs.declared.outcome.Outcome.TheVariants as outcome
use Rattle.tb_engines.specs.Outcomes.{Outcome}
use Rattle.tb_engines.specs.declared.outcome.Refusal.{Refusal}
use Rattle.tb_engines.specs.declared.outcome.Refusal.TheVariants as refusal
use Rattle.tb_program_files.specs.Names.{map_of, outputs_of}
use Rattle.tb_program_files.specs.Texts.{MakesBuild, MakesMap}
use Rattle.tb_program_files.specs.declared.building.BuildNames.{BuildNames}

abbrev pub is_cost : SizeLimit → Bool
is_cost Cost = true
is_cost Memory = false

abbrev pub is_excess : CompileError → Bool
is_excess (compile.TooLarge n) = true
is_excess (compile.Source e) = false
is_excess (compile.Lower e) = false
is_excess compile.NoMemory = false

abbrev pub is_excess_of : Refusal → Bool
is_excess_of (refusal.Source e) = is_excess e
is_excess_of (refusal.TextLine n) = false
is_excess_of (refusal.Item e) = false
is_excess_of (refusal.Prg e) = false
is_excess_of refusal.NotRam = false

-- a source was refused as too large
abbrev pub is_too_large : Outcome → Bool
is_too_large (outcome.Refused e) = is_excess_of e
is_too_large (outcome.Ended end) = false
is_too_large outcome.ReadFault = false
is_too_large outcome.WriteFault = false
is_too_large outcome.NoMemory = false

-- a source was refused by its cost
abbrev pub costs_too_much : SizeLimit → Outcome → Bool
costs_too_much Cost o = is_too_large o
costs_too_much Memory o = false

-- how a build ends whose source costs too much: by its refusal, unless the map was not made or written
abbrev pub ends_by : Outcome → Outcome → Outcome
ends_by refusal (outcome.Ended end) = refusal
ends_by refusal (outcome.Refused e) = refusal
ends_by refusal outcome.ReadFault = outcome.ReadFault
ends_by refusal outcome.WriteFault = outcome.WriteFault
ends_by refusal outcome.NoMemory = outcome.NoMemory

-- settings for compiling, but with the size limited by the memory
abbrev pub sized_by_memory : CompileSettings → CompileSettings
sized_by_memory settings = record settings { size = Memory }

-- the map of a source that is refused, if it is wanted, and how the build ends then
abbrev pub Maps : {F : Type 0} → (F → Deed → F → Type 0) → (F → List ℕ → Option (List ℕ) → Type 0)
    → F → List ℕ → CompileSettings → Option (List ℕ) → Outcome → Outcome → F → Type 0
Maps does holds f source settings None refusal ended g = (ended ≡ refusal) × (g ≡ f)
Maps does holds f source settings (Some map) refusal ended g =
    (done : Outcome) × (ended ≡ ends_by refusal done)
    × Transfers does holds (OfOne (MakesMap (sized_by_memory settings))) f (source ∷ []) (map ∷ []) done g

-- what a build did with files, by how writing all of it ended; the map is made after that, if the source costs too much
abbrev pub Follows : {F : Type 0} → (F → Deed → F → Type 0) → (F → List ℕ → Option (List ℕ) → Type 0)
    → F → List ℕ → BuildNames → CompileSettings → Outcome → Outcome → F → Type 0
Follows does holds f source names settings first ended g =
    MatchBool (costs_too_much settings.size first) (Maps does holds f source settings (map_of names) first ended g) ((ended ≡ first) × (g ≡ f))

-- What a build did with files, by how it ended. What it refuses is refused for the bytes that the source's file holds.
abbrev pub Builds : {F : Type 0} → (F → Deed → F → Type 0) → (F → List ℕ → Option (List ℕ) → Type 0)
    → F → List ℕ → BuildNames → CompileSettings → Outcome → F → Type 0
Builds does holds f source names settings ended g =
    (first : Outcome) × (h : _)
    × Transfers does holds (OfOne (MakesBuild names settings)) f (source ∷ []) (outputs_of names) first h
    × Refuses holds (MakesBuild names settings) f source first
    × Follows does holds h source names settings first ended g

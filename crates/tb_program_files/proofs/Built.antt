-- What is built of a source, and what a build did with files.
use Rattle.std.proofs.Common.{◌≡◌, ℕ, Bool, true, List, [], ◌∷◌, ◌++◌, length, map, Vec, Option, Result, Ok, Err, IfOk, MatchBool, inl, refl, sym, subst, ap, ◌∙◌}
use Rattle.std.specs.declared.alloc.Global.{Global}
use Rattle.tb_prg.specs.Prg.{content_of}
use Rattle.tb_engine_files.specs.Deeds.{Deed, OfOne, Refuses, Transfers}
use Rattle.tb_compiled.specs.Compiled.{prg_of}
use Rattle.tb_compiled.specs.declared.compiled.Compiled.{Compiled}
use Rattle.tb_compiled.specs.declared.settings.CompileSettings.{CompileSettings}
use Rattle.tb_compiled.specs.declared.settings.SizeLimit.{SizeLimit}
use Rattle.tb_compiled.specs.declared.settings.SizeLimit.TheVariants.{Cost, Memory}
use Rattle.tb_basic_text.specs.declared.notation.Notation.{Notation}
use Rattle.tb_engine_streams.specs.declared.outcome.Outcome.TheVariants as outcome
use Rattle.tb_engines.specs.Outcomes.{Outcome}
use Rattle.tb_engine_listing.specs.Builds.{IsMade}
use Rattle.tb_engine_listing.specs.declared.build.Made.{Made}
use Rattle.tb_program_files.specs.Builds.{Builds, Maps, costs_too_much}
use Rattle.tb_program_files.specs.Listings.{IsPrg}
use Rattle.tb_engine_monitor.specs.Files.{watch_text}
use Rattle.tb_program_files.specs.Names.{labels_of, listing_of, map_of, outputs_of, wants_texts, watch_of}
use Rattle.tb_program_files.specs.Texts.{AreWanted, IsFileAlone, MakesBuild, Tells, TellsAll, WantedListing, wanted_text}
use Rattle.tb_program_files.specs.declared.building.BuildNames.{BuildNames}

-- what reads as a PRG file is one
pub is_prg : {p : ℕ × List ℕ} (file prg : List ℕ) → prg ≡ file → content_of file ≡ Ok p → IsPrg prg
is_prg {p = p} file prg same content = (p, ap content_of same ∙ content)

-- texts that were put one behind the other are those that are wanted of a program
pub put_in_order : {E : Type 0} (names : BuildNames) (prg : List ℕ) (made : Made) (file watch : List ℕ) (first labelled listed mapped listings : List (List ℕ))
    → file ≡ prg → first ≡ file ∷ [] → labelled ≡ first ++ wanted_text (labels_of names) made.labels.items
    → WantedListing (listing_of names) names.dialect prg made.listing.items listings → listed ≡ labelled ++ listings
    → mapped ≡ listed ++ wanted_text (map_of names) made.map.items → watch ≡ watch_text (length prg)
    → (r : Result (Vec (Vec ℕ Global) Global) E) → IfOk r (λ texts. map (λ t. t.items) texts.items ≡ mapped ++ wanted_text (watch_of names) watch)
    → IfOk r (λ texts. AreWanted names prg made (map (λ t. t.items) texts.items))
put_in_order names prg made file watch first labelled listed mapped listings same one two is three four five (Err e) put = tt
put_in_order names prg made file watch first labelled listed mapped listings same one two is three four five (Ok texts) put =
    let labels = wanted_text (labels_of names) made.labels.items in
    let chart = wanted_text (map_of names) made.map.items in (
      listings,
      is,
      put ∙ (ap (λ x. x ++ wanted_text (watch_of names) watch) (four ∙ ap (λ x. x ++ chart) (three ∙ ap (λ x. x ++ listings) (two
          ∙ ap (λ x. x ++ labels) (one ∙ ap (λ f. f ∷ []) same)))) ∙ ap (λ w. prg ∷ (labels ++ listings ++ chart ++ wanted_text (watch_of names) w)) five),
    )

-- texts that are wanted of a program tell of its source
pub all_tell : {E : Type 0} (names : BuildNames) (notation : Notation) (source text : List ℕ) (program : Compiled) (prg : List ℕ) (made : Made)
    → true ≡ wants_texts names → text ≡ source → prg ≡ prg_of program → IsMade notation text program made
    → (r : Result (Vec (Vec ℕ Global) Global) E) → IfOk r (λ texts. AreWanted names prg made (map (λ t. t.items) texts.items))
    → IfOk r (λ texts. Tells names notation source program (map (λ t. t.items) texts.items))
all_tell names notation source text program prg made wanted same file tells (Err e) are = tt
all_tell names notation source text program prg made wanted same file tells (Ok texts) are =
    let all = map (λ t. t.items) texts.items in
    subst (λ b. MatchBool b (TellsAll names notation source program all) (IsFileAlone program all)) wanted
    (made, subst (λ t. IsMade notation t program made) same tells, subst (λ p. AreWanted names p made all) file are)

module _ {F : Type 0} (does : F → Deed → F → Type 0) (holds : F → List ℕ → Option (List ℕ) → Type 0) (f : F) (source : List ℕ) (names : BuildNames)
    (settings : CompileSettings) (outputs : List (List ℕ)) (named : outputs ≡ outputs_of names) (first : Outcome) (h : F)
    (transfers : Transfers does holds (OfOne (MakesBuild names settings)) f (source ∷ []) outputs first h)
    (refuses : Refuses holds (MakesBuild names settings) f source first) where
  -- what a build did, by whether its source costs too much
  pub build_done : (excess : Bool) → excess ≡ costs_too_much settings.size first → (ended : Outcome) (g : F)
      → MatchBool excess (Maps does holds h source settings (map_of names) first ended g) ((ended ≡ first) × (g ≡ h))
      → Builds does holds f source names settings ended g
  build_done excess tested ended g follows = (
    first,
    h,
    subst (λ o. Transfers does holds (OfOne (MakesBuild names settings)) f (source ∷ []) o first h) named transfers,
    refuses,
    subst (λ b. MatchBool b (Maps does holds h source settings (map_of names) first ended g) ((ended ≡ first) × (g ≡ h))) tested follows,
  )

module _ {F : Type 0} (does : F → Deed → F → Type 0) (holds : F → List ℕ → Option (List ℕ) → Type 0) (f : F) where
  -- there was no memory for a build, whatever limits its size
  nothing_built : (source : List ℕ) (names : BuildNames) (settings : CompileSettings) (size : SizeLimit) → settings.size ≡ size
      → Builds does holds f source names settings outcome.NoMemory f
  nothing_built source names settings Cost is = (outcome.NoMemory, f, inl (inl (0, refl)), tt, rw is (refl, refl))
  nothing_built source names settings Memory is = (outcome.NoMemory, f, inl (inl (0, refl)), tt, rw is (refl, refl))

  pub not_built : (source : List ℕ) (names : BuildNames) (settings : CompileSettings) (ends : Outcome) → ends ≡ outcome.NoMemory
      → Builds does holds f source names settings ends f
  not_built source names settings ends is =
      subst (λ o. Builds does holds f source names settings o f) (sym is) (nothing_built source names settings settings.size refl)

-- Files that are read one after the other.
use Rattle.std.proofs.Common.{◌≡◌, ℕ, ◌+◌, Bool, true, false, List, [], ◌∷◌, ◌++◌, map, length, Option, Some, None, Result, Ok, Err, inl, inr, refl, subst, sym, ap, ◌∙◌, append_assoc, length-append}
use Rattle.std.proofs.lemmas.List.{append-nil, length-map, map-append}
use Rattle.std.proofs.lemmas.Str.{IsUtf8-from_is_utf8, is_utf8-from_IsUtf8}
use Rattle.std.specs.Bool.{MatchBool}
use Rattle.std.specs.Prelude.{MatchResult, OnErr, option_map}
use Rattle.std.specs.declared.alloc.Global.{Global}
use Rattle.std.specs.declared.vec.Vec.{Vec}
use Rattle.std.specs.Str.{IsUtf8, is_utf8}
use Rattle.tb_engine_files.specs.Deeds.{Deed, ReadsFile}
use Rattle.tb_assembly_files.specs.declared.library.SourceFile.{SourceFile}
use Rattle.tb_assembly_files.specs.Expansion.{expansion}
use Rattle.tb_assembly_files.specs.Libraries.{Source, source_of}
use Rattle.tb_assembly_output.specs.Assembled.{Answers}
use Rattle.tb_assembly_output.specs.declared.assembling.Assembled.{Assembled}
use Rattle.tb_assembly_output.specs.declared.assembling.Assembled.TheVariants.{Wants}
use Rattle.tb_assembly_output.specs.declared.assembling.Manner.{Manner}
use Rattle.tb_assembly_engine.specs.Outcomes.{TextFailure}
use Rattle.tb_engine_streams.specs.declared.outcome.Outcome.TheVariants.{NoMemory}
use Rattle.tb_engine_streams.specs.declared.stream.InputError.TheVariants.{NoMemory as NoText}
use Rattle.tb_assembly_engine.specs.Deeds.{Stops}
use Rattle.tb_assembly_engine.specs.Gathering.{AsksFor, Gathers, GivesText, LacksMemory, Takes}

-- what is not true is false
is_false : (b : Bool) → (b ≡ true → ⊥) → b ≡ false
is_false true never = absurd (never refl)
is_false false never = refl

-- what is so anyway is so on an error
pub on_err : {A E : Type 0} {P : Type 0} (r : Result A E) → P → OnErr r P
on_err (Ok a) p = tt
on_err (Err e) p = p

-- the fact for a test that is true, or false
by_true : (b : Bool) (P Q : Type 0) → b ≡ true → P → MatchBool b P Q
by_true b P Q e p = subst (λ b. MatchBool b P Q) (sym e) p

by_false : (b : Bool) (P Q : Type 0) → b ≡ false → Q → MatchBool b P Q
by_false b P Q e q = subst (λ b. MatchBool b P Q) (sym e) q

-- a path that is no UTF-8, by its test
pub not_utf8 : (path : List ℕ) → ¬ (IsUtf8 path) → is_utf8 path ≡ false
not_utf8 path never = is_false (is_utf8 path) (λ e. never (IsUtf8-from_is_utf8 path e))

-- whether a path is UTF-8
pub ruleset paths = (is_utf8-from_IsUtf8, not_utf8)

-- a file that is wanted is asked for
pub asks : (text : List ℕ) (lib : List Source) (path : List ℕ) → expansion lib ≡ Some (Err path) → AsksFor text lib path
asks text [] path e = absurd cc
asks text (s ∷ ss) path e = e

-- with one more file the library is longer by one
pub longer : (old new : List SourceFile) (s : Source) → map source_of new ≡ map source_of old ++ s ∷ [] → length new ≡ length old + 1
longer old new s e = simp (length-map, length-append) at (ap length e)

-- one more file in a library
pub added : (old new : List SourceFile) (file : SourceFile) → new ≡ old ++ file ∷ [] → map source_of new ≡ map source_of old ++ source_of file ∷ []
added old new file e = ap (map source_of) e ∙ map-append source_of old (file ∷ [])

-- what is answered of some files asks for one more
pub asks_for : (text : List ℕ) (given files : List SourceFile) (manner : Manner) (a : Assembled) (p : Vec ℕ Global) → given ≡ files → a ≡ Wants p
    → Answers manner (map source_of given) (Ok a) → AsksFor text (map source_of files) p.items
asks_for text given files manner a p same is answers =
    let wanted : Answers manner (map source_of given) (Ok (Wants p)) = subst (λ a. Answers manner (map source_of given) (Ok a)) is answers in
    asks text (map source_of files) p.items (subst (λ fs. expansion (map source_of fs) ≡ Some (Err p.items)) same wanted)

module _ {F : Type 0} (does : F → Deed → F → Type 0) (holds : F → List ℕ → Option (List ℕ) → Type 0) where
  -- no file was opened
  pub takes_nothing : (f : F) (path : List ℕ) → ¬ (IsUtf8 path) → Takes does holds f path None f
  takes_nothing f path never = by_false (is_utf8 path) _ _ (not_utf8 path never) (refl, refl)

  -- the text of a path in UTF-8 was read, or memory ran out
  pub read_taken : {E : Type 0} (r : Result (Option (Vec ℕ Global)) E) (f g : F) (path name : List ℕ) → IsUtf8 path → name ≡ path
      → MatchResult r (λ text. GivesText does holds f name (option_map (λ t. t.items) text) g) (λ _. ReadsFile does holds f name (Err NoText) g)
      → MatchResult r (λ text. Takes does holds f path (option_map (λ t. t.items) text) g) (λ _. LacksMemory does holds f path g)
  read_taken (Ok text) f g path name utf8 same gives =
      by_true (is_utf8 path) _ _ (is_utf8-from_IsUtf8 path utf8) (subst (λ n. GivesText does holds f n (option_map (λ t. t.items) text) g) same gives)
  read_taken (Err e) f g path name utf8 same lacks = inl (subst (λ n. ReadsFile does holds f n (Err NoText) g) same lacks)

  module _ (text : List ℕ) where
    -- one more file is read
    pub gathers_more : (f h g : F) (before ss : List Source) (s : Source) → Gathers does holds text f before ss h → AsksFor text (before ++ ss) s.path
        → Takes does holds h s.path s.text g → Gathers does holds text f before (ss ++ s ∷ []) g
    gathers_more f h g before [] s same asked takes = (
      g,
      subst (λ b. AsksFor text b s.path) (append-nil before) asked,
      subst (λ x. Takes does holds x s.path s.text g) same takes,
      refl,
    )
    gathers_more f h g before (t ∷ ts) s (m, first, taken, others) asked takes = (
      m,
      first,
      taken,
      gathers_more m h g (before ++ t ∷ []) ts s others (subst (λ b. AsksFor text b s.path) (sym (append_assoc before (t ∷ []) ts)) asked) takes,
    )

    -- the file that is asked for is read
    pub gathered : (f h g : F) (lib new : List Source) (path : List ℕ) → Gathers does holds text f [] lib h → AsksFor text lib path
        → (s : Source) × (s.path ≡ path) × Takes does holds h s.path s.text g × (new ≡ lib ++ s ∷ []) → Gathers does holds text f [] new g
    gathered f h g lib new path was asked (s, at, takes, is) =
        subst (λ l. Gathers does holds text f [] l g) (sym is) (gathers_more f h g [] lib s was (subst (AsksFor text lib) (sym at) asked) takes)

    -- memory ran out while the file that is asked for was read
    pub stopped : {A : Type 0} (r : Result A TextFailure) (made : A → Type 0) (f h g : F) (lib : List Source) (path : List ℕ) (manner : Manner) → r ≡ Err NoMemory
        → Gathers does holds text f [] lib h → AsksFor text lib path → LacksMemory does holds h path g
        → MatchResult r made (λ why. Stops does holds text f manner why g)
    stopped r made f h g lib path manner is was asked lacks =
        subst (λ r. MatchResult r made (λ why. Stops does holds text f manner why g)) (sym is) (inr (refl, (lib, h, was, path, asked, lacks)))

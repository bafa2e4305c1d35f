-- What an include makes of what was read.
use Rattle.std.proofs.Common.{◌≡◌, ℕ, zero, suc, ◌-◌, ◌∷◌, [], List, length, map, take, refl, sym, ap, subst, ◌∙◌, arith, Option, Some, None, Result, Ok, Err}
use Rattle.std.proofs.lemmas.List.{take-map, length-map}
use Rattle.tb_basic_text.specs.Lines.{lines_from, lines_of_file}
use Rattle.tb_assembly_files.specs.declared.faults.Place.{Place}
use Rattle.tb_assembly_files.specs.declared.faults.IncludeFault.{IncludeFault}
use Rattle.tb_assembly_files.specs.declared.faults.IncludeFault.TheVariants.{Unread}
use Rattle.tb_assembly_files.specs.declared.expanding.Stop.{Stop}
use Rattle.tb_assembly_files.specs.Paths.{beside}
use Rattle.tb_assembly_files.specs.Libraries.{Source, found, path_at, text_at}
use Rattle.tb_assembly_files.specs.Expansion.{Read, Course, Including, Reaches, by_fault, by_name, by_path, by_text, file_fault, including, lines_read, refused}

-- all but the last of a list that is seen by what it has
pub cut : {X Y : Type 0} (f : X → Y) (xs ys : List X) (n : ℕ) → ys ≡ take n xs → n ≡ length xs - 1 → map f ys ≡ take (length (map f xs) - 1) (map f xs)
cut f xs ys n e m = ap (map f) e ∙ sym (take-map f n xs) ∙ ap (λ k. take k (map f xs)) (m ∙ ap (λ l. l - 1) (sym (length-map xs f)))

-- what is reached in one way of saying it
pub reaches_as : {U : Type 0} (v w : Course) (r : Result U Stop) (new : Read) → v ≡ w → Reaches w r new → Reaches v r new
reaches_as v w r new e p = subst (λ w. Reaches w r new) (sym e) p

-- where no line is left, all lines are read
pub at_end : (inc : Including) (file n : ℕ) (rest : List ℕ) (r : Read) (whole : Course) → rest ≡ [] → lines_read inc file n (lines_of_file rest) r ≡ whole → whole ≡ Ok r
unfolding lines_from
at_end inc file n rest r whole e h = sym h ∙ ap (λ t. lines_read inc file n (lines_of_file t) r) e

-- what the lines of an included file make of what was read
abbrev pub reads : ℕ → List Source → List ℕ → ℕ → List ℕ → Read → Course
reads depth lib chain i text s = lines_read (including depth lib (i ∷ chain)) i 1 (lines_of_file text) s

deeper : (depth : ℕ) (lib : List Source) (chain : List ℕ) (place : Place) (c : ℕ) (name : List ℕ) (r : Read) → (depth ≡ 0 → ⊥)
    → including depth lib chain place c name r ≡ by_name (reads (depth - 1) lib chain) lib chain place c name r
deeper zero lib chain place c name r some = absurd (some refl)
deeper (suc depth) lib chain place c name r some =
    let e : depth ≡ suc depth - 1 = omega arith in ap (λ k. by_name (reads k lib chain) lib chain place c name r) e

module _ (depth : ℕ) (lib : List Source) (chain : List ℕ) (place : Place) (c : ℕ) (name : List ℕ) (r : Read) (some : depth ≡ 0 → ⊥)
    (path : List ℕ) (named : path ≡ beside (path_at lib place.file) name) where
  at_path : (o : Option ℕ) → found path lib ≡ o → including depth lib chain place c name r ≡ by_path (reads (depth - 1) lib chain) lib chain place c path o r
  at_path o e =
      deeper depth lib chain place c name r some
      ∙ ap (λ p. by_path (reads (depth - 1) lib chain) lib chain place c p (found p lib) r) (sym named)
      ∙ ap (λ o. by_path (reads (depth - 1) lib chain) lib chain place c path o r) e

  module _ (i : ℕ) (is : found path lib ≡ Some i) where
    -- a file that is not included
    pub is_refused : (w : IncludeFault) → file_fault chain r.lines i ≡ Some w → including depth lib chain place c name r ≡ refused r place c w
    is_refused w e = at_path (Some i) is ∙ ap (λ o. by_fault (reads (depth - 1) lib chain) o place c i (text_at lib i) r) e

    at_file : file_fault chain r.lines i ≡ None → including depth lib chain place c name r ≡ by_text (reads (depth - 1) lib chain) place c i (text_at lib i) r
    at_file e = at_path (Some i) is ∙ ap (λ o. by_fault (reads (depth - 1) lib chain) o place c i (text_at lib i) r) e

    -- a file that could not be read
    pub is_unread : file_fault chain r.lines i ≡ None → text_at lib i ≡ None → including depth lib chain place c name r ≡ refused r place c Unread
    is_unread e none = at_file e ∙ ap (λ t. by_text (reads (depth - 1) lib chain) place c i t r) none

    -- a file with its text
    pub is_read : (text : List ℕ) (files : List ℕ) → file_fault chain r.lines i ≡ None → text_at lib i ≡ Some text → files ≡ i ∷ chain
        → including depth lib chain place c name r ≡ lines_read (including (depth - 1) lib files) i 1 (lines_of_file text) r
    is_read text files e its with_it =
        at_file e ∙ ap (λ t. by_text (reads (depth - 1) lib chain) place c i t r) its
        ∙ ap (λ fs. lines_read (including (depth - 1) lib fs) i 1 (lines_of_file text) r) (sym with_it)

-- The lines with a number that were read so far, and the program that they make.
use Rattle.std.proofs.Common.{◌≡◌, ℕ, ◌+◌, List, [], ◌∷◌, ◌++◌, map, Some, None, Ok, refl, ap, sym, ◌∙◌, subst, append_assoc, append-nil, option_map, inl}
use Rattle.std.proofs.lemmas.List.{map-append}
use Rattle.tb_basic_syntax.specs.Source.{Program}
use Rattle.tb_basic_text.specs.declared.notation.Notation.{Notation}
use Rattle.tb_parser.specs.Files.{edited}
use Rattle.tb_basic_text.specs.Lines.{lines_from, lines_of_file}
use Rattle.tb_parser.specs.Readings.{Edit, LineIn, Nothing, Sets, Deletes}
use Rattle.tb_engine_findings.specs.Entries.{Entry, EntriesAre, IsEntry, entry_by, numbered_of, none, left_out, entered}
use Rattle.tb_engine_findings.specs.Lines.{pushed, with_entries, with_entry}
use Rattle.tb_engine_findings.specs.declared.lines.NumberedLine.{NumberedLine}

-- what was entered so far, if the lines from n on are left
pub record EnteredTo (notation : Notation) (source : List ℕ) (ns : List NumberedLine) (p : Program) (n : ℕ) (rest : List ℕ) : Type 0 where
  pub entries : List Entry
  pub entered : (more : List Entry) → EntriesAre notation n (lines_of_file rest) more → EntriesAre notation 1 (lines_of_file source) (entries ++ more)
  pub numbered : ns ≡ map numbered_of entries
  pub program : p ≡ with_entries entries []

one_more : (es : List Entry) (e : Entry) (p : Program) → with_entries (es ++ e ∷ []) p ≡ with_entry e.states e.number (with_entries es p)
one_more [] e p = refl
one_more (x ∷ es) e p = one_more es e (with_entry x.states x.number p)

module _ (notation : Notation) (source : List ℕ) (ns : List NumberedLine) (p : Program) (n : ℕ) (rest line after : List ℕ) (first : lines_of_file rest ≡ line ∷ lines_of_file after) where
  -- the reading loop at a line that is bad or has no number
  pub past_left_out : IsEntry notation line None → EnteredTo notation source ns p n rest → EnteredTo notation source ns p (n + 1) after
  past_left_out is h = record {
    entries = h.entries;
    entered = λ more are. h.entered more (rw first (left_out n line (lines_of_file after) more is are));
    numbered = h.numbered;
    program = h.program;
  }

  past_entry : (e : Entry) → e.line ≡ n → IsEntry notation line (Some (e.number, e.states)) → EnteredTo notation source ns p n rest
      → EnteredTo notation source (ns ++ numbered_of e ∷ []) (with_entry e.states e.number p) (n + 1) after
  past_entry e at is h = record {
    entries = h.entries ++ e ∷ [];
    entered = λ more are.
        (let are' : EntriesAre notation (e.line + 1) (lines_of_file after) more = subst (λ m. EntriesAre notation (m + 1) (lines_of_file after) more) (sym at) are in
        let one : EntriesAre notation n (lines_of_file rest) (e ∷ more) =
        subst (λ m. EntriesAre notation m (lines_of_file rest) (e ∷ more)) at (rw first (entered line (lines_of_file after) more e is are')) in
        rw (append_assoc h.entries (e ∷ []) more) (h.entered (e ∷ more) one));
    numbered = rw h.numbered (sym (map-append numbered_of h.entries (e ∷ [])));
    program = ap (with_entry e.states e.number) h.program ∙ sym (one_more h.entries e []);
  }

  -- the reading loop at a good line
  pub past_edit : (edit : Edit) → LineIn notation line (Ok edit) → EnteredTo notation source ns p n rest
      → EnteredTo notation source (pushed ns (option_map numbered_of (entry_by n edit))) (edited edit p) (n + 1) after
  past_edit Nothing is h = past_left_out (inl is) h
  past_edit (Sets number c) is h = past_entry (record { line = n; number = number; states = Some c }) refl is h
  past_edit (Deletes number) is h = past_entry (record { line = n; number = number; states = None }) refl is h

-- the end of the reading loop: the entries of the whole file
pub all_entered : (notation : Notation) (source : List ℕ) (ns : List NumberedLine) (p : Program) (n : ℕ) (rest : List ℕ) → rest ≡ [] → (h : EnteredTo notation source ns p n rest)
    → EntriesAre notation 1 (lines_of_file source) h.entries
unfolding lines_from
all_entered notation source ns p n rest e h = subst (EntriesAre notation 1 (lines_of_file source)) (append-nil h.entries) (h.entered [] (rw e (none n)))

-- The loop that reads the lines of a file.
use Rattle.std.proofs.Common.{◌≡◌, ℕ, ◌+◌, List, [], ◌∷◌, ◌++◌, ap, sym, ◌∙◌, append_assoc, append-nil, inl, inr}
use Rattle.tb_basic_syntax.specs.PlainData.{lines_of}
use Rattle.tb_basic_text.specs.declared.notation.Notation.{Notation}
use Rattle.tb_basic_text.specs.Lines.{lines_from, lines_of_file}
use Rattle.tb_engine_findings.specs.Lines.{AreRead, Says, texts_of}
use Rattle.tb_engine_findings.specs.declared.lines.SourceLines.{SourceLines}
use Rattle.tb_engine_findings.proofs.Checked.{FoundTo, no_line, past_bad_line, past_good_line}
use Rattle.tb_engine_findings.proofs.Entered.{EnteredTo, all_entered, past_edit, past_left_out}

-- what was read so far, if the lines from n on are left
pub record ReadTo (notation : Notation) (source : List ℕ) (lines : SourceLines) (n : ℕ) (rest : List ℕ) : Type 0 where
  pub texts : texts_of lines ++ lines_of_file rest ≡ lines_of_file source
  pub bad : FoundTo notation source lines.bad.items n rest
  pub entered : EnteredTo notation source lines.numbered.items (lines_of lines.program) n rest

text_moved : (texts more rest all texts' : List (List ℕ)) (line : List ℕ) → rest ≡ line ∷ more → texts' ≡ texts ++ line ∷ [] → texts ++ rest ≡ all → texts' ++ more ≡ all
text_moved texts more rest all texts' line first written h = rw (written, append_assoc texts (line ∷ []) more, ← first) h

-- one turn of the loop
pub past_line : (notation : Notation) (source : List ℕ) (old new : SourceLines) (n : ℕ) (rest line after : List ℕ) → lines_of_file rest ≡ line ∷ lines_of_file after
    → texts_of new ≡ texts_of old ++ line ∷ [] → Says notation n line old new → ReadTo notation source old n rest → ReadTo notation source new (n + 1) after
past_line notation source old new n rest line after first written (inl g) h = record {
  texts = text_moved (texts_of old) (lines_of_file after) (lines_of_file rest) (lines_of_file source) (texts_of new) line first written h.texts;
  bad = rw g.2.bad (past_good_line notation source old.bad.items n rest line after g.0 first g.1 h.bad);
  entered = rw (g.2.numbered, g.2.program)
      (past_edit notation source old.numbered.items (lines_of old.program) n rest line after first g.0 g.1 h.entered);
}
past_line notation source old new n rest line after first written (inr b) h = record {
  texts = text_moved (texts_of old) (lines_of_file after) (lines_of_file rest) (lines_of_file source) (texts_of new) line first written h.texts;
  bad = rw b.4.bad (past_bad_line notation source old.bad.items n rest line after b.0 b.1 first b.2 b.3 h.bad);
  entered = rw (b.4.numbered, b.4.program)
      (past_left_out notation source old.numbered.items (lines_of old.program) n rest line after first (inr (b.1, b.2)) h.entered);
}

-- the end of the loop
pub all_read : (notation : Notation) (source : List ℕ) (lines : SourceLines) (n : ℕ) (rest : List ℕ) → rest ≡ [] → ReadTo notation source lines n rest
    → AreRead notation source lines
unfolding lines_from
all_read notation source lines n rest none h = record {
  texts = sym (append-nil (texts_of lines)) ∙ ap (λ r. texts_of lines ++ lines_of_file r) (sym none) ∙ h.texts;
  bad = no_line notation source lines.bad.items n rest none h.bad;
  entries = h.entered.entries;
  entered = all_entered notation source lines.numbered.items (lines_of lines.program) n rest none h.entered;
  numbered = h.entered.numbered;
  program = h.entered.program;
}

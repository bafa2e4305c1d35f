-- A source that is debugged.
use Rattle.std.specs.Prelude.{◌≡◌, ℕ, Bool, List, [], ◌++◌, map}
use Rattle.tb_compiled.specs.Compiled.{starts_of}
use Rattle.tb_basic_source.specs.Lines.{numbered, pair_of}
use Rattle.tb_debug.specs.declared.answer.Answer.{Answer}
use Rattle.tb_assembly_labels.specs.Lines.{pair_of as label_of}
use Rattle.tb_assembly_labels.specs.declared.labels.Label.{Label}
use Rattle.tb_debug_engine.specs.Labels.{place_line, standing}
use Rattle.tb_debug_engine.specs.Texts.{text_of}
use Rattle.tb_engine_sources.specs.declared.reading.CompiledSource.{CompiledSource}
use Rattle.tb_debug_engine.specs.declared.sources.Written.{Written}

-- the labels of a PRG file
abbrev pub labels_of : Written → List (ℕ × List ℕ)
labels_of w = map label_of w.labels.now

-- the text of an answer, with the lines of a source; with what helps, or without; and the place by a label, if one is near
abbrev pub shown_of : (hints : Bool) → Written → Answer → List ℕ
shown_of hints w answer =
    text_of hints (map pair_of w.lines.items) w.numbers.items answer ++ place_line (labels_of w) (standing answer)

-- the lines of a source, and which of them its program has
pub record AreWritten (s : CompiledSource) (w : Written) : Type 0 where
  pub lines : map pair_of w.lines.items ≡ numbered s.text.items
  pub numbers : w.numbers.items ≡ map (λ p. p.0) (starts_of s.program)
  pub labels : w.labels.now ≡ []

-- the lines of no source, and the labels of a PRG file
pub record IsUnwritten (labels : List Label) (w : Written) : Type 0 where
  pub lines : w.lines.items ≡ []
  pub numbers : w.numbers.items ≡ []
  pub named : w.labels.now ≡ labels

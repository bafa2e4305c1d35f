-- What a build makes of a source.
use Rattle.std.specs.Prelude.{◌≡◌, ℕ, ◌-◌, ◌<◌, ◌≤◌, List, Ok, drop, length, sum_by}
use Rattle.tb_engine_streams.specs.Streams.{most_input}
use Rattle.tb_basic_syntax.specs.Source.{Program}
use Rattle.tb_basic_meaning.specs.Cost.{cost}
use Rattle.tb_runtime16.specs.Addresses.{PROLOGUE_AT}
use Rattle.tb_compiled.specs.declared.compiled.Compiled.{Compiled}
use Rattle.tb_compiled.specs.declared.settings.CompileSettings.{CompileSettings}
use Rattle.tb_codegen.specs.Templates.{templates}
use Rattle.tb_compiled.specs.Answers.{AnswersFor, SourceMakes}
use Rattle.tb_basic_text.specs.declared.notation.Notation.{Notation}
use Rattle.tb_compiled.specs.Compiled.{AddressesRise, prg_of, starts_of, table_of}
use Rattle.tb_compiled.specs.Theorem.{KeepsSourceIn}
use Rattle.tb_disasm.specs.Back.{GivesBack}
use Rattle.tb_engine_listing.specs.declared.build.Made.{Made}
use Rattle.tb_engine_listing.specs.Labels.{all_labels, labels_text}
use Rattle.tb_engine_listing.specs.Map.{parts, map_text}
use Rattle.tb_engine_listing.specs.Places.{ShowsProgram}

-- how many bytes the image of a compiled program has, which follow the load address and the BASIC line in its file
abbrev pub image_size : Compiled → ℕ
image_size c = length (prg_of c) - 14

-- the compiler answered this program for the source in a notation
abbrev pub IsProgramOf : Notation → List ℕ → Compiled → Type 0
IsProgramOf notation source compiled = (settings : CompileSettings) × (settings.notation ≡ notation) × AnswersFor templates settings source (Ok compiled)

-- the labels of a compiled program's places, a listing that gives its image back and shows the lines of the source and
-- the names of its places, and the map of its parts
pub record Tells (source : List ℕ) (compiled : Compiled) (program : Program) (made : Made) : Type 0 where
  pub labels : made.labels.items ≡ labels_text (all_labels (starts_of compiled) (table_of compiled))
  pub listing : GivesBack PROLOGUE_AT made.listing.items (drop 14 (prg_of compiled))
  pub readable : length made.listing.items ≤ most_input
  pub shows : ShowsProgram source (starts_of compiled) (table_of compiled) (drop 14 (prg_of compiled)) made.listing.items
  pub map : made.map.items ≡ map_text (starts_of compiled) (table_of compiled) (image_size compiled) program

-- what tells of a source's compilation, with the program that the source's lines make in a notation; the file keeps its
-- source, for all settings with that notation with which it was compiled
pub record IsMade (notation : Notation) (source : List ℕ) (compiled : Compiled) (made : Made) : Type 0 where
  pub sorted : AddressesRise 0 (all_labels (starts_of compiled) (table_of compiled))
  pub program : Program
  pub makes : SourceMakes notation source (Ok program)
  pub keeps : (settings : CompileSettings) → settings.seed < 65536 → settings.notation ≡ notation → AnswersFor templates settings source (Ok compiled)
      → KeepsSourceIn notation settings.seed source compiled
  pub tells : Tells source compiled program made
  pub bytes : sum_by (λ p. p.bytes) (parts (starts_of compiled) (table_of compiled) (image_size compiled) program) ≡ image_size compiled
  pub prices : sum_by (λ p. p.price) (parts (starts_of compiled) (table_of compiled) (image_size compiled) program) ≡ cost program

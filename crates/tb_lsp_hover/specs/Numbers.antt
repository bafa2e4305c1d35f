-- The numbers of a line of a compiled source: those of its map.
use Rattle.std.specs.Prelude.{ℕ, ◌≡◌, ◌≢◌, ◌⊎◌, ◌+◌, ◌==◌, List, [], ◌∷◌, drop, Option, Some, None, Ok, Err, if◌then◌else◌}
use Rattle.tb_basic_syntax.specs.Source.{Program}
use Rattle.tb_basic_meaning.specs.Cost.{statement_cost}
use Rattle.tb_compiled_errors.specs.declared.refusals.CompileError.{CompileError}
use Rattle.tb_compiled_errors.specs.declared.refusals.CompileError.TheVariants.{NoMemory}
use Rattle.tb_basic_text.specs.declared.notation.Notation.{Notation}
use Rattle.tb_compiled.specs.Answers.{HasOutcome, SourceMakes}
use Rattle.tb_compiled.specs.Compiled.{starts_of, table_of}
use Rattle.tb_compiled.specs.declared.compiled.Compiled.{Compiled}
use Rattle.tb_compiled.specs.declared.settings.CompileSettings.{CompileSettings}
use Rattle.tb_compiled.specs.declared.settings.SizeLimit.TheVariants.{Memory}
use Rattle.tb_compiled.specs.Parts.{Part, first_part}
use Rattle.tb_lsp_hover.specs.declared.numbers.LineNumbers.{LineNumbers}
use Rattle.tb_compiled.specs.Promise.{Own}

-- the numbers of the first of a map's parts
abbrev pub numbers_of : List Part → Option LineNumbers
numbers_of [] = None
numbers_of (p ∷ parts) = Some (record { at = p.at; bytes = p.bytes; cost = p.price })

-- the numbers of the first of these lines, as the map has them, with its cost
abbrev pub first_numbers : List (ℕ × ℕ) → ℕ → ℕ → Option LineNumbers
first_numbers starts table cost = numbers_of (first_part starts table 0 cost)

-- the numbers of line n, as the parts of the map are made
abbrev pub part_of : ℕ → List (ℕ × ℕ) → ℕ → Program → Option LineNumbers
part_of n starts table [] = None
part_of n starts table (line ∷ lines) =
    if line.number == n then first_numbers starts table (36 + statement_cost line.content) else part_of n (drop 1 starts) table lines

-- how a source is compiled whose numbers are asked for: it may take the memory
abbrev pub settings_in : Notation → CompileSettings
settings_in notation = record { seed = 0; size = Memory; notation = notation }

-- the source is compiled in a notation, and these are the numbers of its line n
abbrev pub NumbersOf : Own → Notation → List ℕ → ℕ → Option LineNumbers → Type 0
NumbersOf own notation source n found =
    (c : Compiled) × (p : Program) × HasOutcome own (settings_in notation) source (Ok c) × SourceMakes notation source (Ok p) × (found ≡ part_of n (starts_of c) (table_of c) p)

-- the source is not compiled
abbrev pub IsNotCompiled : Own → Notation → List ℕ → Type 0
IsNotCompiled own notation source = (e : CompileError) × HasOutcome own (settings_in notation) source (Err e) × (e ≢ NoMemory)

-- the numbers of line n of a source, if it is compiled
abbrev pub NumbersAre : Own → Notation → List ℕ → ℕ → Option LineNumbers → Type 0
NumbersAre own notation source n found = NumbersOf own notation source n found ⊎ (IsNotCompiled own notation source × (found ≡ None))

-- The STOP key: it is asked for at the beginning of each line, and what is done for it belongs to the line.
use Rattle.std.specs.Prelude.{ℕ, Bool, true, false, ◌||◌, List, [], ◌∷◌, ◌++◌}
use Rattle.tb_opcodes.specs.declared.Mnemonic.{Mnemonic}
use Rattle.tb_opcodes.specs.declared.Mnemonic.TheVariants.{Beq, Bne, Cmp, Jsr}
use Rattle.tb_asm.specs.Layout.{Entry}
use Rattle.tb_lower.specs.Slots.{Instr, JumpTo, CallTo, Return, End}
use Rattle.tb_compiler_selection.specs.Groups.{Usage, AsNumber, AsLine, AsSubroutine, Group, Use, Single}
use Rattle.tb_kernal.specs.Numbers.{GETIN}
use Rattle.tb_compiler_templates.specs.declared.labels.Target.TheVariants.{Polled}
use Rattle.tb_compiler_templates.specs.Templates.{at, const, branch, here, faulted}

-- the branch after a line's poll, by whether the line ends away: if STOP was pressed, or if it wasn't
abbrev pub asking : Bool → Mnemonic
asking true = Beq
asking false = Bne

-- what is done for the STOP key in line n, a break being fault 0: in line if the line goes on, and the branch skips it
abbrev pub in_line : Bool → ℕ → List Entry
in_line true n = []
in_line false n = faulted n 0 ++ here (Polled n) ∷ []

-- what is done for the STOP key in line n if the line ends away: the branch goes to it, behind the line's groups
abbrev pub behind : Bool → ℕ → List Entry
behind true n = here (Polled n) ∷ faulted n 0
behind false n = []

-- takes an answer at the beginning of line n; 3 is that of the STOP key
abbrev pub polled : Bool → ℕ → List Entry
polled away n = at Jsr GETIN ∷ const Cmp 3 ∷ branch (asking away) (Polled n) ∷ in_line away n

-- whether a use of a word leaves the line
abbrev pub leaves_by : Usage → Bool
leaves_by AsNumber = false
leaves_by AsLine = true
leaves_by AsSubroutine = true

-- whether an instruction leaves the line in any case
abbrev pub always_leaves : Instr → Bool
always_leaves (JumpTo to) = true
always_leaves (CallTo to) = true
always_leaves Return = true
always_leaves End = true
always_leaves _ = false

-- whether a group leaves the line in any case: a test doesn't
abbrev pub leaves : Group → Bool
leaves (Use how a) = leaves_by how
leaves (Single i) = always_leaves i
leaves _ = false

-- whether one of these groups leaves the line, so that none of them goes on into what follows them
abbrev pub some_leaves : List Group → Bool
some_leaves [] = false
some_leaves (g ∷ gs) = leaves g || some_leaves gs

-- Where statements lie, and what names stand for.
use Rattle.std.specs.Prelude.{ℕ, ◌+◌, ◌-◌, ◌*◌, ℤ, pos, min, Bool, true, ◌&&◌, Option, Some, None, Result, Ok, Err, List, [], ◌∷◌, length, nat_lt, eqb, if◌then◌else◌}
use Rattle.tb_opcodes.specs.declared.Mnemonic.{Mnemonic}
use Rattle.tb_opcodes.specs.declared.Mode.{Mode}
use Rattle.tb_opcodes.specs.declared.Mode.TheVariants.{Implied}
use Rattle.tb_assembly_text.specs.Expressions.{Sum}
use Rattle.tb_assembly_text.specs.Operands.{Form}
use Rattle.tb_assembly_text.specs.Lists.{Content, amount, letters}
use Rattle.tb_assembly_text.specs.Statements.{labels, assigns, begins, instructs, lays, lays_words, fills, aligns, includes, Said, said_of}
use Rattle.tb_assembly_meaning.specs.declared.faults.Wrong.{Wrong}
use Rattle.tb_assembly_meaning.specs.declared.faults.Wrong.TheVariants.{UnknownName, NotYetKnown, NameTwice, Backward, NoSuchMode, PastEnd, NotRead}
use Rattle.tb_assembly_meaning.specs.declared.faults.MeaningFault.{MeaningFault}
use Rattle.tb_assembly_meaning.specs.declared.spots.Spot.{Spot}
use Rattle.tb_assembly_meaning.specs.declared.spots.Layout.{Layout}
use Rattle.tb_assembly_meaning.specs.declared.layout.Laid.{Laid}
use Rattle.tb_assembly_meaning.specs.Names.{Env, named, with_name}
use Rattle.tb_assembly_meaning.specs.Values.{value}
use Rattle.tb_assembly_meaning.specs.Bytes.{address_of, count_of, multiple_of, padding}
use Rattle.tb_assembly_meaning.specs.Modes.{has, mode_of, size_in}

-- what is known where a statement is read: what names stand for, where the image begins, the address that is reached, and
-- whether no byte is laid so far
pub record Reached : Type 0 where
  pub env : Env
  pub base : ℕ
  pub at : ℕ
  pub fresh : Bool

-- a `Layout` of the code as what is known where a statement is read
abbrev pub layout_of : Layout → Reached
layout_of l = record { env = named l.symbols.entries; base = l.base; at = l.at; fresh = l.fresh }

-- what is wrong stands at a column
abbrev pub located : {A : Type 0} → ℕ → Result A Wrong → Result A MeaningFault
located c (Ok v) = Ok v
located c (Err w) = Err (record { column = c; wrong = w })

-- what is made of something, unless it is refused
abbrev pub and_then : {A B : Type 0} → Result A MeaningFault → (A → Result B MeaningFault) → Result B MeaningFault
and_then (Ok v) f = f v
and_then (Err e) f = Err e

-- a place of an address and a size, and the mode of an instruction
abbrev pub spot : ℕ → ℕ → Mode → Spot
spot at size mode = record { at = at; size = size; mode = mode }

-- an address, 65,536 at most: no statement lies behind that
abbrev pub capped : ℕ → ℕ
capped at = min at 65536

-- an address as a value
abbrev pub here_at : ℕ → ℤ
here_at at = pos (capped at)

-- how many bytes a datum takes
abbrev pub content_size : Content → ℕ
content_size (amount e) = 1
content_size (letters t) = length t

-- how many bytes data take
abbrev pub data_size : List Content → ℕ
data_size [] = 0
data_size (c ∷ cs) = content_size c + data_size cs

-- n bytes from an address on, unless they end past 65,536
abbrev pub ended : ℕ → ℕ → ℕ → Mode → Result Spot MeaningFault
ended c at size mode = if nat_lt (65536 - at) size then Err (record { column = c; wrong = PastEnd }) else Ok (spot at size mode)

-- no bytes at an address, unless the name there has a meaning
abbrev pub unless_named : {A : Type 0} → Option A → ℕ → ℕ → Result Spot MeaningFault
unless_named (Some v) c at = Err (record { column = c; wrong = NameTwice })
unless_named None c at = Ok (spot at 0 Implied)

-- a name that no earlier statement has
abbrev pub fresh_name : Reached → ℕ → List ℕ → Result Spot MeaningFault
fresh_name r c n = unless_named (r.env n) c r.at

-- the address of what follows: before any byte it is the place of the image, and later the bytes up to it are filled
abbrev pub moved_to : Reached → ℕ → ℕ → Result Spot MeaningFault
moved_to r c a =
    if r.fresh then Ok (spot a 0 Implied) else
    if nat_lt a r.at then Err (record { column = c; wrong = Backward }) else Ok (spot r.at (a - r.at) Implied)

-- what is wrong with a value that is needed before all names are read: one that is not known may be a name further down
abbrev pub not_yet : Wrong → Wrong
not_yet UnknownName = NotYetKnown
not_yet w = w

-- a value, or what is wrong with it before all names are read
abbrev pub early : Result ℤ MeaningFault → Result ℤ MeaningFault
early (Ok z) = Ok z
early (Err f) = Err (record { column = f.column; wrong = not_yet f.wrong })

-- the value of an expression where it is read
abbrev pub value_at : Reached → Sum → Result ℤ MeaningFault
value_at r e = early (value r.env (here_at r.at) e)

-- `* = e`
abbrev pub origin_spot : Reached → Sum → Result Spot MeaningFault
origin_spot r e = and_then (value_at r e) (λ z. and_then (located e.0 (address_of z)) (moved_to r e.0))

-- an instruction with its mode, if there is one
abbrev pub mode_spot : Reached → ℕ → Mnemonic → Form → Mode → Result Spot MeaningFault
mode_spot r c m form mode = if has m mode then ended c r.at (size_in form mode) mode else Err (record { column = c; wrong = NoSuchMode })

-- an instruction
abbrev pub instruction_spot : Reached → ℕ → Mnemonic → Form → Result Spot MeaningFault
instruction_spot r c m form = mode_spot r c m form (mode_of r.env (here_at r.at) m form)

-- n bytes
abbrev pub fill_spot : Reached → ℕ → Sum → Result Spot MeaningFault
fill_spot r c e = and_then (value_at r e) (λ z. and_then (located e.0 (count_of z)) (λ n. ended c r.at n Implied))

-- bytes up to a multiple
abbrev pub align_spot : Reached → ℕ → Sum → Result Spot MeaningFault
align_spot r c e = and_then (value_at r e) (λ z. and_then (located e.0 (multiple_of z)) (λ n. ended c r.at (padding r.at n) Implied))

-- where a statement lies
abbrev pub spot_of : Reached → Said → Result Spot MeaningFault
spot_of r (c, labels n) = fresh_name r c n
spot_of r (c, assigns n e) = fresh_name r c n
spot_of r (c, begins e) = origin_spot r e
spot_of r (c, instructs m form) = instruction_spot r c m form
spot_of r (c, lays cs) = ended c r.at (data_size cs) Implied
spot_of r (c, lays_words es) = ended c r.at (2 * length es) Implied
spot_of r (c, fills n v) = fill_spot r c n
spot_of r (c, aligns n) = align_spot r c n
spot_of r (c, includes p) = Err (record { column = c; wrong = NotRead })

-- a value, if it is known
abbrev pub value_or_none : Result ℤ MeaningFault → Option ℤ
value_or_none (Ok z) = Some z
value_or_none (Err f) = None

-- the value of an expression at an address, if it is known
abbrev pub known : Env → ℕ → Sum → Option ℤ
known env at e = value_or_none (value env (here_at at) e)

-- what names stand for behind a statement at an address: a label for the address, a name for the value if that is known
abbrev pub named_by : Env → ℕ → Said → Env
named_by env at (c, labels n) = with_name env n (Some (here_at at))
named_by env at (c, assigns n e) = with_name env n (known env at e)
named_by env at s = env

-- what is reached behind a statement
abbrev pub after : Reached → Spot → Said → Reached
after r p s = record { env = named_by r.env p.at s; base = if r.fresh then p.at else r.base; at = p.at + p.size; fresh = r.fresh && eqb p.size 0 }

-- what is reached behind a statement that may lie nowhere: then nothing changes
abbrev pub after_spot : Reached → Result Spot MeaningFault → Said → Reached
after_spot r (Ok p) s = after r p s
after_spot r (Err f) s = r

-- a statement, with where it lies or why it lies nowhere
abbrev pub Lying : Type 0
Lying = Said × Result Spot MeaningFault

-- a statement of the code, with where it lies or why it lies nowhere
abbrev pub laid_of : Laid → Lying
laid_of l = (said_of l.statement.now, l.spot)

-- statements with where they lie
abbrev pub spots_from : Reached → List Said → List Lying
spots_from r [] = []
spots_from r (s ∷ ss) = (s, spot_of r s) ∷ spots_from (after_spot r (spot_of r s) s) ss

-- what is reached behind statements
abbrev pub reached_from : Reached → List Said → Reached
reached_from r [] = r
reached_from r (s ∷ ss) = reached_from (after_spot r (spot_of r s) s) ss

-- before the first statement: no name, and the image at an address
abbrev pub start_at : ℕ → Reached
start_at at = record { env = λ w. None; base = at; at = at; fresh = true }

-- a name whose value was not known gets the value that it has when all labels are known
abbrev pub resolved_by : Env → List ℕ → Option (Option ℤ) → Option ℤ → Env
resolved_by env n (Some None) v = with_name env n v
resolved_by env n o v = env

-- what names stand for after a statement is seen again
abbrev pub resolved : Env → Lying → Env
resolved env ((c, assigns n e), Ok p) = resolved_by env n (env n) (known env p.at e)
resolved env l = env

-- what names stand for after all statements are seen again
abbrev pub resolved_all : Env → List Lying → Env
resolved_all env [] = env
resolved_all env (l ∷ ls) = resolved_all (resolved env l) ls

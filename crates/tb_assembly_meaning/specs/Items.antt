-- The items of statements.
use Rattle.std.specs.Prelude.{◌≡◌, ℕ, ◌%◌, ℤ, Bool, Option, Some, None, Result, Ok, Err, List, [], ◌∷◌, ◌++◌, replicate, eqb, if◌then◌else◌}
use Rattle.tb_asm.specs.declared.items.Operand.{Operand}
use Rattle.tb_asm.specs.declared.items.Operand.TheVariants.{Nothing, Byte, Word}
use Rattle.tb_asm.specs.Layout.{Entry, instr, bytes, distance, is_near, opcode_of, word_bytes}
use Rattle.tb_asm.specs.Settle.{inverse}
use Rattle.tb_opcodes.specs.declared.Mnemonic.{Mnemonic}
use Rattle.tb_opcodes.specs.declared.Mnemonic.TheVariants.{Jmp}
use Rattle.tb_opcodes.specs.declared.Mode.{Mode}
use Rattle.tb_opcodes.specs.declared.Mode.TheVariants.{Immediate, ZeroPage, ZeroPageX, ZeroPageY, IndirectX, IndirectY, Relative, Indirect, Absolute}
use Rattle.tb_assembly_text.specs.Expressions.{Sum}
use Rattle.tb_assembly_text.specs.Operands.{Form, nothing, accumulator, immediate, direct_by, indirect, by_x, by_y}
use Rattle.tb_assembly_text.specs.Lists.{Content, amount, letters}
use Rattle.tb_assembly_text.specs.Statements.{Meant, labels, assigns, begins, instructs, lays, lays_words, fills, aligns, includes}
use Rattle.tb_assembly_meaning.specs.declared.faults.Wrong.{Wrong}
use Rattle.tb_assembly_meaning.specs.declared.faults.Wrong.TheVariants.{TooFar, PageEnd}
use Rattle.tb_assembly_meaning.specs.declared.faults.MeaningFault.{MeaningFault}
use Rattle.tb_assembly_meaning.specs.declared.faults.MeaningError.{MeaningError}
use Rattle.tb_assembly_meaning.specs.declared.faults.MeaningError.TheVariants.{Bad, NoMemory}
use Rattle.tb_assembly_meaning.specs.declared.spots.Spot.{Spot}
use Rattle.tb_assembly_meaning.specs.Names.{Env}
use Rattle.tb_assembly_meaning.specs.Values.{value}
use Rattle.tb_assembly_meaning.specs.Modes.{long_target}
use Rattle.tb_assembly_meaning.specs.Bytes.{address_of, byte_of, word_of, zero_page_of}
use Rattle.tb_assembly_meaning.specs.Places.{and_then, capped, here_at, located}

-- whether a branch at an address reaches its target
abbrev pub reaches : ℕ → ℕ → Bool
reaches at target = is_near (distance at target)

-- the target of a branch at an address
abbrev pub branch_operand : ℕ → ℕ → Result Operand Wrong
branch_operand at target = if reaches at target then Ok (Word target) else Err TooFar

-- the pointer of an indirect jump
abbrev pub indirect_operand : ℕ → Result Operand Wrong
indirect_operand w = if eqb (w % 256) 255 then Err PageEnd else Ok (Word w)

-- what is made of something, unless it is refused
abbrev pub then_wrong : {A B : Type 0} → Result A Wrong → (A → Result B Wrong) → Result B Wrong
then_wrong (Ok v) f = f v
then_wrong (Err w) f = Err w

-- the operand of an instruction at an address in a mode, by its value
abbrev pub operand_value : Mode → ℕ → ℤ → Result Operand Wrong
operand_value Immediate at z = then_wrong (byte_of z) (λ b. Ok (Byte b))
operand_value ZeroPage at z = then_wrong (zero_page_of z) (λ b. Ok (Byte b))
operand_value ZeroPageX at z = then_wrong (zero_page_of z) (λ b. Ok (Byte b))
operand_value ZeroPageY at z = then_wrong (zero_page_of z) (λ b. Ok (Byte b))
operand_value IndirectX at z = then_wrong (zero_page_of z) (λ b. Ok (Byte b))
operand_value IndirectY at z = then_wrong (zero_page_of z) (λ b. Ok (Byte b))
operand_value Relative at z = then_wrong (address_of z) (branch_operand at)
operand_value Indirect at z = then_wrong (address_of z) indirect_operand
operand_value m at z = then_wrong (address_of z) (λ w. Ok (Word w))

-- the operand of an instruction by the expression of its address or its byte
abbrev pub value_operand : Env → Spot → Sum → Result Operand MeaningFault
value_operand env p e = and_then (value env (here_at p.at) e) (λ z. located e.0 (operand_value p.mode (capped p.at) z))

-- the operand of an instruction
abbrev pub form_operand : Env → Spot → Form → Result Operand MeaningFault
form_operand env p nothing = Ok Nothing
form_operand env p accumulator = Ok Nothing
form_operand env p (immediate e) = value_operand env p e
form_operand env p (direct_by w e i) = value_operand env p e
form_operand env p (indirect e) = value_operand env p e
form_operand env p (by_x e) = value_operand env p e
form_operand env p (by_y e) = value_operand env p e

-- a byte of an expression at an address
abbrev pub byte_value : Env → ℕ → Sum → Result ℕ MeaningFault
byte_value env at e = and_then (value env (here_at at) e) (λ z. located e.0 (byte_of z))

-- a word of an expression at an address
abbrev pub word_value : Env → ℕ → Sum → Result ℕ MeaningFault
word_value env at e = and_then (value env (here_at at) e) (λ z. located e.0 (word_of z))

-- the bytes of a datum
abbrev pub content_bytes : Env → ℕ → Content → Result (List ℕ) MeaningFault
content_bytes env at (amount e) = and_then (byte_value env at e) (λ b. Ok (b ∷ []))
content_bytes env at (letters t) = Ok t

-- the two bytes of a word of an expression
abbrev pub word_content : Env → ℕ → Sum → Result (List ℕ) MeaningFault
word_content env at e = and_then (word_value env at e) (λ w. Ok (word_bytes w))

-- bytes before others
abbrev pub before : Result (List ℕ) MeaningFault → Result (List ℕ) MeaningFault → Result (List ℕ) MeaningFault
before a b = and_then a (λ xs. and_then b (λ ys. Ok (xs ++ ys)))

-- the bytes of data
abbrev pub data_bytes : Env → ℕ → List Content → Result (List ℕ) MeaningFault
data_bytes env at [] = Ok []
data_bytes env at (c ∷ cs) = before (content_bytes env at c) (data_bytes env at cs)

-- the bytes of words
abbrev pub words_bytes : Env → ℕ → List Sum → Result (List ℕ) MeaningFault
words_bytes env at [] = Ok []
words_bytes env at (e ∷ es) = before (word_content env at e) (words_bytes env at es)

-- bytes of a value, of 0 if none is given
abbrev pub fill_bytes : Env → Spot → Option Sum → Result (List ℕ) MeaningFault
fill_bytes env p None = Ok (replicate p.size 0)
fill_bytes env p (Some e) = and_then (byte_value env p.at e) (λ b. Ok (replicate p.size b))

-- the bytes of a long branch: the inverse branch, which leads over the jump behind it, and the jump to the target
abbrev pub long_bytes : Mnemonic → ℕ → List ℕ
long_bytes m target = opcode_of (inverse m) Relative ∷ 3 ∷ opcode_of Jmp Absolute ∷ word_bytes target

-- those to the value of an expression at an address
abbrev pub long_content : Env → ℕ → Mnemonic → Sum → Result (List ℕ) MeaningFault
long_content env at m e = and_then (value env (here_at at) e) (λ z. and_then (located e.0 (address_of z)) (λ w. Ok (long_bytes m w)))

-- an item of bytes
abbrev pub as_bytes : Result (List ℕ) MeaningFault → Result (Option Entry) MeaningFault
as_bytes r = and_then r (λ bs. Ok (Some (bytes bs)))

-- the item of an instruction, which may be a long branch to a target
abbrev pub instruction_item : Env → Spot → Mnemonic → Form → Option Sum → Result (Option Entry) MeaningFault
instruction_item env p m form None = and_then (form_operand env p form) (λ o. Ok (Some (instr m p.mode o)))
instruction_item env p m form (Some e) = as_bytes (long_content env p.at m e)

-- the item of a statement that lies somewhere, if it is one; a name is none, but its value must be known
abbrev pub item_of : Env → Spot → Meant → Result (Option Entry) MeaningFault
item_of env p (labels n) = Ok None
item_of env p (includes f) = Ok None
item_of env p (assigns n e) = and_then (value env (here_at p.at) e) (λ z. Ok None)
item_of env p (begins e) = Ok (Some (bytes (replicate p.size 0)))
item_of env p (aligns e) = Ok (Some (bytes (replicate p.size 0)))
item_of env p (instructs m form) = instruction_item env p m form (long_target form p.mode)
item_of env p (lays cs) = as_bytes (data_bytes env p.at cs)
item_of env p (lays_words es) = as_bytes (words_bytes env p.at es)
item_of env p (fills n v) = as_bytes (fill_bytes env p v)

-- bytes are put behind others, or their fault is found, or memory ran out
abbrev pub Lays : {U : Type 0} → Result (List ℕ) MeaningFault → List ℕ → Result U MeaningError → List ℕ → Type 0
Lays wanted old (Ok u) new = and_then wanted (λ bs. Ok (old ++ bs)) ≡ Ok new
Lays wanted old (Err (Bad f)) new = wanted ≡ Err f
Lays wanted old (Err NoMemory) new = Unit {0}

-- What is made of a text.
use Rattle.std.specs.Prelude.{◌≡◌, ◌⊎◌, ◌≤◌, ℕ, ◌/◌, ◌%◌, Bool, true, false, Some, None, Result, Ok, Err, List, ◌∷◌, map}
use Rattle.tb_asm.specs.Layout.{Entry, entry_of, image_of}
use Rattle.tb_asm.specs.Assembled.{refusal, RefusesAt}
use Rattle.tb_asm.specs.declared.assembler.Image.{Image}
use Rattle.tb_assembly_text.specs.Statements.{Said}
use Rattle.tb_assembly_report.specs.declared.causes.Finding.{Finding}
use Rattle.tb_disasm.specs.Back.{GivesBack}
use Rattle.tb_assembly_files.specs.Libraries.{Source}
use Rattle.tb_assembly_files.specs.Expansion.{Read, expansion}
use Rattle.tb_assembly_meaning.specs.declared.meaning.Meaning.{Meaning}
use Rattle.tb_assembly_meaning.specs.Places.{Lying, laid_of}
use Rattle.tb_assembly_meaning.specs.Meaning.{base_of, faults_of, items_of, spots_of}
use Rattle.tb_assembly_meaning.specs.Settling.{Settles}
use Rattle.tb_assembly_report.specs.Reports.{report}
use Rattle.tb_assembly_output.specs.Names.{names_in}
use Rattle.tb_assembly_output.specs.Findings.{findings, is_nil}
use Rattle.tb_assembly_output.specs.Labels.{labels_text}
use Rattle.tb_assembly_output.specs.declared.assembling.Assembly.{Assembly}
use Rattle.tb_assembly_output.specs.declared.assembling.Manner.{Manner}
use Rattle.tb_assembly_output.specs.declared.assembling.Assembled.{Assembled}
use Rattle.tb_assembly_output.specs.declared.assembling.Assembled.TheVariants.{Unread, Wants, Refused, Made}
use Rattle.tb_assembly_output.specs.declared.assembling.AssemblyError.{AssemblyError}
use Rattle.tb_assembly_output.specs.declared.assembling.AssemblyError.TheVariants.{Item, NoMemory}

-- a PRG file: the address where it is loaded, low byte first, and the bytes
abbrev pub prg_of : ℕ → List ℕ → List ℕ
prg_of at bs = at % 256 ∷ at / 256 ∷ bs

-- what is written of an image and of where statements lie: the PRG file, the labels, and a listing that gives the image back
pub record IsWritten (at : ℕ) (bs : List ℕ) (ls : List Lying) (a : Assembly) : Type 0 where
  pub prg : a.prg.items ≡ prg_of at bs
  pub labels : a.labels.items ≡ labels_text ls
  pub back : GivesBack at a.listing.items bs

-- the image of items, which the assembler makes or refuses; none begins after the last address
abbrev pub Images : ℕ → List Entry → Result Image AssemblyError → Type 0
Images base es (Ok image) = (image.at ≡ base) × (refusal base es ≡ None) × (image.bytes.items ≡ image_of base es)
Images base es (Err (Item e)) = (65536 ≤ base) ⊎ RefusesAt (refusal base es) e.kind e.item
Images base es (Err NoMemory) = Unit {0}

-- what statements mean, of which the image begins at an address if they name no other
pub record IsMeaning (at : ℕ) (ss : List Said) (m : Meaning) : Type 0 where
  pub items : map entry_of m.items.items ≡ items_of at ss
  pub faults : m.faults.items ≡ faults_of at ss
  pub base : m.base ≡ base_of at ss
  pub laid : map laid_of m.laid.items ≡ spots_of at ss

-- what is made of items and of where they lie: all that is written of their image, unless the assembler refuses them
abbrev pub Makes : ℕ → List Entry → List Lying → Result Assembled AssemblyError → Type 0
Makes base es ls (Ok (Made a)) = (refusal base es ≡ None) × IsWritten base (image_of base es) ls a
Makes base es ls (Ok Unread) = ⊥
Makes base es ls (Ok (Wants p)) = ⊥
Makes base es ls (Ok (Refused text)) = ⊥
Makes base es ls (Err (Item e)) = (65536 ≤ base) ⊎ RefusesAt (refusal base es) e.kind e.item
Makes base es ls (Err NoMemory) = Unit {0}

-- what there is to say of all that is wrong
abbrev pub IsRefusal : List Source → List Said → List Finding → Assembled → Type 0
IsRefusal lib ss fs (Refused text) = text.items ≡ report lib (names_in ss) fs
IsRefusal lib ss fs Unread = ⊥
IsRefusal lib ss fs (Wants p) = ⊥
IsRefusal lib ss fs (Made a) = ⊥

-- what is answered of what was read, whose image begins at an address if it names no other: all that is wrong; or, if
-- nothing is, what the assembler makes of the items of its statements
abbrev pub AnswersRead : ℕ → List Source → Read → Result Assembled AssemblyError → Type 0
AnswersRead at lib r (Ok (Refused text)) = (is_nil (findings at r) ≡ false) × (text.items ≡ report lib (names_in r.said) (findings at r))
AnswersRead at lib r (Ok (Made a)) =
    (is_nil (findings at r) ≡ true) × (refusal (base_of at r.said) (items_of at r.said) ≡ None)
    × IsWritten (base_of at r.said) (image_of (base_of at r.said) (items_of at r.said)) (spots_of at r.said) a
AnswersRead at lib r (Ok Unread) = ⊥
AnswersRead at lib r (Ok (Wants p)) = ⊥
AnswersRead at lib r (Err (Item e)) =
    (is_nil (findings at r) ≡ true) × ((65536 ≤ base_of at r.said) ⊎ RefusesAt (refusal (base_of at r.said) (items_of at r.said)) e.kind e.item)
AnswersRead at lib r (Err NoMemory) = Unit {0}

-- what was read, with its statements as they are assembled: as they are, or with branches that are long so that each reaches
abbrev pub IsReadAs : Bool → ℕ → Read → Read → Type 0
IsReadAs false at r s = s ≡ r
IsReadAs true at r s = (ss : List Said) × Settles at r.said ss × (s ≡ record r { said = ss })

-- what is answered of what was read, by the manner
abbrev pub IsAnswered : Manner → List Source → Read → Result Assembled AssemblyError → Type 0
IsAnswered m lib r answer = (s : Read) × IsReadAs m.long m.at r s × AnswersRead m.at lib s answer

-- what is answered of what was read, by the manner, or memory ran out
abbrev pub AnswersBy : Manner → List Source → Read → Result Assembled AssemblyError → Type 0
AnswersBy m lib r (Ok a) = IsAnswered m lib r (Ok a)
AnswersBy m lib r (Err (Item e)) = IsAnswered m lib r (Err (Item e))
AnswersBy m lib r (Err NoMemory) = Unit {0}

-- what is answered of the files of a library: the first one could not be read, a file is wanted, or what is answered of
-- all that was read
abbrev pub Answers : Manner → List Source → Result Assembled AssemblyError → Type 0
Answers m lib (Ok Unread) = expansion lib ≡ None
Answers m lib (Ok (Wants p)) = expansion lib ≡ Some (Err p.items)
Answers m lib (Err NoMemory) = Unit {0}
Answers m lib (Ok (Refused text)) = (r : Read) × (expansion lib ≡ Some (Ok r)) × IsAnswered m lib r (Ok (Refused text))
Answers m lib (Ok (Made a)) = (r : Read) × (expansion lib ≡ Some (Ok r)) × IsAnswered m lib r (Ok (Made a))
Answers m lib (Err (Item e)) = (r : Read) × (expansion lib ≡ Some (Ok r)) × IsAnswered m lib r (Err (Item e))

-- The places of a program, and what it is that its listing names them.
use Rattle.std.specs.Prelude.{ℕ, ◌≡◌, ◌≤◌, ◌⊎◌, List, [], ◌∷◌, ◌++◌, Option, Some, None, Ok, codes, length, map}
use Rattle.tb_asm.specs.declared.names.Name.{Name}
use Rattle.tb_asm.specs.Layout.{Entry, address_in, image_of, labels_from}
use Rattle.tb_asm.specs.Assembled.{refusal}
use Rattle.tb_asm.specs.Names.{fold_byte, name_in}
use Rattle.tb_asm.specs.Text.{items_of_text}
use Rattle.tb_runtime16.specs.Addresses.{PROLOGUE_AT}
use Rattle.tb_basic_source.specs.Lines.{numbered}
use Rattle.tb_engine_listing.specs.Comments.{comment_on, comments, heading_on, headings, plain}
use Rattle.tb_engine_listing.specs.Labels.{block_labels, line_label}
use Rattle.tb_engine_listing.specs.Pieces.{Plan}
use Rattle.tb_engine_listing.specs.Rows.{named_text}
use Rattle.tb_engine_streams.specs.Streams.{most_input}

-- the names in a program's image: of the block and its routines, of each line, and of the line table
abbrev pub image_labels : List (ℕ × ℕ) → ℕ → List (List ℕ × ℕ)
image_labels starts table = block_labels ++ (map line_label starts ++ ((codes "line_table", table) ∷ []))

-- the address of a label by its name as it is written, in either case
abbrev pub written_at : List (Name × ℕ) → Option Name → Option ℕ
written_at labels None = None
written_at labels (Some n) = address_in labels n

-- a name is the label of its address
abbrev pub IsNamed : List (Name × ℕ) → List ℕ × ℕ → Type 0
IsNamed labels p = written_at labels (name_in (map fold_byte p.0)) ≡ Some p.1

-- each of these names is
abbrev pub AreNamed : List (Name × ℕ) → List (List ℕ × ℕ) → Type 0
AreNamed labels [] = Unit {0}
AreNamed labels (p ∷ ps) = IsNamed labels p × AreNamed labels ps

-- items assemble to an image without a refusal, and name places
pub record NamesItems (image : List ℕ) (places : List (List ℕ × ℕ)) (items : List Entry) : Type 0 where
  pub accepted : refusal PROLOGUE_AT items ≡ None
  pub same : image_of PROLOGUE_AT items ≡ image
  pub named : AreNamed (labels_from PROLOGUE_AT items) places

-- a text reads as such items
pub record Names (image : List ℕ) (places : List (List ℕ × ℕ)) (text : List ℕ) : Type 0 where
  pub items : List Entry
  pub read : items_of_text text ≡ Ok items
  pub names : NamesItems image places items

-- the places of a program that its listing names
abbrev pub places_of : Plan → List (List ℕ × ℕ)
places_of p = image_labels p.starts p.table

-- a text with names that is written: no longer than what can be read, and it gives the image back with each place under
-- its name
abbrev pub IsReadable : Plan → List ℕ → Type 0
IsReadable p text = (length text ≤ most_input) × Names p.image (places_of p) text

-- a text with names, if it can be written; else the listing without names
abbrev pub Shows : Plan → List ℕ → List ℕ → Type 0
Shows p text shown = ((shown ≡ text) × IsReadable p text) ⊎ ((shown ≡ plain p.image) × ¬ (IsReadable p text))

-- A listing with names: it gives the image back with each place of the program under its name. Its comments are the lines
-- of the source, in the order of their code, each directly above the label of its line. The rows below, with the texts in
-- their comments, are those of the program's pieces.
pub record IsNamedListing (source : List ℕ) (p : Plan) (text : List ℕ) : Type 0 where
  pub names : Names p.image (places_of p) text
  pub lines : comments text ≡ map (comment_on (numbered source)) p.starts
  pub headed : headings text ≡ map (heading_on (numbered source)) p.starts
  pub rows : text ≡ named_text source p

-- the plan of a program by its parts
abbrev pub plan_by : List (ℕ × ℕ) → ℕ → List ℕ → Plan
plan_by starts table image = record { image = image; starts = starts; table = table }

-- it is that, or the listing without names where the text with names can't be written
abbrev pub ShowsPlan : List ℕ → Plan → List ℕ → Type 0
ShowsPlan source p text = IsNamedListing source p text ⊎ ((text ≡ plain p.image) × ¬ (IsReadable p (named_text source p)))

-- that for a program by its parts
abbrev pub ShowsProgram : List ℕ → List (ℕ × ℕ) → ℕ → List ℕ → List ℕ → Type 0
ShowsProgram source starts table image text = ShowsPlan source (plan_by starts table image) text

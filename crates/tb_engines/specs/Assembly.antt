-- What assembling a text and listing a PRG file come to.
use Rattle.std.specs.Prelude.{◌≡◌, ℕ, List, ◌++◌, Option, Some, None, Result, Ok, Err}
use Rattle.tb_asm.specs.declared.errors.AsmErrorKind.{AsmErrorKind}
use Rattle.tb_asm.specs.Layout.{Entry, image_of, word_bytes}
use Rattle.tb_asm.specs.Assembled.{refusal}
use Rattle.tb_asm.specs.Text.{items_of_text}
use Rattle.tb_disasm.specs.Listing.{lines_of}
use Rattle.tb_disasm.specs.ListingText.{text_of}
use Rattle.tb_prg.specs.declared.PrgError.{PrgError}
use Rattle.tb_prg.specs.Prg.{content_of}
use Rattle.tb_engines.specs.Outcomes.{Product}
use Rattle.tb_engines.specs.declared.outcome.End.TheVariants.{Done}
use Rattle.tb_engines.specs.declared.outcome.Refusal.TheVariants.{TextLine, Item, Prg}

-- items at an address: the load address and the image, or the refusal with the number of its item
abbrev pub image_unless : Option (AsmErrorKind × ℕ) → ℕ → List Entry → Product
image_unless None at items = Ok (word_bytes at ++ image_of at items, Done)
image_unless (Some fault) at items = Err (Item (record { kind = fault.0; item = fault.1 }))

-- what the items of an assembler text come to at an address, or its first bad line, counted from 1
abbrev pub image_of_items : ℕ → Result (List Entry) ℕ → Product
image_of_items at (Ok items) = image_unless (refusal at items) at items
image_of_items at (Err line) = Err (TextLine line)

-- what comes of an assembler text at an address
abbrev pub Assembles : ℕ → List ℕ → Product → Type 0
Assembles at text product = product ≡ image_of_items at (items_of_text text)

-- the listing of a load address and the bytes there, or the refusal of a file that is no PRG file
abbrev pub listing_of : Result (ℕ × List ℕ) PrgError → Product
listing_of (Ok p) = Ok (text_of (lines_of p.0 p.1), Done)
listing_of (Err e) = Err (Prg e)

-- what comes of listing a PRG file
abbrev pub ListsPrg : List ℕ → Product → Type 0
ListsPrg file product = product ≡ listing_of (content_of file)

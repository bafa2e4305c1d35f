-- The laws of texts that both assemblers read.
use Rattle.std.specs.Prelude.{◌≡◌, ℕ, ◌<◌, ◌≤◌, true, false, Some, None, Ok, List, [], ◌∷◌}
use Rattle.std.specs.List.{list_any}
use Rattle.tb_asm.specs.Layout.{Entry}
use Rattle.tb_asm.specs.Assembled.{refusal}
use Rattle.tb_asm.specs.Text.{items_of_text}
use Rattle.tb_assembly_files.specs.Libraries.{Source}
use Rattle.tb_assembly_files.specs.Expansion.{Read, expansion}
use Rattle.tb_assembly_laws.specs.Items.{has_lone_return, has_low_number, none_shortened, all_shortened, Means}

-- a text as the first file of some
abbrev pub with_text : List ℕ → List ℕ → List Source → List Source
with_text path text lib = record { path = path; text = Some text } ∷ lib

-- what was read of a text, without a fault
abbrev pub IsRead : List Source → Read → Type 0
IsRead lib r = (expansion lib ≡ Some (Ok r)) × (r.bad ≡ [])

-- Each line of a text that `tbc asm` reads is read, whatever its items are.
abbrev pub LinesAgree : Type 0
LinesAgree = (path text : List ℕ) (lib : List Source) (es : List Entry) → items_of_text text ≡ Ok es → has_lone_return text ≡ false
    → (r : Read) × IsRead (with_text path text lib) r

-- A text of which `tbc asm` makes an image has statements that mean the same items, and so the same image.
abbrev pub ImagesAgree : Type 0
ImagesAgree = (at : ℕ) (path text : List ℕ) (lib : List Source) (es : List Entry) → at < 65536
    → items_of_text text ≡ Ok es → has_lone_return text ≡ false
    → refusal at es ≡ None → none_shortened [] at es ≡ true
    → (r : Read) × IsRead (with_text path text lib) r × Means at es r.said

-- Where addresses are shortened, it means the items that take one byte there.
abbrev pub ShortenedAgree : Type 0
ShortenedAgree = (at : ℕ) (path text : List ℕ) (lib : List Source) (es : List Entry) → at < 65536
    → items_of_text text ≡ Ok es → has_lone_return text ≡ false
    → refusal at (all_shortened [] at es) ≡ None
    → (r : Read) × IsRead (with_text path text lib) r × Means at (all_shortened [] at es) r.said

-- In an image that begins at 256 or above, one byte is taken for numbers below 256 alone.
abbrev pub LowAddressesAreNumbers : Type 0
LowAddressesAreNumbers = (at : ℕ) (es : List Entry) → 256 ≤ at → list_any has_low_number es ≡ false → none_shortened [] at es ≡ true

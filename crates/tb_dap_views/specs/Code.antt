-- The code of a run's memory, cut as listings cut it.
use Rattle.std.specs.Prelude.{ℕ, zero, suc, ◌+◌, ◌-◌, ◌&&◌, min, Bool, nat_le, nat_lt, List, [], ◌∷◌, ◌++◌, codes, drop, length, map, take, slice_get}
use Rattle.std.specs.Prelude.{Option, Some, None, if◌then◌else◌}
use Rattle.std.specs.Fmt.{decimal}
use Rattle.hex.specs.Hex.{encode_upper}
use Rattle.serde_json.specs.Data.{Data, array, item, member, no_items, no_members, number, object, string, unsigned}
use Rattle.serde_json.specs.View.{items_of}
use Rattle.tb_asm.specs.Layout.{Entry, size_of}
use Rattle.tb_compiled.specs.Compiled.{prg_of, starts_of}
use Rattle.tb_compiled.specs.declared.compiled.Compiled.{Compiled}
use Rattle.tb_debug.specs.Lines.{line_at}
use Rattle.tb_debug.specs.declared.debugger.Debugger.{Debugger}
use Rattle.tb_disasm.specs.Listing.{line_at as code_line}
use Rattle.tb_disasm.specs.ListingText.{item_text}
use Rattle.tb_kernal.specs.Machine.{state_of}
use Rattle.tb_memmap.specs.Regions.{BASIC_START, CODE_START}
use Rattle.tb_editor_navigation.specs.Remarks.{shown, trimmed}
use Rattle.tb_dap_views.specs.Memory.{many, readable, shifted}
use Rattle.tb_dap_views.specs.Sources.{line_of, source_of}
use Rattle.tb_dap_views.specs.Texts.{reference}
use Rattle.tb_dap_views.specs.declared.code.CodeRange.{CodeRange}
use Rattle.tb_dap_views.specs.declared.sources.SourceFile.{SourceFile}

-- ---- where instructions are

-- where the image of a program ends
abbrev pub image_end : Compiled → ℕ
image_end c = BASIC_START + min (length (prg_of c) - 2) 65536

-- code is cut at a place as in a listing of the image
abbrev pub is_code : (end place : ℕ) → Bool
is_code end a = nat_le CODE_START a && nat_lt a end

-- how many bytes of memory from a place on are looked at: of the image three at most, else one
abbrev pub looked_at : (end place : ℕ) → ℕ
looked_at end a = if is_code end a then min 3 (end - a) else 1

-- the bytes from a place on that are looked at and can be read
abbrev pub bytes_at : (ℕ → ℕ) → (end place : ℕ) → List ℕ
bytes_at m end a = readable (many a (looked_at end a)) m a

-- how many bytes the instruction of these is long; 1 of none
abbrev pub width_of : ℕ → List ℕ → ℕ
width_of a [] = 1
width_of a (b ∷ bs) = min (size_of (code_line a (b ∷ bs)).1) 3

-- the place behind the instruction at a place
abbrev pub behind : (ℕ → ℕ) → (end place : ℕ) → ℕ
behind m end a = if is_code end a then a + width_of a (bytes_at m end a) else a + 1

-- the places of n instructions at most, from one on
unfoldable pub places : ℕ → (ℕ → ℕ) → (end place : ℕ) → List ℕ
places zero m end a = []
places (suc n) m end a = if nat_lt a 65536 then a ∷ places n m end (behind m end a) else []

-- how many of these places come before one
abbrev pub count_before : ℕ → List ℕ → ℕ
count_before a [] = 0
count_before a (p ∷ places) = (if nat_lt p a then 1 else 0) + count_before a places

-- the index of the first of them that doesn't
abbrev pub index_of : List ℕ → Option ℕ → ℕ
index_of places (Some a) = count_before a places
index_of places None = 0

-- one of these places, by an index that may be none
abbrev pub place_in : List ℕ → Option ℕ → Option ℕ
place_in places (Some i) = slice_get places i
place_in places None = None

-- ---- instructions

-- an instruction as listings show it
abbrev pub content_text : Entry → List ℕ
content_text e = shown (trimmed (item_text e []))

-- what can't be read
abbrev pub invalid_value : ℕ → Data
invalid_value a =
    object (member (codes "address") (string (reference a)) (member (codes "instruction") (string (codes "--"))
    (member (codes "presentationHint") (string (codes "invalid")) no_members)))

-- an instruction within a line
abbrev pub inner_value : ℕ → (text bytes : List ℕ) → Data
inner_value a text bytes =
    object (member (codes "address") (string (reference a)) (member (codes "instruction") (string text)
    (member (codes "instructionBytes") (string (encode_upper bytes)) no_members)))

-- one at which a line begins
abbrev pub first_value : ℕ → (text bytes : List ℕ) → SourceFile → ℕ → Data
first_value a text bytes f n =
    object (member (codes "address") (string (reference a)) (member (codes "instruction") (string text)
    (member (codes "instructionBytes") (string (encode_upper bytes)) (member (codes "line") (number (unsigned (line_of f n)))
    (member (codes "location") (source_of f) (member (codes "symbol") (string (codes "line" ++ decimal n)) no_members))))))

-- an instruction, by the line that begins there
abbrev pub line_value : ℕ → (text bytes : List ℕ) → SourceFile → Option ℕ → Data
line_value a text bytes f (Some n) = first_value a text bytes f n
line_value a text bytes f None = inner_value a text bytes

-- the instruction of some bytes at a place
abbrev pub bytes_value : SourceFile → ℕ → List ℕ → Data
bytes_value f a [] = invalid_value a
bytes_value f a (b ∷ bs) =
    line_value a (content_text (code_line a (b ∷ bs)).1) (take (min (size_of (code_line a (b ∷ bs)).1) (length (b ∷ bs))) (b ∷ bs)) f
    (line_at (starts_of f.program.now) a)

-- the instruction at a place, or of none
abbrev pub place_value : SourceFile → (ℕ → ℕ) → (end : ℕ) → Option ℕ → Data
place_value f m end (Some a) = if nat_lt a 65536 then bytes_value f a (bytes_at m end a) else invalid_value 65536
place_value f m end None = invalid_value 65536

-- the n-th instruction from one on
abbrev pub value_at : SourceFile → (ℕ → ℕ) → (end : ℕ) → List ℕ → CodeRange → ℕ → Data
value_at f m end places range n =
    place_value f m end (place_in places (shifted (index_of places range.place + n) range.offset))

-- the first n instructions from one on
abbrev pub values_to : SourceFile → (ℕ → ℕ) → (end : ℕ) → List ℕ → CodeRange → ℕ → List Data
values_to f m end places range zero = []
values_to f m end places range (suc n) = values_to f m end places range n ++ value_at f m end places range n ∷ []

-- instructions
abbrev pub code_body : List Data → Data
code_body values = object (member (codes "instructions") (array (items_of values)) no_members)

-- instructions of a memory
abbrev pub code_in : SourceFile → (ℕ → ℕ) → (end : ℕ) → CodeRange → Data
code_in f m end range = code_body (values_to f m end (places 65536 m end 0) range range.count)

-- instructions of a run's memory
abbrev pub code_of : SourceFile → Debugger → CodeRange → Data
code_of f d range = code_in f (state_of d.present.machine).mem (image_end f.program.now) range

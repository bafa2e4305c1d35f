-- The table of a profile by address: what each instruction of a run took.
use Rattle.std.specs.Prelude.{ℕ, zero, suc, ◌≡◌, ◌+◌, ◌-◌, ◌%◌, ◌==◌, List, [], ◌∷◌, ◌++◌, codes, flat_map, length, take, Result, Ok, Err, if◌then◌else◌}
use Rattle.std.specs.Fmt.{decimal}
use Rattle.std.specs.declared.alloc.AllocError.{AllocError}
use Rattle.tb_words.specs.Hexadecimal.{four_digits}
use Rattle.tb_memmap.specs.Bytes.{peek}
use Rattle.tb_memmap.specs.declared.memory.Closed.{Closed}
use Rattle.tb_kernal.specs.declared.events.Event.{Event}
use Rattle.tb_kernal.specs.Numbers.{CHRIN, CHROUT, GETIN}
use Rattle.tb_kernal.specs.Machine.{Content}
use Rattle.tb_disasm.specs.Listing.{line_at}
use Rattle.tb_disasm.specs.ListingText.{item_text}
use Rattle.tb_engine_profile_table.specs.declared.rows.Row.{Row}
use Rattle.tb_engine_profile_table.specs.declared.rows.Table.{Table}
use Rattle.tb_engine_profile_table.specs.declared.rows.Whole.{Whole}
use Rattle.tb_engine_profile_table.specs.Figures.{percent, right, share}
use Rattle.tb_engine_profile_table.specs.Rows.{AddsUp, Tabled}

-- ---- the run

-- n addresses from a on, each as a line of its own
unfoldable pub each_from : ℕ → ℕ → List (ℕ × ℕ)
each_from zero a = []
each_from (suc n) a = (a, a) ∷ each_from n (suc a)

-- each address but 0, which a table has apart
unfoldable pub each_address : List (ℕ × ℕ)
each_address = each_from 65535 1

-- a run of at most `limit` events that an outside gave, and a table of all addresses, which adds up; none if memory ran out
abbrev pub ProfilesAddresses : {O : Type 0} → (O → Content → Event → O → Type 0) → O → Content → ℕ → Result Table AllocError → O → Content → Type 0
ProfilesAddresses gives o m limit (Ok table) p n = Tabled gives o m each_address limit table p n × AddsUp table
ProfilesAddresses gives o m limit (Err e) p n = Unit {0}

-- ---- what stands at an address

-- the bytes of which an instruction may be read, up to a closed address
abbrev pub up_to_closed : Result ℕ Closed → Result ℕ Closed → Result ℕ Closed → List ℕ
up_to_closed (Ok first) (Ok second) (Ok third) = first ∷ second ∷ third ∷ []
up_to_closed (Ok first) (Ok second) (Err closed) = first ∷ second ∷ []
up_to_closed (Ok first) (Err closed) third = first ∷ []
up_to_closed (Err closed) second third = []

-- a text without its last byte
abbrev pub but_last : List ℕ → List ℕ
but_last text = take (length text - 1) text

-- the instruction of these bytes at an address as a listing has it, or a dash if there are none
unfoldable pub instruction_text : ℕ → List ℕ → List ℕ
instruction_text a [] = codes "-"
instruction_text a (b ∷ bytes) = but_last (item_text (line_at a (b ∷ bytes)).1 [])

-- the instruction that a memory holds at an address
unfoldable pub instruction_in : (ℕ → ℕ) → ℕ → List ℕ
instruction_in m a = instruction_text a (up_to_closed (peek m a) (peek m ((a + 1) % 65536)) (peek m ((a + 2) % 65536)))

-- what stands at an address: a service of the ROM by its name, or an instruction
unfoldable pub code_text : (ℕ → ℕ) → ℕ → List ℕ
code_text m a =
    if a == CHRIN then codes "chrin" else if a == CHROUT then codes "chrout" else if a == GETIN then codes "getin" else instruction_in m a

-- ---- the table

-- a name in 5 columns, times in 11, cycles in 14, and the share of all cycles in 8
unfoldable pub taken_text : List ℕ → ℕ → ℕ → ℕ → List ℕ
taken_text name times cycles all = right 5 name ++ right 11 (decimal times) ++ right 14 (decimal cycles) ++ right 8 (percent (share cycles all))

-- the row of an address up to what stands there: its instruction was done as often as there were steps of it
unfoldable pub address_figures : ℕ → Row → List ℕ
address_figures all r = taken_text (four_digits r.line []) r.instructions r.cycles all

-- the row of an address
unfoldable pub address_text : (ℕ → ℕ) → ℕ → Row → List ℕ
address_text m all r = address_figures all r ++ codes "  " ++ code_text m r.line ++ codes "\n"

-- the row of an address where something was done; none of an address where nothing was
unfoldable pub address_row : (ℕ → ℕ) → ℕ → Row → List ℕ
address_row m all r = if r.instructions == 0 then [] else address_text m all r

-- the row of the whole run
unfoldable pub whole_row : Whole → List ℕ
whole_row whole = taken_text (codes "sum") whole.instructions whole.cycles whole.cycles ++ codes "\n"

-- the table: each address where something was done, address 0 first, and the sum; instructions are shown as a memory has them
unfoldable pub addresses_table : (ℕ → ℕ) → Table → List ℕ
addresses_table m table =
    codes " addr      times        cycles   share  instruction\n"
    ++ address_row m table.whole.cycles table.whole.start
    ++ flat_map (address_row m table.whole.cycles) table.rows.items
    ++ whole_row table.whole

-- What the bytes that CHROUT sends do to the screen.
use Rattle.std.specs.Prelude.{ℕ, ◌-◌, Bool, true, false, ◌||◌, not, nat_lt, bit_or, List, [], ◌∷◌, slice_set, if◌then◌else◌}
use Rattle.tb_machine_screen.specs.Contents.{Content}
use Rattle.tb_machine_screen.specs.Lines.{place, on_row_below, on_next_line, advanced}
use Rattle.tb_machine_screen.specs.Moves.{at_home, cleared, on_row_above, on_left, on_right, deleted, inserted}
use Rattle.tb_machine_screen.specs.Signs.{sign_of, code_of}
use Rattle.tb_machine_screen.specs.declared.signs.Sign.{Sign}
use Rattle.tb_machine_screen.specs.declared.signs.Sign.TheVariants.{Quote, Character, CarriageReturn, Delete, Insert, Home, Clear, Down, Up, Left, Right, ReverseOn, ReverseOff, Paint, Switch, Nothing}

-- the screen code that is shown: the highest bit reverses it
unfoldable pub shown_code : ℕ → Content → ℕ
shown_code b s = if s.reverse then bit_or (code_of b) 128 else code_of b

-- a byte shown at the cursor, which goes on; it is one of those that INST made space for, if there are any
unfoldable pub shown : ℕ → Content → Content
shown b s =
    advanced (record s {
      cells = slice_set s.cells (place s) (record { code = shown_code b s; colour = s.colour });
      inserts = s.inserts - 1;
    })

-- the next line, and the end of reverse, quote and insert mode
unfoldable pub returned : Content → Content
returned s = on_next_line (record s { column = 0; reverse = false; quoted = false; inserts = 0 })

-- what a byte does that is not shown
unfoldable pub acted : Sign → Content → Content
acted Delete s = deleted s
acted Insert s = inserted s
acted Home s = at_home s
acted Clear s = cleared s
acted Down s = on_row_below s
acted Up s = on_row_above s
acted Left s = on_left s
acted Right s = on_right s
acted ReverseOn s = record s { reverse = true }
acted ReverseOff s = record s { reverse = false }
acted (Paint colour) s = record s { colour = colour }
acted (Switch set) s = record s { set = set }
acted CarriageReturn s = returned s
acted Quote s = s
acted Character s = s
acted Nothing s = s

-- Whether a byte is shown: characters always, returns never. A control byte is shown in quote mode and where INST made
-- space; but DEL is done in quote mode, and INST where INST made space.
unfoldable pub is_shown : Sign → Content → Bool
is_shown Quote s = true
is_shown Character s = true
is_shown CarriageReturn s = false
is_shown Delete s = nat_lt 0 s.inserts
is_shown Insert s = s.quoted
is_shown sign s = s.quoted || nat_lt 0 s.inserts

-- a quotation mark turns quote mode on or off, before it is shown
unfoldable pub requoted : Sign → Content → Content
requoted Quote s = record s { quoted = not s.quoted }
requoted sign s = s

-- quote mode ends where INST made space for more
unfoldable pub settled : Content → Content
settled s = if nat_lt 0 s.inserts then record s { quoted = false } else s

-- a byte that is this sign
unfoldable pub printed_as : Sign → ℕ → Content → Content
printed_as sign b s = let t = requoted sign s in settled (if is_shown sign t then shown b t else acted sign t)

-- the screen after one byte
unfoldable pub printed : ℕ → Content → Content
printed b s = printed_as (sign_of b) b s

-- the screen after bytes, the first one first
unfoldable pub all_printed : List ℕ → Content → Content
all_printed [] s = s
all_printed (b ∷ bs) s = all_printed bs (printed b s)

-- Where the machine's screen can be shown.
use Rattle.std.specs.Prelude.{ℕ, Bool, false, ◌||◌, nat_lt, Option, Some, None, Result, Ok, Err, if◌then◌else◌}
use Rattle.tb_machine_screen.specs.Numbers.{COLUMNS, ROWS}
use Rattle.tb_program_jobs.specs.declared.failure.Failure.{Failure}
use Rattle.tb_program_jobs.specs.declared.failure.Failure.TheVariants.{NoTerminal, SmallTerminal}

-- a number is known, and below another one
abbrev pub is_below : Option ℕ → ℕ → Bool
is_below None least = false
is_below (Some told) least = nat_lt told least

-- whether the screen can be shown: on a terminal, of so many columns and lines, as far as they are known
abbrev pub screen_at : Bool → Option ℕ → Option ℕ → Result Unit Failure
screen_at is_terminal columns lines =
    if is_terminal then if is_below columns COLUMNS || is_below lines ROWS then Err SmallTerminal else Ok tt
    else Err NoTerminal

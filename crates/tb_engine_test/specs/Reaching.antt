-- How often the lines of a program were begun.
use Rattle.std.specs.Prelude.{ℕ, ◌+◌, ◌%◌, ◌^◌, List, [], ◌∷◌, map, nat_eq, sum_by, if◌then◌else◌}
use Rattle.tb_engine_profile_table.specs.declared.rows.Row.{Row}
use Rattle.tb_engine_test.specs.declared.reaching.Reach.{Reach}

-- what a row counted
abbrev pub as_reach : Row → Reach
as_reach row = record { number = row.line; times = row.times }

-- how often the first of these lines was begun; never, if there is none
abbrev pub first_times : List Reach → ℕ
first_times [] = 0
first_times (r ∷ counted) = r.times

-- the lines behind the first one
abbrev pub behind : List Reach → List Reach
behind [] = []
behind (r ∷ counted) = counted

-- the counts of two runs of one program, line by line; before the first run there are none
abbrev pub plus : List Reach → List Reach → List Reach
plus counted [] = []
plus counted (r ∷ more) =
    record { number = r.number; times = (first_times counted + r.times) % 2 ^ 64 } ∷ plus (behind counted) more

-- counts, and those of the stretches that follow
abbrev pub reached_from : List Reach → List (List Row) → List Reach
reached_from counted [] = counted
reached_from counted (rows ∷ later) = reached_from (plus counted (map as_reach rows)) later

-- the counts of all stretches of a run
abbrev pub reached : List (List Row) → List Reach
reached stretches = reached_from [] stretches

-- 1 for a line that was begun at least once
abbrev pub once : Reach → ℕ
once r = if nat_eq r.times 0 then 0 else 1

-- how many lines were begun at least once
abbrev pub reached_in : List Reach → ℕ
reached_in lines = sum_by once lines

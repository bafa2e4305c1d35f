-- What a program does, line by line.
use Rattle.std.specs.Prelude.{ℕ, true, false, List, [], ◌∷◌, replicate, if◌then◌else◌, Option, Some, None, slice_set}
use Rattle.tb_words.specs.Numbers.{LETTERS}
use Rattle.tb_basic_syntax.specs.Source.{Expression, Item, Text, Value, Zone, Statement, Let, Print, Input, If, Goto, Gosub, Return, End, Remark, Program, numbers}
use Rattle.tb_words.specs.Words.{holds, digits_of}
use Rattle.tb_basic_meaning.specs.Steps.{Ended, Step, Goes, Stops, and_then, Run, GoesOn, advance_by}
use Rattle.tb_basic_meaning.specs.Control.{Place, At, Past, State, content_at, first_place, fault, send, zone, fall, go_to, go_sub, go_back, poll, past}
use Rattle.tb_basic_meaning.specs.Input.{input}
use Rattle.tb_basic_meaning.specs.Values.{Valued, Gives, Fails, value}

-- a value is handed to what comes next, or its fault ends the run, at line n
abbrev pub with_value : {S : Type 0} → ℕ → Valued → State → (ℕ → State → Step S) → Step S
with_value n (Gives v seed) s go = go v (record s { seed = seed })
with_value n (Fails k) s go = fault k n

-- an expression is valued at line n, and what comes next takes its value
abbrev pub valued : {S : Type 0} → ℕ → Expression → State → (ℕ → State → Step S) → Step S
valued n e s go = with_value n (value e s.vars s.seed) s go

-- one item of PRINT
abbrev pub print_item : ℕ → Item → State → Step State
print_item n (Text t) s = send t s
print_item n (Value e) s = valued n e s (λ v s'. send (digits_of v) s')
print_item n Zone s = send (zone s.column) s

-- the items of PRINT one by one: a fault keeps what the earlier ones sent
abbrev pub print_items : ℕ → List Item → State → Step State
print_items n [] s = Goes s []
print_items n (i ∷ is) s = and_then (print_item n i s) (print_items n is)

-- INPUT of the variables in turn
abbrev pub inputs : ℕ → List ℕ → State → Step State
inputs n [] s = Goes s []
inputs n (x ∷ xs) s = and_then (input n x s) (inputs n xs)

-- a value is stored in a variable
abbrev pub stored : ℕ → ℕ → State → State
stored x v s = record s { vars = slice_set s.vars x v }

-- what a statement does, at line n of the lines ns
abbrev pub does : List ℕ → ℕ → Statement → State → Step State
does ns n (Let x e) s = valued n e s (λ v s'. fall ns n (stored x v s'))
does ns n (Print items true) s = and_then (print_items n items s) (λ s'. and_then (send (13 ∷ []) s') (fall ns n))
does ns n (Print items false) s = and_then (print_items n items s) (fall ns n)
does ns n (Input xs) s = and_then (inputs n xs s) (fall ns n)
does ns n (If l rel r c) s =
    valued n l s (λ a s'. valued n r s' (λ b s''. if holds rel a b then does ns n c s'' else fall ns n s''))
does ns n (Goto e) s = valued n e s (go_to ns n)
does ns n (Gosub e) s = valued n e s (go_sub ns n)
does ns n Return s = go_back n s
does ns n End s = Stops Ended []
does ns n Remark s = fall ns n s

-- the statement at a line, if there is one
abbrev pub does_found : List ℕ → ℕ → Option Statement → State → Step State
does_found ns n (Some c) s = and_then (poll n s) (does ns n c)
does_found ns n None s = past ns

-- what is done at a place
abbrev pub does_at : Program → Place → State → Step State
does_at program (At n) s = does_found (numbers program) n (content_at program n) s
does_at program Past s = past (numbers program)

-- the step of one line
abbrev pub line : Program → State → Step State
line program s = does_at program s.place s

-- the start: at the lowest line, all variables 0, no notes, no open line, nothing sent
abbrev pub start : List ℕ → ℕ → List ℕ → List ℕ → State
start ns seed text answers = record {
  place = first_place ns;
  vars = replicate LETTERS 0;
  seed = seed;
  returns = [];
  open_line = false;
  column = 0;
  text = text;
  answers = answers;
}

-- the run after m lines
abbrev pub source_run : Program → ℕ → List ℕ → List ℕ → ℕ → Run State
source_run program seed text answers m = advance_by (line program) m (GoesOn (start (numbers program) seed text answers) [])

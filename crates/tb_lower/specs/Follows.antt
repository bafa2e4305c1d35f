-- What it means that slot code has the runs of a program.
use Rattle.std.specs.Prelude.{◌≡◌, ℕ, ◌+◌, ◌*◌, ◌≤◌, max, List, [], ◌∷◌, length, Option, Some, None}
use Rattle.tb_basic_syntax.specs.Source.{Statement, Program, numbers}
use Rattle.tb_basic_syntax.specs.Texts.{statement_texts}
use Rattle.tb_lower.specs.Weights.{IsBounded, instr_texts}
use Rattle.tb_basic_meaning.specs.Steps.{Run, GoesOn, Over, sent_by}
use Rattle.tb_words.specs.Prefixes.{IsPrefix}
use Rattle.tb_basic_meaning.specs.Control.{State, content_at}
use Rattle.tb_basic_meaning.specs.Meaning.{source_run}
use Rattle.tb_lower.specs.Slots.{Instr, SlotCode, Whole, Slots, SlotState, slot_start, slot_run, beginnings}

-- the length of the longest list
abbrev pub longest : SlotCode → ℕ
longest [] = 0
longest (line ∷ lines) = max (length line.content) (longest lines)

-- the slot run is where the source's run is after m lines, and b beginnings of lists have passed
abbrev pub Meets : ℕ → Run State → Run SlotState → ℕ → Type 0
Meets m (GoesOn s out) r b =
    (slots : Slots) × (length slots.words ≡ 16) × (r ≡ GoesOn (record { state = s; rest = Whole; slots = slots }) out) × (b ≡ m)
Meets m (Over e out) r b = (r ≡ Over e out) × (b ≤ m)

-- what the slot run sent is a prefix of what the source's run sent, and its end is that run's
abbrev pub Agrees : Run SlotState → Run State → Type 0
Agrees (GoesOn c out) source = IsPrefix out (sent_by source)
Agrees (Over e out) source = source ≡ Over e out

-- a line's list: bounded by its statement kind by kind, with the texts of its items
abbrev pub IsListOf : Option Statement → Option (List Instr) → Type 0
IsListOf None None = Unit {0}
IsListOf (Some c) (Some is) = IsBounded c is × (instr_texts is ≡ statement_texts c)
IsListOf None (Some is) = ⊥
IsListOf (Some c) None = ⊥

-- The slot code has the program's runs, for each first seed, keyboard, first slots and first held word. For each m
-- some k, at most m times one more than the longest list, has the output and the end that the program has after
-- m lines, at the beginning of a list and in the same state if the run goes on. For each k the output is a prefix
-- of what some number of lines sends, and the end, if there is one, is the program's.
pub record Follows (program : Program) (code : SlotCode) : Type 0 where
  pub same_numbers : numbers code ≡ numbers program
  pub lists : (n : ℕ) → IsListOf (content_at program n) (content_at code n)
  pub reaches : (seed : ℕ) (text answers : List ℕ) (slots : Slots) → length slots.words ≡ 16 → (m : ℕ) → (k : ℕ) × (k ≤ m * (longest code + 1))
      × Meets m (source_run program seed text answers m) (slot_run code seed text answers slots k) (beginnings code k (slot_start code seed text answers slots))
  pub reaches_only : (seed : ℕ) (text answers : List ℕ) (slots : Slots) → length slots.words ≡ 16 → (k : ℕ) → (m : ℕ)
      × Agrees (slot_run code seed text answers slots k) (source_run program seed text answers m)

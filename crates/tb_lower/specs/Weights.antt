-- How many instructions of each kind a line's list has, as a bound on its weight under any weights.
use Rattle.std.specs.Prelude.{ℕ, ◌+◌, ◌*◌, ◌≤◌, List, [], ◌∷◌, length}
use Rattle.tb_basic_syntax.specs.Source.{Item, Text, Value, Zone, Statement, Let, Print, If, Goto, Gosub, Remark}
use Rattle.tb_basic_syntax.specs.Source as source
use Rattle.tb_lower.specs.Slots.{Instr, Put, Load, Store, Negate, Compute, Random, SendText, SendNumber, SendZone, SendNewline, Input, Hold, Poll, LeaveUnless, Jump, Call, JumpTo, CallTo, Return}
use Rattle.tb_lower.specs.Slots as slots
use Rattle.tb_basic_meaning.specs.Cost.{nodes}

-- a weight for each kind of instruction: work is put, load, negation, arithmetic and RND, an item is one send of a
-- text or a number, a byte one of a text, a move one GOTO, GOSUB or RETURN
pub record Weights : Type 0 where
  pub work : ℕ
  pub store : ℕ
  pub item : ℕ
  pub byte : ℕ
  pub zone : ℕ
  pub newline : ℕ
  pub input : ℕ
  pub hold : ℕ
  pub leave : ℕ
  pub move : ℕ
  pub stop : ℕ
  pub poll : ℕ

-- what an instruction weighs; a text by its bytes too
abbrev pub weight : Weights → Instr → ℕ
weight w (Put k n) = w.work
weight w (Load k x) = w.work
weight w (Store x) = w.store
weight w (Negate k) = w.work
weight w (Compute op k) = w.work
weight w (Random k) = w.work
weight w (SendText t) = w.item + w.byte * length t
weight w SendNumber = w.item
weight w SendZone = w.zone
weight w SendNewline = w.newline
weight w (Input x) = w.input
weight w Poll = w.poll
weight w Hold = w.hold
weight w (LeaveUnless rel) = w.leave
weight w Jump = w.move
weight w Call = w.move
weight w (JumpTo target) = w.move
weight w (CallTo target) = w.move
weight w Return = w.move
weight w slots.End = w.stop

-- what a list weighs
abbrev pub weigh : Weights → List Instr → ℕ
weigh w [] = 0
weigh w (i ∷ is) = weight w i + weigh w is

-- the most that an item's parts may weigh
abbrev pub item_share : Weights → Item → ℕ
item_share w (Text t) = w.item + w.byte * length t
item_share w (Value e) = w.item + w.work * nodes e
item_share w Zone = w.zone

-- the most that the items of a PRINT may weigh
abbrev pub items_share : Weights → List Item → ℕ
items_share w [] = 0
items_share w (i ∷ is) = item_share w i + items_share w is

-- the most that a statement's parts may weigh
abbrev pub share : Weights → Statement → ℕ
share w (Let x e) = w.work * nodes e
share w (Print items ends) = items_share w items
share w (source.Input xs) = w.input * length xs
share w (If l rel r c) = w.hold + w.leave + w.work * nodes l + w.work * nodes r + share w c
share w (Goto e) = w.move + w.work * nodes e
share w (Gosub e) = w.move + w.work * nodes e
share w source.Return = w.move
share w source.End = 0
share w Remark = 0

-- at most one store, one newline, one stop and one poll, and as many of the others as the statement has parts: work for
-- each node of an expression, an item for each text and value, and so on
abbrev pub IsBounded : Statement → List Instr → Type 0
IsBounded c is = (w : Weights) → weigh w is ≤ w.store + w.newline + w.stop + w.poll + share w c

-- the texts that a list sends, in order
abbrev pub instr_texts : List Instr → List (List ℕ)
instr_texts [] = []
instr_texts (SendText t ∷ is) = t ∷ instr_texts is
instr_texts (_ ∷ is) = instr_texts is

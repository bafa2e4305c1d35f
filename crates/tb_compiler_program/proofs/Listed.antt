-- What holds of code that is chosen by cases.
use Rattle.std.proofs.Common.{◌≡◌, ℕ, Bool, List, ◌∷◌, ◌++◌, refl}
use Rattle.tb_asm.specs.Layout.{Entry}
use Rattle.tb_lower.specs.Slots.{Instr, Poll}
use Rattle.tb_compiler_selection.specs.Select.{select}
use Rattle.tb_compiler_templates.specs.Breaks.{polled, behind, some_leaves}
use Rattle.tb_words.specs.declared.Rel.{Rel}
use Rattle.tb_words.specs.declared.Rel.TheVariants.{Eq, Lt, Gt, Le, Ge, Ne}
use Rattle.tb_compiler_templates.specs.declared.labels.Target.{Target}
use Rattle.tb_compiler_templates.specs.declared.sources.Source.{Source}
use Rattle.tb_compiler_templates.specs.Orders.{order_of, ordered_by}
use Rattle.tb_compiler_templates.specs.declared.orders.Side.{Side}
use Rattle.tb_compiler_templates.specs.declared.orders.Order.{Order}
use Rattle.tb_compiler_templates.specs.declared.orders.Side.TheVariants.{Below, NotBelow}
use Rattle.tb_compiler_templates.specs.GroupTemplates.{equal, unequal, tested}
use Rattle.tb_compiler_program.specs.Program.{rest_code, list_code}

-- what holds of a list's groups, and of those after a poll with the STOP key's code about them, holds of the list's code
pub by_poll : (P : List Entry → Type 0) (ns : List ℕ) (seed n : ℕ) (is : List Instr)
    → ((js : List Instr) (away : Bool) → is ≡ Poll ∷ js → P (polled away n ++ (rest_code ns seed n 1 (select js) ++ behind away n)))
    → P (rest_code ns seed n 1 (select is)) → P (list_code ns seed n is)
by_poll P ns seed n (Poll ∷ is) f g = f is (some_leaves (select is)) refl
by_poll P ns seed n is f g = g

-- what holds of each way to test two words holds of every test of them
pub tested_by : (P : List Entry → Type 0) (skip next : Target) → ((a b : Source) → P (equal a b next)) → ((a b : Source) → P (unequal a b skip next))
    → ((order : Order) (side : Side) → P (ordered_by order side skip next)) → (rel : Rel) (a b : Source) → P (tested rel a b skip next)
tested_by P skip next same other ordered Eq a b = same a b
tested_by P skip next same other ordered Ne a b = other a b
tested_by P skip next same other ordered Lt a b = ordered (order_of a b) Below
tested_by P skip next same other ordered Ge a b = ordered (order_of a b) NotBelow
tested_by P skip next same other ordered Gt a b = ordered (order_of b a) Below
tested_by P skip next same other ordered Le a b = ordered (order_of b a) NotBelow

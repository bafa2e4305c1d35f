-- The crate's groups as plain data.
use Rattle.std.specs.Prelude.{ℕ, List, map, reverse, Option}
use Rattle.tb_words.specs.Letters.{letter_index}
use Rattle.tb_words.specs.declared.Letter.{Letter}
use Rattle.tb_lower.specs.PlainData.{instr_of}
use Rattle.tb_compiler_selection.specs.declared.groups.Operand as operand
use Rattle.tb_compiler_selection.specs.declared.groups.Operand.TheVariants as operands
use Rattle.tb_compiler_selection.specs.declared.groups.Home as home
use Rattle.tb_compiler_selection.specs.declared.groups.Home.TheVariants as homes
use Rattle.tb_compiler_selection.specs.declared.groups.Destination as destination
use Rattle.tb_compiler_selection.specs.declared.groups.Destination.TheVariants as destinations
use Rattle.tb_compiler_selection.specs.declared.groups.Tested as tested
use Rattle.tb_compiler_selection.specs.declared.groups.Tested.TheVariants as testeds
use Rattle.tb_compiler_selection.specs.declared.groups.Conversion as conversion
use Rattle.tb_compiler_selection.specs.declared.groups.Conversion.TheVariants as conversions
use Rattle.tb_compiler_selection.specs.declared.groups.Usage as usage
use Rattle.tb_compiler_selection.specs.declared.groups.Usage.TheVariants as usages
use Rattle.tb_compiler_selection.specs.declared.groups.Divisibility as divisibility
use Rattle.tb_compiler_selection.specs.declared.groups.Divisibility.TheVariants as divisibilities
use Rattle.tb_compiler_selection.specs.declared.groups.Side as side
use Rattle.tb_compiler_selection.specs.declared.groups.Side.TheVariants as sides
use Rattle.tb_compiler_selection.specs.declared.groups.Group as group
use Rattle.tb_compiler_selection.specs.declared.groups.Group.TheVariants as groups
use Rattle.tb_compiler_selection.specs.declared.liveness.Live.{Live}
use Rattle.tb_compiler_selection.specs.declared.selecting.Placed.{Placed}
use Rattle.tb_compiler_selection.specs.Groups.{Operand, Constant, Variable, InSlot, Home, IntoVariable, IntoHeld, Destination, IntoSlot, IntoHome, Tested, HeldBefore}
use Rattle.tb_compiler_selection.specs.Groups.{HeldNow, Conversion, Negated, Drawn, Usage, AsNumber, AsLine, AsSubroutine, Divisibility, Divisible, Indivisible, Side}
use Rattle.tb_compiler_selection.specs.Groups.{OnLeft, OnRight, Group, Calculate, Stepped, Convert, Move, Use, Test, TestGo, Divides, Remains, Single}

-- an operand; a letter by its index, 0 for A
abbrev pub operand_of : operand.Operand → Operand
operand_of (operands.Constant w) = Constant w
operand_of (operands.Variable x) = Variable (letter_index x)
operand_of operands.InSlot = InSlot

-- where slot 0 goes
abbrev pub home_of : home.Home → Home
home_of (homes.IntoVariable x) = IntoVariable (letter_index x)
home_of homes.IntoHeld = IntoHeld

-- where a result goes
abbrev pub destination_of : destination.Destination → Destination
destination_of (destinations.IntoSlot k) = IntoSlot k
destination_of (destinations.IntoHome h) = IntoHome (home_of h)

-- the left word of a test
abbrev pub tested_of : tested.Tested → Tested
tested_of testeds.HeldBefore = HeldBefore
tested_of (testeds.HeldNow a) = HeldNow (operand_of a)

-- two operands
abbrev pub both_of : operand.Operand × operand.Operand → Operand × Operand
both_of words = (operand_of words.0, operand_of words.1)

-- the two words of a test
abbrev pub words_of : tested.Tested × operand.Operand → Tested × Operand
words_of words = (tested_of words.0, operand_of words.1)

-- what is made of one word
abbrev pub conversion_of : conversion.Conversion → Conversion
conversion_of conversions.Negated = Negated
conversion_of conversions.Drawn = Drawn

-- what one word is used as
abbrev pub usage_of : usage.Usage → Usage
usage_of usages.AsNumber = AsNumber
usage_of usages.AsLine = AsLine
usage_of usages.AsSubroutine = AsSubroutine

-- what is asked about a multiple
abbrev pub divisibility_of : divisibility.Divisibility → Divisibility
divisibility_of divisibilities.Divisible = Divisible
divisibility_of divisibilities.Indivisible = Indivisible

-- the side of a test
abbrev pub side_of : side.Side → Side
side_of sides.OnLeft = OnLeft
side_of sides.OnRight = OnRight

-- a group
abbrev pub group_of : group.Group → Group
group_of (groups.Calculate op a b d) = Calculate op (operand_of a) (operand_of b) (destination_of d)
group_of (groups.Stepped op a b by w x) = Stepped op (operand_of a) (operand_of b) by w (letter_index x)
group_of (groups.Convert what a d) = Convert (conversion_of what) (operand_of a) (destination_of d)
group_of (groups.Move a h) = Move (operand_of a) (home_of h)
group_of (groups.Use how a) = Use (usage_of how) (operand_of a)
group_of (groups.Test rel a b) = Test rel (tested_of a) (operand_of b)
group_of (groups.TestGo rel a b to) = TestGo rel (tested_of a) (operand_of b) to
group_of (groups.Divides how x d s to) = Divides (divisibility_of how) (letter_index x) (operand_of d) (side_of s) to
group_of (groups.Remains x d to) = Remains (letter_index x) (operand_of d) (destination_of to)
group_of (groups.Single i) = Single (instr_of i.now)

-- groups with the last one first, each with what is live after it
abbrev pub placed_of : Placed → Group × Live
placed_of p = (group_of p.group, p.behind)

-- these groups, the first one first
abbrev pub in_order : List Placed → List (Group × Live)
in_order ps = reverse (map placed_of ps)

-- the groups of these
abbrev pub groups_in : List (Group × Live) → List Group
groups_in ps = map (λ p. p.0) ps

-- the quotient that groups of a multiple have in common
abbrev pub multiple_of : ℕ × Letter × operand.Operand → ℕ × ℕ × Operand
multiple_of m = (m.0, letter_index m.1, operand_of m.2)

-- a slot times a word, as plain data
abbrev pub factor_of : ℕ × operand.Operand → ℕ × Operand
factor_of f = (f.0, operand_of f.1)

-- a variable alone in a slot, as plain data
abbrev pub loaded_of : ℕ × Letter → ℕ × ℕ
loaded_of l = (l.0, letter_index l.1)

-- what a test of slot 0 with a variable asks for, as plain data
abbrev pub equality_of : divisibility.Divisibility × Letter × Option ℕ → Divisibility × ℕ × Option ℕ
equality_of t = (divisibility_of t.0, letter_index t.1, t.2)

-- what a test of the held word with slot 0 asks for, as plain data
abbrev pub against_of : divisibility.Divisibility × Option ℕ → Divisibility × Option ℕ
against_of t = (divisibility_of t.0, t.1)

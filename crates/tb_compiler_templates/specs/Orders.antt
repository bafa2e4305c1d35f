-- How the order of two signed words is decided, and the code for it.
use Rattle.std.specs.Prelude.{ℕ, ◌+◌, ◌/◌, ◌%◌, List, [], ◌∷◌, ◌++◌, if◌then◌else◌, nat_eq}
use Rattle.tb_opcodes.specs.declared.Mnemonic.{Mnemonic}
use Rattle.tb_opcodes.specs.declared.Mnemonic.TheVariants.{Bcc, Bcs, Beq, Bmi, Bne, Bpl, Bvc, Cmp, Eor, Lda, Ora, Sbc}
use Rattle.tb_asm.specs.Layout.{Entry}
use Rattle.tb_compiler_templates.specs.declared.labels.Target.{Target}
use Rattle.tb_compiler_templates.specs.Templates.{const, branch, here}
use Rattle.tb_compiler_templates.specs.Sources.{Source, FixedWord, AtAddress, IsWhole, low_of, high_of}
pub use Rattle.tb_compiler_templates.specs.declared.orders.Side.{Side}
pub use Rattle.tb_compiler_templates.specs.declared.orders.Side.TheVariants.{Below, NotBelow}
pub use Rattle.tb_compiler_templates.specs.declared.orders.Order.{Order}
pub use Rattle.tb_compiler_templates.specs.declared.orders.Order.TheVariants.{BySign, ByPositive, ByConstant, ByDifference}

-- ── how it is decided ──
-- by a word against a constant; if that is 0, the sign is enough, and if it is 1, whether the word is positive
abbrev pub against : Side → Source → ℕ → Order
against side a w = if nat_eq w 0 then BySign side a else if nat_eq w 1 then ByPositive side a else ByConstant side a w

-- whether a word is below the one at an address: for a constant, whether that one is not below the constant's successor
abbrev pub before_word : Source → ℕ → Order
before_word (FixedWord v) q = if nat_eq v 32767 then ByDifference (FixedWord v) (AtAddress q) else against NotBelow (AtAddress q) ((v + 1) % 65536)
before_word (AtAddress p) q = ByDifference (AtAddress p) (AtAddress q)

-- whether a word is below another one
abbrev pub order_of : Source → Source → Order
order_of a (FixedWord w) = against Below a w
order_of a (AtAddress q) = before_word a q

-- the high bytes of its words are at addresses too
abbrev pub AreWhole : Order → Type 0
AreWhole (BySign side a) = IsWhole a
AreWhole (ByPositive side a) = IsWhole a
AreWhole (ByConstant side a w) = IsWhole a
AreWhole (ByDifference a b) = IsWhole a × IsWhole b

-- ── its code ──
-- the other side
abbrev pub other_side : Side → Side
other_side Below = NotBelow
other_side NotBelow = Below

-- the side itself if what it tells is wanted, else the other one
abbrev pub wanted_side : Side → Side → Side
wanted_side Below side = side
wanted_side NotBelow side = other_side side

-- the branch that leaves unless a word is on a side of another one, by N
abbrev pub unless_negative : Side → Mnemonic
unless_negative Below = Bpl
unless_negative NotBelow = Bmi

-- the branch that leaves unless a word is on a side of another one, by C
abbrev pub unless_carry : Side → Mnemonic
unless_carry Below = Bcs
unless_carry NotBelow = Bcc

-- N tells whether a word is below 0
abbrev pub signed : Side → Source → Target → List Entry
signed side a next = high_of Lda a ∷ branch (unless_negative side) next ∷ []

-- N tells whether a word is below 0, and then Z whether it is 0
abbrev pub positive : Side → Source → Target → Target → List Entry
positive Below a skip next = high_of Lda a ∷ branch Bmi skip ∷ low_of Ora a ∷ branch Bne next ∷ here skip ∷ []
positive NotBelow a skip next = high_of Lda a ∷ branch Bmi next ∷ low_of Ora a ∷ branch Beq next ∷ []

-- C tells whether a word is at least a constant: with their highest bits turned they are compared as if they had no sign
abbrev pub lifted_both : Source → ℕ → List Entry
lifted_both a w = low_of Lda a ∷ const Cmp (w % 256) ∷ high_of Lda a ∷ const Eor 128 ∷ const Sbc ((w / 256 + 128) % 256) ∷ []

-- the high bytes alone tell it if the constant's low byte is 0
abbrev pub lifted_high : Source → ℕ → List Entry
lifted_high a w = high_of Lda a ∷ const Eor 128 ∷ const Cmp ((w / 256 + 128) % 256) ∷ []

abbrev pub lifted : Source → ℕ → List Entry
lifted a w = if nat_eq (w % 256) 0 then lifted_high a w else lifted_both a w

-- N after the difference of two signed words, turned if V is set, tells whether a is below b
abbrev pub weighed : Side → Source → Source → Target → Target → List Entry
weighed side a b skip next =
    low_of Lda a ∷ low_of Cmp b ∷ high_of Lda a ∷ high_of Sbc b ∷ branch Bvc skip ∷ const Eor 128 ∷ here skip ∷ branch (unless_negative side) next ∷ []

-- leaves unless a word is on the wanted side of another one, by how that is decided
abbrev pub ordered_by : Order → Side → Target → Target → List Entry
ordered_by (BySign side a) wanted skip next = signed (wanted_side wanted side) a next
ordered_by (ByPositive side a) wanted skip next = positive (wanted_side wanted side) a skip next
ordered_by (ByConstant side a w) wanted skip next = lifted a w ++ (branch (unless_carry (wanted_side wanted side)) next ∷ [])
ordered_by (ByDifference a b) wanted skip next = weighed wanted a b skip next

-- leaves unless a word is on the wanted side of another one
abbrev pub ordered : Side → Source → Source → Target → Target → List Entry
ordered wanted a b skip next = ordered_by (order_of a b) wanted skip next

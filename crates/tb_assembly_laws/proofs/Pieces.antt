-- Lines as they are written: what both scanners see of them.
use Rattle.std.proofs.Common.{ℕ, ◌<◌, Bool, true, false, List, [], ◌∷◌, map}
use Rattle.tb_asm.specs.declared.parts.Part.{Part}
use Rattle.tb_asm.specs.declared.parts.Part.TheVariants.{TwoDigits, FourDigits, Hash, Less, Greater, Left, Right, Comma, Colon}
use Rattle.tb_asm.specs.Names.{fold_byte}
use Rattle.tb_asm.specs.Parts.{identifier}
use Rattle.tb_assembly_text.specs.declared.tokens.Sign.TheVariants as sign_of
use Rattle.tb_assembly_text.specs.Tokens.{Placed, word, number, sign}

-- a part of a line: a word by its letters, a number by its value, or a sign
pub data Piece : Type 0 where
  letters : List ℕ → Piece
  two : ℕ → Piece
  four : ℕ → Piece
  hash : Piece
  less : Piece
  greater : Piece
  left : Piece
  right : Piece
  comma : Piece
  colon : Piece

-- a part with its column
abbrev pub Written : Type 0
Written = ℕ × Piece

-- as `tbc asm` sees it
abbrev pub part : Written → Part
part (c, letters w) = identifier (map fold_byte w)
part (c, two n) = TwoDigits n
part (c, four n) = FourDigits n
part (c, hash) = Hash
part (c, less) = Less
part (c, greater) = Greater
part (c, left) = Left
part (c, right) = Right
part (c, comma) = Comma
part (c, colon) = Colon

-- as `tbc assemble` sees it
abbrev pub token : Written → Placed
token (c, letters w) = (c, word w)
token (c, two n) = (c, number n)
token (c, four n) = (c, number n)
token (c, hash) = (c, sign sign_of.Hash)
token (c, less) = (c, sign sign_of.Less)
token (c, greater) = (c, sign sign_of.Greater)
token (c, left) = (c, sign sign_of.Left)
token (c, right) = (c, sign sign_of.Right)
token (c, comma) = (c, sign sign_of.Comma)
token (c, colon) = (c, sign sign_of.Colon)

-- whether two signs come one after the other that `tbc assemble` may read as one
abbrev pub doubles : List Written → Bool
doubles [] = false
doubles ((c, less) ∷ (d, less) ∷ qs) = true
doubles ((c, greater) ∷ (d, greater) ∷ qs) = true
doubles (q ∷ qs) = doubles qs

-- a number is one of two or of four digits
abbrev pub IsSound : Written → Type 0
IsSound (c, two n) = n < 256
IsSound (c, four n) = n < 65536
IsSound q = Unit {0}

-- all are
abbrev pub AreSound : List Written → Type 0
AreSound [] = Unit {0}
AreSound (q ∷ qs) = IsSound q × AreSound qs

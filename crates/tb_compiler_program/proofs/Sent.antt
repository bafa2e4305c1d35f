-- Texts of one byte: which they are, and that their items are plain and few.
use Rattle.std.proofs.Common.{◌≡◌, ℕ, ◌<◌, Bool, true, false, List, [], ◌∷◌, Option, Some, None, refl}
use Rattle.std.specs.Prelude.{if◌then◌else◌, nat_lt}
use Rattle.std.proofs.lemmas.Bool.{ltb-true}
use Rattle.tb_opcodes.specs.declared.Mnemonic.TheVariants.{Jsr, Lda}
use Rattle.tb_runtime16.specs.Addresses.{SEND_AT}
use Rattle.tb_compiler_templates.specs.Templates.{byte_sent, only_byte}
use Rattle.tb_compiler_templates.proofs.Plain.{ArePlain, ◌▹◌, absolute, immediate}

-- the only byte of a text, or none
pub data IsOnly : List ℕ → Option ℕ → Type 0 where
  only : (b : ℕ) → b < 256 → IsOnly (b ∷ []) (Some b)
  other : (bs : List ℕ) → IsOnly bs None

-- the choice of a text's only byte is right
pub only_is : (bs : List ℕ) → IsOnly bs (only_byte bs)
only_is [] = other []
only_is (b ∷ []) = by (nat_lt b 256) refl
  where
    by : (t : Bool) → nat_lt b 256 ≡ t → IsOnly (b ∷ []) (if t then Some b else None)
    by true e = only b (ltb-true b 256 e)
    by false e = other (b ∷ [])
only_is (b ∷ c ∷ bs) = other (b ∷ c ∷ bs)

-- the items that send a byte are plain
pub byte_plain : (b : ℕ) → ArePlain (byte_sent b)
byte_plain b = (immediate Lda b refl ▹ absolute Jsr SEND_AT refl ▹ tt)

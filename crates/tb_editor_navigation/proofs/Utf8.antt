-- Texts that are UTF-8, or not.
use Rattle.std.proofs.Common.{◌≡◌, ℕ, Bool, true, false, List, [], refl}
use Rattle.std.specs.Str.{IsUtf8, is_utf8}
use Rattle.std.proofs.lemmas.Str.{IsUtf8-from_is_utf8, is_utf8-from_IsUtf8}
use Rattle.tb_editor_navigation.specs.Remarks.{shown}

-- one that is is shown
pub valid : (text bytes : List ℕ) → text ≡ bytes → IsUtf8 bytes → text ≡ shown bytes
valid text bytes is utf8 = rw (is_utf8-from_IsUtf8 bytes utf8) is

-- of one that isn't nothing is
pub invalid : (bytes : List ℕ) → (IsUtf8 bytes → ⊥) → [] ≡ shown bytes
invalid bytes not = go (is_utf8 bytes) refl
  where
    go : (is : Bool) → is_utf8 bytes ≡ is → [] ≡ shown bytes
    go true e = absurd (not (IsUtf8-from_is_utf8 bytes e))
    go false e = rw e refl

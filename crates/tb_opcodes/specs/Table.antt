-- What the list of opcodes gives.
use Rattle.std.specs.Prelude.{ℕ, ◌≡◌, ◌↔◌, Some, map, length, nat_eq, Contains}
use Rattle.std.specs.List.{IsDistinct}
use Rattle.tb_opcodes.specs.declared.Mnemonic.{Mnemonic}
use Rattle.tb_opcodes.specs.declared.Mode.{Mode}
use Rattle.tb_opcodes.specs.Opcodes.{row, rows, decoded, encoded}

-- the list has the row of an opcode, a mnemonic and a mode
abbrev pub IsListed : ℕ → Mnemonic → Mode → Type 0
IsListed o n m = Contains rows (row o n m)

-- the list has 151 rows, no opcode and no pair of mnemonic and mode occurs in it twice,
-- and an opcode decodes to a pair, the pair encodes to it, and both are listed, exactly together
pub record IsTable : Type 0 where
  pub count : length rows ≡ 151
  pub opcodes_differ : IsDistinct nat_eq (map (λ r. r.opcode) rows)
  pub pairs_differ : (o p : ℕ) (n : Mnemonic) (m : Mode) → IsListed o n m → IsListed p n m → o ≡ p
  pub decodes : (o : ℕ) (n : Mnemonic) (m : Mode) → IsListed o n m ↔ (decoded o ≡ Some (n, m))
  pub encodes : (o : ℕ) (n : Mnemonic) (m : Mode) → IsListed o n m ↔ (encoded n m ≡ Some o)
  pub inverse : (o : ℕ) (n : Mnemonic) (m : Mode) → (decoded o ≡ Some (n, m)) ↔ (encoded n m ≡ Some o)

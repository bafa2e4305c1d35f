-- The goals of `capital_by` in src/setting.rt.
use Rattle.std.proofs.Common.{rules, ◌≡◌, ◌≤◌, ◌<◌, ◌-◌, ℕ, true, nat_le, Option, Some, None, option_map, MatchOption, ap, inl, inr, ◌∙◌, arith}
use Rattle.tb_words.specs.Letters.{Spells, letter_index}
use Rattle.tb_words.specs.declared.Letter.{Letter}
use Rattle.tb_dap_requests.specs.Setting as spec
use Rattle.tb_dap_requests.proofs.setting.capital_by.Goals as goal

-- a capital spells the letter with its index
index_by : (b n : ℕ) → b ≤ 90 → Spells b n → n ≡ b - 65
index_by b n most (inl e) = omega (arith, e)
index_by b n most (inr e) = omega (arith, e)

-- each capital is read
read_as : (b : ℕ) (read : Option Letter) → 65 ≤ b → b ≤ 90 → MatchOption read ((n : ℕ) → n < 26 → Spells b n → ⊥) (λ letter. Spells b (letter_index letter))
    → option_map letter_index read ≡ Some (b - 65)
read_as b (Some letter) least most spells = ap Some (index_by b (letter_index letter) most spells)
read_as b None least most none = absurd (none (b - 65) (omega arith) (inl (omega arith)))

-- its index is that of a capital
capital_as : (b : ℕ) → 65 ≤ b → b ≤ 90 → Some (b - 65) ≡ spec.capital_by b
capital_as b least most =
    let low : nat_le 65 b ≡ true = search rules in
    let high : nat_le b 90 ≡ true = search rules in
    rw (low, high)

pub returns-then-is_ascii_uppercase : goal.returns-then-is_ascii_uppercase
returns-then-is_ascii_uppercase c =
    let (least, most) = c.if-is_ascii_uppercase.ensures.cases in
    read_as c.args.byte c.read.result least most c.read.ensures ∙ capital_as c.args.byte least most

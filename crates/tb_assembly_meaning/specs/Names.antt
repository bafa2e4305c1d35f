-- What names stand for.
use Rattle.std.specs.Prelude.{ℕ, ℤ, Option, Some, List, if◌then◌else◌}
use Rattle.std.specs.Map.{lookup}
use Rattle.tb_asm.specs.Mnemonics.{same_text}
use Rattle.tb_assembly_text.specs.declared.names.Name.{Name}

-- what each name stands for: a value, or nothing that is known yet; None for what is no name
abbrev pub Env : Type 0
Env = List ℕ → Option (Option ℤ)

-- what names stand for by a list of them
abbrev pub named : List (Name × Option ℤ) → Env
named entries w = lookup (λ n. same_text w n.letters.items) entries

-- what names stand for, where one more name stands for something
abbrev pub with_name : Env → List ℕ → Option ℤ → Env
with_name env n v = λ w. if same_text w n then Some v else env w

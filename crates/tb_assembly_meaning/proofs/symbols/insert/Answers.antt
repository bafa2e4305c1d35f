-- The goals of `insert` in src/symbols.rt.
use Rattle.std.proofs.Common.{◌≡◌, refl, sym, subst}
use Rattle.std.specs.Prelude.{OnOk}
use Rattle.tb_assembly_meaning.specs.Names.{named, with_name}
use Rattle.tb_assembly_meaning.proofs.Naming.{inserted}
use Rattle.tb_assembly_meaning.proofs.symbols.insert.Goals as goal
use Rattle.tb_assembly_meaning.proofs.symbols.insert.Goals.{in-Ok, in-Err}

pub returns-clause-named : goal.returns-clause-named
returns-clause-named c =
    elim c.match-insert.branch [
      | in-Ok w ↦ subst (λ r. OnOk r (named c.insert.new.self.entries ≡ with_name (named c.args.symbols.now.entries) c.args.key.letters.items c.args.value))
          (sym w.result-is)
          (inserted _ (λ a b. refl) c.args.symbols.now.entries c.insert.new.self.entries c.args.key c.args.value w.in-Ok.ensures.entries)
      | in-Err w ↦ subst (λ r. OnOk r (named c.insert.new.self.entries ≡ with_name (named c.args.symbols.now.entries) c.args.key.letters.items c.args.value))
          (sym w.result-is)
          tt
    ]

-- The goals of `put_in_line` in src/breaks.rt.
use Rattle.std.proofs.Common.{◌≡◌, ℕ, Bool, true, false, ◌++◌, map, refl, ap, ◌∙◌, true≢false}
use Rattle.tb_asm.specs.Layout.{entry_of}
use Rattle.tb_compiler_templates.specs.Breaks.{in_line}
use Rattle.tb_compiler_templates.proofs.Appends.{two}
use Rattle.tb_compiler_templates.proofs.breaks.put_in_line.Goals as goal

goes_on : (away : Bool) (n : ℕ) → away ≡ false → in_line false n ≡ in_line away n
goes_on true n e = absurd (true≢false e)
goes_on false n e = refl

pub returns-in_ok-put_here : goal.returns-in_ok-put_here
returns-in_ok-put_here c =
    two _ _ _ _ _ c.in_ok-put_faulted.ensures c.in_ok-put_here.ensures
    ∙ ap (λ es. map entry_of c.args.items.now.items ++ es) (goes_on c.args.away c.args.line c.if-not-away.true)

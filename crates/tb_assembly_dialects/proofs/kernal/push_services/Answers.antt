-- The goals of `push_services` in src/kernal.rt.
use Rattle.std.proofs.Common.{◌≡◌, ℕ, List, ◌-◌, ◌+◌, ◌*◌, ◌++◌, map, refl, sym, ap, ◌∙◌, arith, append-nil}
use Rattle.std.specs.Prelude.{flat_map}
use Rattle.std.specs.List.{range_with_len}
use Rattle.tb_asm.specs.Layout.{entry_of}
use Rattle.tb_assembly_dialects.specs.Kernal.{service_text}
use Rattle.tb_assembly_dialects.proofs.Appending.{range_more}
use Rattle.tb_assembly_dialects.proofs.kernal.push_services.Goals as goal

pub services-preserved : goal.services-preserved
services-preserved c =
    let f : ℕ → List ℕ = λ i. service_text (map entry_of c.args.items.now) (0xFF81 + 3 * i) in
    range_more (flat_map f) f (λ i is. refl) c.services.index 39 c.services.text.items c.push_service.new.text.items _
    c.services-test.true c.services.invariant c.in_ok-push_service.ensures

pub returns : goal.returns
returns c =
    let f : ℕ → List ℕ = λ i. service_text (map entry_of c.args.items.now) (0xFF81 + 3 * i) in
    let none : 39 - c.services.index ≡ 0 = omega arith in
    sym (append-nil c.services.text.items) ∙ ap (λ k. c.services.text.items ++ flat_map f (range_with_len c.services.index k)) (sym none) ∙ c.services.invariant

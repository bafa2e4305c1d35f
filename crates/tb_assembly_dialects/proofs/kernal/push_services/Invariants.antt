-- What holds at each turn of the loop of `push_services` in src/kernal.rt.
use Rattle.std.proofs.Common.{◌≡◌, ◌++◌, ◌+◌, ◌-◌, ◌*◌, map}
use Rattle.std.specs.Prelude.{flat_map}
use Rattle.std.specs.List.{range_with_len}
use Rattle.tb_asm.specs.Layout.{entry_of}
use Rattle.tb_assembly_dialects.specs.Kernal.{service_text, services_text}
use Rattle.tb_assembly_dialects.proofs.kernal.push_services.Given as goal

abbrev pub invariant-services : goal.invariant-services
invariant-services l =
    l.text.items ++ flat_map (λ i. service_text (map entry_of l.items) (0xFF81 + 3 * i)) (range_with_len l.index (39 - l.index))
    ≡ l.initial.text.items ++ services_text (map entry_of l.items)

-- The goals of `push_variables` in src/label_file.rt.
use Rattle.std.proofs.Common.{◌≡◌, ◌-◌, ◌++◌, map, refl, sym, ap, ◌∙◌, arith, append-nil}
use Rattle.std.specs.List.{range_with_len}
use Rattle.tb_engine_listing.specs.Labels.{variable_label, label_text, labels_text}
use Rattle.tb_engine_listing.proofs.Appending.{range_more}
use Rattle.tb_engine_listing.proofs.label_file.push_variables.Goals as goal

pub variables-preserved : goal.variables-preserved
variables-preserved c =
    range_more (λ is. labels_text (map variable_label is)) (λ i. label_text (variable_label i)) (λ i is. refl) c.variables.index 26 c.variables.text.items c.push_variable.new.text.items _
    c.variables-test.true c.variables.invariant c.in_ok-push_variable.ensures

pub returns : goal.returns
returns c =
    let none : 26 - c.variables.index ≡ 0 = omega arith in
    sym (append-nil c.variables.text.items) ∙ ap (λ k. c.variables.text.items ++ labels_text (map variable_label (range_with_len c.variables.index k))) (sym none) ∙ c.variables.invariant

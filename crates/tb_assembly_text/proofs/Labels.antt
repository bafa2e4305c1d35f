-- Labels before other statements.
use Rattle.std.proofs.Common.{◌≡◌, ℕ, List, [], ◌∷◌, ◌++◌, sym, subst, ap, ◌∙◌, append_assoc, Result, Ok, Err}
use Rattle.tb_assembly_text.specs.declared.faults.Fault.{Fault}
use Rattle.tb_assembly_text.specs.declared.faults.LineError.{LineError}
use Rattle.tb_assembly_text.specs.declared.faults.LineError.TheVariants.{Bad, NoMemory}
use Rattle.tb_assembly_text.specs.Names.{scope_after}
use Rattle.tb_assembly_text.specs.Statements.{Said, and_then, labels, reading}
use Rattle.tb_assembly_text.specs.Lines.{after_label, labelled, name_of, rest_of_line, Pushes}
use Rattle.tb_assembly_text.specs.Tokens.{Placed}

label_first : (old mid new : List Said) (c : ℕ) (n : List ℕ) (r : Result (List Said) Fault) → mid ≡ old ++ (c, labels n) ∷ []
    → reading (λ ss. mid ++ ss) r ≡ Ok new → reading (λ ss. old ++ ss) (after_label c n r) ≡ Ok new
label_first old mid new c n (Ok ss) e h = ap Ok (sym (append_assoc old ((c, labels n) ∷ []) ss) ∙ ap (λ t. t ++ ss) (sym e)) ∙ h
label_first old mid new c n (Err f) e h = h

-- statements that are put behind a label are put behind others with it
pushes_after : {U : Type 0} (old mid new : List Said) (c : ℕ) (n : List ℕ) (r : Result (List Said) Fault) (res : Result U LineError)
    → mid ≡ old ++ (c, labels n) ∷ [] → Pushes r mid res new → Pushes (after_label c n r) old res new
pushes_after old mid new c n r (Ok u) e p = label_first old mid new c n r e p
pushes_after old mid new c n r (Err (Bad f)) e p = ap (after_label c n) p
pushes_after old mid new c n r (Err NoMemory) e p = tt

-- a label by its name, and then what follows it, are what a labelled line says
pub pushes_labelled : {U : Type 0} (scope : List ℕ) (end c : ℕ) (w : List ℕ) (ts : List Placed) (n : List ℕ) (old mid new : List Said) (res : Result U LineError)
    → name_of scope c w ≡ Ok n → mid ≡ old ++ (c, labels n) ∷ [] → Pushes (rest_of_line (scope_after scope w) end ts) mid res new
    → Pushes (labelled scope end c w ts) old res new
pushes_labelled scope end c w ts n old mid new res named e p =
    subst (λ r. Pushes (and_then r (λ n. after_label c n (rest_of_line (scope_after scope w) end ts))) old res new) (sym named)
    (pushes_after old mid new c n (rest_of_line (scope_after scope w) end ts) res e p)

-- One more frame.
use Rattle.std.proofs.Common.{◌≡◌, ◌+◌, ℕ, List, [], ◌∷◌, ◌++◌, length, map, sym, ap, subst, ◌∙◌}
use Rattle.std.proofs.lemmas.List.{length-map, map-append}
use Rattle.tb_dap_requests.specs.Said.{AddsFrame, AreFrames, more, seen}
use Rattle.tb_dap_requests.specs.declared.said.Said.{Said}

-- the frame of what is said next comes after those that are there
pub frames_more : (seq asked : ℕ) (command : List ℕ) (said : List Said) (one : Said) (number : ℕ) (old new : List ℕ)
    → AreFrames seq asked command (map seen said) old → number ≡ seq + length said → AddsFrame number asked command (seen one) old new
    → AreFrames seq asked command (map seen (said ++ one ∷ [])) new
frames_more seq asked command said one number old new before same added =
    let here = subst (λ n. AddsFrame n asked command (seen one) old new) (same ∙ ap (λ n. seq + n) (sym (length-map said seen))) added in
    subst (λ all. AreFrames seq asked command all new) (sym (map-append seen said (one ∷ []))) (more (map seen said) (seen one) old new before here)

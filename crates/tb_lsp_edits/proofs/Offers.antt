-- What is offered, candidate by candidate.
use Rattle.std.proofs.Common.{ℕ, suc, ◌+◌, ◌<◌, ◌≤◌, true, false, List, [], ◌∷◌, ◌++◌, length, get_or, drop, sym, ap, subst, ◌∙◌, add-one, append_assoc, append-nil, drop-cons}
use Rattle.std.proofs.Math.ListN.{drop_of_length-le}
use Rattle.tb_basic_text.specs.declared.notation.Notation.{Notation}
use Rattle.tb_lsp_edits.specs.Offered.{AppendsOffered, Offers, left_out, none, offered}
use Rattle.tb_lsp_edits.specs.declared.candidates.Candidate.{Candidate}
use Rattle.tb_lsp_edits.specs.declared.typed.Typed.{Typed}

-- one more candidate was looked at
one_more : (notation : Notation) (t : Typed) (c : Candidate) (cs all old new rest : List Candidate) → AppendsOffered notation t c old new
    → ((found : List Candidate) → Offers notation t (c ∷ cs) found → Offers notation t all (old ++ found)) → Offers notation t cs rest → Offers notation t all (new ++ rest)
one_more notation t c cs all old new rest (true, is, e) before h =
    subst (λ f. Offers notation t all f) (sym (append_assoc old (c ∷ []) rest) ∙ ap (λ o. o ++ rest) (sym e)) (before (c ∷ rest) (offered c cs rest is h))
one_more notation t c cs all old new rest (false, is, e) before h =
    subst (λ f. Offers notation t all f) (ap (λ o. o ++ rest) (sym (e ∙ append-nil old))) (before rest (left_out c cs rest is h))

-- one more candidate at a place of the list was looked at
pub more : (notation : Notation) (t : Typed) (cs : List Candidate) (i : ℕ) (d : Candidate) (old new : List Candidate) → i < length cs → AppendsOffered notation t (get_or cs i d) old new
    → ((found : List Candidate) → Offers notation t (drop i cs) found → Offers notation t cs (old ++ found))
    → (found : List Candidate) → Offers notation t (drop (i + 1) cs) found → Offers notation t cs (new ++ found)
more notation t cs i d old new lt made before found h =
    one_more notation t (get_or cs i d) (drop (suc i) cs) cs old new found made (λ f k. before f (subst (λ l. Offers notation t l f) (sym (drop-cons cs i d lt)) k))
    (subst (λ n. Offers notation t (drop n cs) found) (add-one i) h)

-- all were looked at
pub at_end : (notation : Notation) (t : Typed) (cs : List Candidate) (i : ℕ) (found : List Candidate) → length cs ≤ i
    → ((rest : List Candidate) → Offers notation t (drop i cs) rest → Offers notation t cs (found ++ rest)) → Offers notation t cs found
at_end notation t cs i found le before =
    subst (λ f. Offers notation t cs f) (append-nil found) (before [] (subst (λ l. Offers notation t l []) (sym (drop_of_length-le cs le)) none))

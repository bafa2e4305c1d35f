-- Lemmas on what several writes in a row append.
use Rattle.std.proofs.Common.{◌≡◌, ℕ, zero, suc, ◌+◌, List, [], ◌∷◌, ◌++◌, Option, length, take, drop, refl, ap, sym, subst, ◌∙◌}
use Rattle.std.proofs.Math.Seq.{take-add, take-append-add}
use Rattle.std.proofs.lemmas.List.{take-append-drop}
use Rattle.std.proofs.lemmas.List.Concat.{flat_map-append}
use Rattle.std.proofs.KnownBytes.{Appends-trans}
use Rattle.std.specs.Io.KnownBytes.{Appends}
use Rattle.tb_engine_streams.specs.HostForm.{shown_as, shown_byte}
use Rattle.tb_basic_text.specs.declared.notation.Notation.{Notation}
use Rattle.tb_engine_streams.specs.Streams.{AppendsPrefix}

-- a write of the first m bytes of what is left after n
pub appends_more : (a b c : Option (List ℕ)) (text rest : List ℕ) (n m : ℕ) → rest ≡ drop n text
    → Appends a b (take n text) → Appends b c (take m rest) → Appends a c (take (n + m) text)
appends_more a b c text rest n m at p q =
    subst (Appends a c) (sym (take-add n m text ∙ ap (λ l. take n text ++ take m l) (sym at))) (Appends-trans a b c _ _ p q)

-- a prefix of a text is one of a longer text
pub cut : (k : ℕ) (xs ys : List ℕ) → (j : ℕ) × (take j (xs ++ ys) ≡ take k xs)
cut zero xs ys = (0, refl)
cut (suc k) [] ys = (0, refl)
cut (suc k) (x ∷ xs) ys = let rest = cut k xs ys in (suc rest.0, ap (λ l. x ∷ l) rest.1)

-- a write of the next sent bytes as they are shown
pub shown_more : (notation : Notation) (a b c : Option (List ℕ)) (sent rest now : List ℕ) (n m : ℕ) → rest ≡ drop n sent → now ≡ take m rest
    → Appends a b (shown_as notation (take n sent)) → Appends b c (shown_as notation now) → Appends a c (shown_as notation (take (n + m) sent))
shown_more notation a b c sent rest now n m at next before since =
    let both = take-add n m sent ∙ ap (λ l. take n sent ++ take m l) (sym at) ∙ ap (λ l. take n sent ++ l) (sym next) in
    let shown = ap (shown_as notation) both ∙ flat_map-append (shown_byte notation) (take n sent) now in
    subst (Appends a c) (sym shown) (Appends-trans a b c _ _ before since)

-- a write of only a prefix of the next sent bytes as they are shown
pub shown_part : (notation : Notation) (a b c : Option (List ℕ)) (sent rest now : List ℕ) (n m : ℕ) → rest ≡ drop n sent → now ≡ take m rest
    → Appends a b (shown_as notation (take n sent)) → AppendsPrefix b c (shown_as notation now) → AppendsPrefix a c (shown_as notation sent)
shown_part notation a b c sent rest now n m at next before (k, since) =
    let first = shown_as notation (take n sent) in
    let more = shown_as notation (drop m rest) in
    let behind : rest ≡ now ++ drop m rest = sym (take-append-drop m rest) ∙ ap (λ l. l ++ drop m rest) (sym next) in
    let all : sent ≡ take n sent ++ (now ++ drop m rest) = sym (take-append-drop n sent) ∙ ap (λ l. take n sent ++ l) (sym at ∙ behind) in
    let whole : shown_as notation sent ≡ first ++ (shown_as notation now ++ more) =
    ap (shown_as notation) all ∙ flat_map-append (shown_byte notation) (take n sent) (now ++ drop m rest)
    ∙ ap (λ l. first ++ l) (flat_map-append (shown_byte notation) now (drop m rest)) in
    let (j, same) = cut k (shown_as notation now) more in
    let cut_off = ap (take (length first + j)) whole ∙ take-append-add first (shown_as notation now ++ more) j ∙ ap (λ l. first ++ l) same in
    (length first + j, subst (Appends a c) (sym cut_off) (Appends-trans a b c _ _ before since))

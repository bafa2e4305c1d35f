-- Tokens read one after the other.
use Rattle.std.proofs.Common.{◌≡◌, ℕ, zero, suc, ◌+◌, ◌-◌, ◌<◌, ◌≤◌, List, [], ◌∷◌, ◌++◌, length, drop, refl, sym, ap, ◌∙◌, arith, append_assoc}
use Rattle.std.proofs.Common.{Result, Ok, Err, length-drop}
use Rattle.std.proofs.lemmas.List.{append-nil, drop-drop}
use Rattle.tb_assembly_text.specs.declared.faults.Fault.{Fault}
use Rattle.tb_assembly_text.specs.declared.faults.FaultKind.{FaultKind}
use Rattle.tb_assembly_text.specs.Tokens.{Placed, Lead, blank, ending, found, refused, first_lead, read_lead, before, tokens_from, Lexed}

-- tokens before those that are read after them
abbrev pub after_all : List Placed → Result (List Placed) Fault → Result (List Placed) Fault
after_all ts (Ok more) = Ok (ts ++ more)
after_all ts (Err f) = Err f

-- nothing before the tokens of a text
pub after_none : (r : Result (List Placed) Fault) → after_all [] r ≡ r
after_none (Ok ts) = refl
after_none (Err f) = refl

-- one token more before those that follow it
after_one : (ts : List Placed) (t : Placed) (r : Result (List Placed) Fault) → after_all ts (before t r) ≡ after_all (ts ++ t ∷ []) r
after_one ts t (Ok more) = ap Ok (sym (append_assoc ts (t ∷ []) more))
after_one ts t (Err f) = refl

-- the bytes that belong to a token before are passed
passed : (k c : ℕ) (text : List ℕ) → k ≤ length text → tokens_from k c text ≡ tokens_from 0 (c + k) (drop k text)
passed zero c text h = ap (λ n. tokens_from 0 n text) (let e : c ≡ c + 0 = omega arith in e)
passed (suc k) c [] h = absurd (omega arith)
passed (suc k) c (b ∷ bs) h =
    let less : k ≤ length bs = omega arith in
    passed k (c + 1) bs less ∙ ap (λ n. tokens_from 0 n (drop k bs)) (let e : c + 1 + k ≡ c + suc k = omega arith in e)

-- a text that is not empty is read by what is at its front
opens : (text : List ℕ) (c : ℕ) → 0 < length text → tokens_from 0 c text ≡ read_lead (first_lead text) c (λ n. tokens_from n (c + 1) (drop 1 text))
opens [] c h = absurd (omega arith)
opens (b ∷ bs) c h = refl

module _ (ts : List Placed) (c : ℕ) (text : List ℕ) (whole : Result (List Placed) Fault) (some : 0 < length text)
    (so_far : after_all ts (tokens_from 0 c text) ≡ whole) where
  by_lead : (l : Lead) → first_lead text ≡ l → after_all ts (read_lead l c (λ n. tokens_from n (c + 1) (drop 1 text))) ≡ whole
  by_lead l e = sym (ap (λ m. after_all ts (read_lead m c (λ n. tokens_from n (c + 1) (drop 1 text)))) e) ∙ sym (ap (after_all ts) (opens text c some)) ∙ so_far

  -- a space is passed
  pub on_blank : first_lead text ≡ blank → after_all ts (tokens_from 0 (c + 1) (drop 1 text)) ≡ whole
  on_blank e = by_lead blank e

  -- a token is passed
  pub on_found : (l : Lexed) (n : ℕ) → first_lead text ≡ found l n → 0 < n → n ≤ length text → after_all (ts ++ (c, l) ∷ []) (tokens_from 0 (c + n) (drop n text)) ≡ whole
  on_found l n e more within =
      let size : length (drop 1 text) ≡ length text - 1 = length-drop 1 text in
      let less : n - 1 ≤ length (drop 1 text) = omega arith in
      let rest : drop (n - 1) (drop 1 text) ≡ drop n text = drop-drop (n - 1) 1 text ∙ ap (λ k. drop k text) (let e : 1 + (n - 1) ≡ n = omega arith in e) in
      let column : c + 1 + (n - 1) ≡ c + n = omega arith in
      sym (ap (λ t. after_all (ts ++ (c, l) ∷ []) (tokens_from 0 (c + n) t)) rest)
      ∙ sym (ap (λ k. after_all (ts ++ (c, l) ∷ []) (tokens_from 0 k (drop (n - 1) (drop 1 text)))) column)
      ∙ sym (ap (after_all (ts ++ (c, l) ∷ [])) (passed (n - 1) (c + 1) (drop 1 text) less))
      ∙ sym (after_one ts (c, l) (tokens_from (n - 1) (c + 1) (drop 1 text)))
      ∙ by_lead (found l n) e

  -- a comment ends the line
  pub on_ending : first_lead text ≡ ending → whole ≡ Ok ts
  on_ending e = sym (by_lead ending e) ∙ ap Ok (append-nil ts)

  -- a byte that begins nothing is the fault
  pub on_refused : (k : FaultKind) → first_lead text ≡ refused k → whole ≡ Err (record { column = c; kind = k })
  on_refused k e = sym (by_lead (refused k) e)

-- an empty text ends the line
pub on_empty : (ts : List Placed) (c : ℕ) (text : List ℕ) (whole : Result (List Placed) Fault) → length text ≡ 0 → after_all ts (tokens_from 0 c text) ≡ whole → whole ≡ Ok ts
on_empty ts c [] whole h e = sym e ∙ ap Ok (append-nil ts)
on_empty ts c (b ∷ bs) whole h e = absurd (omega arith)

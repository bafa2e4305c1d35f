-- The header that is written is read as what it asks for.
use Rattle.std.proofs.Common.{◌≡◌, ◌≤◌, ◌+◌, ◌∙◌, ◌&&◌, ℕ, suc, Bool, true, false, List, [], ◌∷◌, ◌++◌, Option, Some, None, Ok, length, take, drop, refl, ap, arith, append_assoc}
use Rattle.std.specs.Fmt.{decimal}
use Rattle.std.specs.List.{list_all}
use Rattle.std.specs.Prelude.{nat_le}
use Rattle.std.proofs.Math.Seq.{drop-append_seam, take-append_seam}
use Rattle.std.proofs.lemmas.Bool.{and_parts, leb-true, ne_eqb}
use Rattle.tb_engine_transcripts.specs.Contents.{are_writable, is_in_range, is_writable_end}
use Rattle.tb_engine_transcripts.specs.Header.{header, nothing, with_asked}
use Rattle.tb_engine_transcripts.specs.Marks.{is_digit, number}
use Rattle.tb_engine_transcripts.specs.Options.{asked_by, fault, fault_by, line_of, limit_by, rude_by, seed_by, space_at}
use Rattle.tb_engine_transcripts.specs.Writing.{end_line, end_text, flag_lines, number_lines, option_lines}
use Rattle.tb_engine_transcripts.specs.declared.header.Header.{Header}
use Rattle.tb_engine_transcripts.specs.declared.marks.TheConstants.{OPTION}
use Rattle.tb_engine_transcripts.specs.declared.options.Asked.{Asked}
use Rattle.tb_engine_transcripts.specs.declared.options.Asked.TheVariants.{End, Fit, Limit, Petscii, Rude, Seed}
use Rattle.tb_engine_transcripts.specs.declared.options.TheConstants as word
use Rattle.tb_engine_transcripts.specs.declared.transcript.RunEnd.{RunEnd}
use Rattle.tb_engine_transcripts.specs.declared.transcript.RunEnd.TheVariants.{Fault, Returned, Runs, Waits}
use Rattle.tb_engine_transcripts.specs.declared.transcript.RunOptions.{RunOptions}
use Rattle.tb_engine_transcripts.proofs.Decimals.{all_digits, number_read}

-- ---- what lines ask for

-- a number in range
in_range : (least most n : ℕ) → is_in_range least most (Some n) ≡ true → (least ≤ n) × (n ≤ most)
in_range least most n e =
    let parts = and_parts (nat_le least n) (nat_le n most) e in (leb-true least n parts.0, leb-true n most parts.1)

-- a seed
seed_read : (n : ℕ) → is_in_range 0 65535 (Some n) ≡ true → asked_by (word.SEED.now ++ decimal n) ≡ Ok (Seed n)
seed_read n e =
    let range = in_range 0 65535 n e in
    ap seed_by (number_read 65535 n range.1 (omega arith))

-- a limit
limit_read : (n : ℕ) → is_in_range 1 1000000000 (Some n) ≡ true → asked_by (word.LIMIT.now ++ decimal n) ≡ Ok (Limit n)
limit_read n e =
    let range = in_range 1 1000000000 n e in
    let read : number 1000000000 (decimal n) ≡ Some n = number_read 1000000000 n range.1 (omega arith) in
    ap limit_by read ∙ (rw (ne_eqb n 0 (λ z. omega (arith, range.0, z))) refl)

-- a seed of the ROM
rude_read : (n : ℕ) → is_in_range 0 65535 (Some n) ≡ true → asked_by (word.RUDE.now ++ decimal n) ≡ Ok (Rude n)
rude_read n e =
    let range = in_range 0 65535 n e in
    ap rude_by (number_read 65535 n range.1 (omega arith))

-- digits end at a space
space_behind : (ds rest : List ℕ) → list_all is_digit ds ≡ true → space_at (ds ++ 32 ∷ rest) ≡ length ds
space_behind [] rest all = refl
space_behind (d ∷ ds) rest all =
    let parts = and_parts (is_digit d) (list_all is_digit ds) all in
    let low = leb-true 48 d (and_parts (nat_le 48 d) (nat_le d 57) parts.0).0 in
    rw (ne_eqb d 32 (λ e. omega (arith, low, e))) (ap suc (space_behind ds rest parts.1))

-- a fault
fault_read : (code line : ℕ) → code ≤ 255 → line ≤ 65535 → fault (decimal code ++ 32 ∷ 97 ∷ 116 ∷ 32 ∷ decimal line) ≡ Ok (End (Fault code line))
fault_read code line few_codes few_lines =
    let rest = 32 ∷ 97 ∷ 116 ∷ 32 ∷ decimal line in
    let space : space_at (decimal code ++ rest) ≡ length (decimal code) = space_behind (decimal code) (97 ∷ 116 ∷ 32 ∷ decimal line) (all_digits code (omega arith)) in
    let before : take (length (decimal code)) (decimal code ++ rest) ≡ decimal code = take-append_seam (decimal code) rest in
    let after : drop (length (decimal code)) (decimal code ++ rest) ≡ rest = drop-append_seam (decimal code) rest in
    let code_read : number 255 (decimal code) ≡ Some code = number_read 255 code few_codes (omega arith) in
    let line_read : number 65535 (decimal line) ≡ Some line = number_read 65535 line few_lines (omega arith) in
    ap (λ k. fault_by (number 255 (take k (decimal code ++ rest))) (line_of (drop k (decimal code ++ rest)))) space
    ∙ ap (λ t. fault_by (number 255 t) (line_of (drop (length (decimal code)) (decimal code ++ rest)))) before
    ∙ ap (λ t. fault_by (number 255 (decimal code)) (line_of t)) after
    ∙ ap (λ c. fault_by c (number 65535 (decimal line))) code_read
    ∙ ap (λ l. fault_by (Some code) l) line_read

-- an end
end_read : (e : RunEnd) → is_writable_end e ≡ true → asked_by (end_text e) ≡ Ok (End e)
end_read Returned ok = refl
end_read Waits ok = refl
end_read Runs ok = refl
end_read (Fault code line) ok =
    let parts = and_parts (nat_le code 255) (nat_le line 65535) ok in
    fault_text code line (leb-true code 255 parts.0) (leb-true line 65535 parts.1)
  where
    fault_text : (code line : ℕ) → code ≤ 255 → line ≤ 65535 → asked_by (end_text (Fault code line)) ≡ Ok (End (Fault code line))
    fault_text code line few_codes few_lines =
        ap asked_by grouped ∙ fault_read code line few_codes few_lines
      where
        grouped : end_text (Fault code line) ≡ word.FAULT.now ++ (decimal code ++ 32 ∷ 97 ∷ 116 ∷ 32 ∷ decimal line)
        grouped = append_assoc (word.FAULT.now ++ decimal code) word.AT.now (decimal line) ∙ append_assoc word.FAULT.now (decimal code) (word.AT.now ++ decimal line)

-- ---- the lines of a header

-- one line
one_line : (n : ℕ) (h more : Header) (text : List ℕ) (asked : Asked) (lines : List (List ℕ)) → asked_by text ≡ Ok asked → with_asked h asked ≡ Some more
    → header n h ((OPTION.now ++ text) ∷ lines) ≡ header (n + 1) more lines
one_line n h more text asked lines is given = rw (is, given) refl

-- a header that asks for these, without an end
abbrev asking : Option ℕ → Bool → Bool → Option ℕ → Option ℕ → Header
asking seed fits signs limit rude = record { options = record { seed = seed; fits = fits; signs = signs; limit = limit; rude = rude }; end = None }

-- a header leads on to another one, whatever the number of the line
abbrev LeadsOn : ℕ → Header → List (List ℕ) → Header → List (List ℕ) → Type 0
LeadsOn n h lines more rest = (m : ℕ) × (header n h lines ≡ header m more rest)

-- the line of a seed
seed_lines : (n : ℕ) (s : Option ℕ) (rest : List (List ℕ)) → is_in_range 0 65535 s ≡ true
    → LeadsOn n nothing (number_lines word.SEED.now s ++ rest) (asking s false false None None) rest
seed_lines n None rest ok = (n, refl)
seed_lines n (Some x) rest ok = (n + 1, one_line n nothing (asking (Some x) false false None None) (word.SEED.now ++ decimal x) (Seed x) rest (seed_read x ok) refl)

-- the line of a source that is to fit
fit_lines : (n : ℕ) (s : Option ℕ) (f : Bool) (rest : List (List ℕ))
    → LeadsOn n (asking s false false None None) (flag_lines word.FIT.now f ++ rest) (asking s f false None None) rest
fit_lines n s false rest = (n, refl)
fit_lines n s true rest = (n + 1, one_line n (asking s false false None None) (asking s true false None None) word.FIT.now Fit rest refl refl)

-- the line of signs
sign_lines : (n : ℕ) (s : Option ℕ) (f p : Bool) (rest : List (List ℕ))
    → LeadsOn n (asking s f false None None) (flag_lines word.PETSCII.now p ++ rest) (asking s f p None None) rest
sign_lines n s f false rest = (n, refl)
sign_lines n s f true rest = (n + 1, one_line n (asking s f false None None) (asking s f true None None) word.PETSCII.now Petscii rest refl refl)

-- the line of a limit
limit_lines : (n : ℕ) (s : Option ℕ) (f p : Bool) (l : Option ℕ) (rest : List (List ℕ)) → is_in_range 1 1000000000 l ≡ true
    → LeadsOn n (asking s f p None None) (number_lines word.LIMIT.now l ++ rest) (asking s f p l None) rest
limit_lines n s f p None rest ok = (n, refl)
limit_lines n s f p (Some x) rest ok =
    (n + 1, one_line n (asking s f p None None) (asking s f p (Some x) None) (word.LIMIT.now ++ decimal x) (Limit x) rest (limit_read x ok) refl)

-- the line of a ROM that is rude
rude_lines : (n : ℕ) (s : Option ℕ) (f p : Bool) (l r : Option ℕ) (rest : List (List ℕ)) → is_in_range 0 65535 r ≡ true
    → LeadsOn n (asking s f p l None) (number_lines word.RUDE.now r ++ rest) (asking s f p l r) rest
rude_lines n s f p l None rest ok = (n, refl)
rude_lines n s f p l (Some x) rest ok =
    (n + 1, one_line n (asking s f p l None) (asking s f p l (Some x)) (word.RUDE.now ++ decimal x) (Rude x) rest (rude_read x ok) refl)

-- what all lines of a header ask for
abbrev pub header_of : RunOptions → RunEnd → Header
header_of o e = record { options = o; end = Some e }

-- the header that is written leads to what it asks for
pub header_read : (o : RunOptions) (e : RunEnd) (rest : List (List ℕ)) → are_writable o ≡ true → is_writable_end e ≡ true
    → (m : ℕ) × (header 1 nothing (option_lines o ++ end_line e ∷ rest) ≡ header m (header_of o e) rest)
header_read o e rest ok ends =
    let both = and_parts (is_in_range 0 65535 o.seed && is_in_range 1 1000000000 o.limit) (is_in_range 0 65535 o.rude) ok in
    let first = and_parts (is_in_range 0 65535 o.seed) (is_in_range 1 1000000000 o.limit) both.0 in
    let a = number_lines word.SEED.now o.seed in
    let b = flag_lines word.FIT.now o.fits in
    let c = flag_lines word.PETSCII.now o.signs in
    let d = number_lines word.LIMIT.now o.limit in
    let f = number_lines word.RUDE.now o.rude in
    let behind_d = f ++ end_line e ∷ rest in
    let behind_c = d ++ behind_d in
    let behind_b = c ++ behind_c in
    let behind_a = b ++ behind_b in
    let grouped : option_lines o ++ end_line e ∷ rest ≡ a ++ behind_a =
    append_assoc (a ++ b ++ c ++ d) f (end_line e ∷ rest) ∙ append_assoc (a ++ b ++ c) d behind_d ∙ append_assoc (a ++ b) c behind_c ∙ append_assoc a b behind_b in
    let s1 = seed_lines 1 o.seed behind_a first.0 in
    let s2 = fit_lines s1.0 o.seed o.fits behind_b in
    let s3 = sign_lines s2.0 o.seed o.fits o.signs behind_c in
    let s4 = limit_lines s3.0 o.seed o.fits o.signs o.limit behind_d first.1 in
    let s5 = rude_lines s4.0 o.seed o.fits o.signs o.limit o.rude (end_line e ∷ rest) both.1 in (
      s5.0 + 1,
      ap (header 1 nothing) grouped ∙ s1.1 ∙ s2.1 ∙ s3.1 ∙ s4.1 ∙ s5.1
          ∙ one_line s5.0 (asking o.seed o.fits o.signs o.limit o.rude) (header_of o e) (end_text e) (End e) rest (end_read e ends) refl,
    )

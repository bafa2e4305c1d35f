-- Renamed lines make the renamed program.
use Rattle.std.proofs.Common.{◌≡◌, ℕ, ◌+◌, Bool, true, false, List, [], ◌∷◌, map, refl, ap, ◌∙◌, subst, nat_lt, ◌==◌}
use Rattle.tb_basic_syntax.specs.Source.{Statement, Program}
use Rattle.tb_basic_text.specs.declared.notation.Notation.{Notation}
use Rattle.tb_parser.specs.Files.{LinesIn, at_end, edited, end, good, with_line, without_line}
use Rattle.tb_parser.specs.Readings.{Edit, Nothing, Sets, Deletes}
use Rattle.tb_basic_names.specs.Lines.{does}
use Rattle.tb_basic_names.specs.Sources.{edits_of, made_of, program_of}
use Rattle.tb_basic_names.specs.declared.lines.Line.{Line as SourceLine}
use Rattle.tb_lsp_edits.specs.Rename.{AreRenamed}
use Rattle.tb_lsp_edits.specs.Renamed.{renamed, renamed_edit, renamed_letter, renamed_line, renamed_program, text_after}
use Rattle.tb_lsp_edits.specs.declared.letters.Letters.{Letters}

-- a line that is set in the renamed program
sets : (f : ℕ → ℕ) (n : ℕ) (c : Statement) (p : Program) → with_line n (renamed f c) (renamed_program f p) ≡ renamed_program f (with_line n c p)
sets f n c [] = refl
sets f n c (line ∷ lines) = go (nat_lt n line.number) (n == line.number) refl refl (sets f n c lines)
  where
    go : (less same : Bool) → nat_lt n line.number ≡ less → (n == line.number) ≡ same
        → with_line n (renamed f c) (renamed_program f lines) ≡ renamed_program f (with_line n c lines)
        → with_line n (renamed f c) (renamed_program f (line ∷ lines)) ≡ renamed_program f (with_line n c (line ∷ lines))
    go true same l s rest = rw l refl
    go false true l s rest = rw (l, s) refl
    go false false l s rest = rw (l, s) (ap (λ ls. renamed_line f line ∷ ls) rest)

-- one that is taken out of it
deletes : (f : ℕ → ℕ) (n : ℕ) (p : Program) → without_line n (renamed_program f p) ≡ renamed_program f (without_line n p)
deletes f n [] = refl
deletes f n (line ∷ lines) = go (n == line.number) refl (deletes f n lines)
  where
    go : (same : Bool) → (n == line.number) ≡ same → without_line n (renamed_program f lines) ≡ renamed_program f (without_line n lines)
        → without_line n (renamed_program f (line ∷ lines)) ≡ renamed_program f (without_line n (line ∷ lines))
    go true s rest = rw s refl
    go false s rest = rw s (ap (λ ls. renamed_line f line ∷ ls) rest)

-- what a line does, renamed, to the renamed program
edits : (f : ℕ → ℕ) (e : Edit) (p : Program) → edited (renamed_edit f e) (renamed_program f p) ≡ renamed_program f (edited e p)
edits f Nothing p = refl
edits f (Sets n c) p = sets f n c p
edits f (Deletes n) p = deletes f n p

made : (f : ℕ → ℕ) (p : Program) (es : List Edit) → made_of (renamed_program f p) (map (renamed_edit f) es) ≡ renamed_program f (made_of p es)
made f p [] = refl
made f p (e ∷ es) = ap (λ q. made_of q (map (renamed_edit f) es)) (edits f e p) ∙ made f (edited e p) es

-- the law
pub renamed_made : (f : ℕ → ℕ) (es : List Edit) → program_of (map (renamed_edit f) es) ≡ renamed_program f (program_of es)
renamed_made f es = made f [] es

-- from a line on, the lines of the renamed text make what the renamed edits make
lines_make : (notation : Notation) (letters : Letters) (n : ℕ) (p : Program) (ls : List SourceLine) → AreRenamed notation letters ls
    → LinesIn notation n p (map (text_after letters) ls) (at_end (made_of p (map (renamed_edit (renamed_letter letters)) (edits_of ls))))
lines_make notation letters n p [] are = end n p
lines_make notation letters n p (l ∷ ls) (is, are) =
    let e = renamed_edit (renamed_letter letters) (does l.edit) in
    good n p (text_after letters l) (map (text_after letters) ls) e _ is (lines_make notation letters (n + 1) (edited e p) ls are)

-- what the lines of the renamed text make
pub text_makes : (notation : Notation) (letters : Letters) (ls : List SourceLine) → AreRenamed notation letters ls
    → LinesIn notation 1 [] (map (text_after letters) ls) (at_end (renamed_program (renamed_letter letters) (program_of (edits_of ls))))
text_makes notation letters ls are =
    subst (λ p. LinesIn notation 1 [] (map (text_after letters) ls) (at_end p)) (renamed_made (renamed_letter letters) (edits_of ls)) (lines_make notation letters 1 [] ls are)

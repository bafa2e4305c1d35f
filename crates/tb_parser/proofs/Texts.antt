-- Each statement of a file's program is spelled by a text that is no longer than a line.
use Rattle.std.proofs.Common.{◌≡◌, ℕ, ◌+◌, ◌-◌, ◌*◌, ◌≤◌, Bool, true, false, List, [], ◌∷◌, length, ap, arith, Result, Ok, Err, ◌==◌, if◌then◌else◌}
use Rattle.std.specs.Prelude.{nat_lt}
use Rattle.tb_basic_syntax.specs.Source.{Statement, Program}
use Rattle.tb_basic_grammar.specs.Statements.{States}
use Rattle.tb_basic_grammar.specs.Grammar.{is_digit}
use Rattle.tb_basic_text.specs.declared.notation.Notation.{Notation}
use Rattle.tb_parser.specs.declared.squeeze.Placed.{Placed}
use Rattle.tb_parser.specs.Notations.{squeezed_in}
use Rattle.tb_parser.specs.Squeezed.{bytes}
use Rattle.tb_parser.specs.Scans.{number_at}
use Rattle.tb_parser.specs.Readings.{Refusal, Edit, LineIn, blank, unfit, unnumbered, bad_line_number, deletes, sets, unread, TextIs, reads, IsNumberedIn}
use Rattle.tb_parser.specs.Files.{Outcome, line_at, with_line, without_line, edited, at_end, LinesIn, end, bad, good, IsStated, AreStated}

rest_length : (n : ℕ) (placed : List Placed) → length (number_at n placed).rest ≤ length placed
unfolding number_at
rest_length n [] = omega arith
rest_length n (p ∷ placed) = by (is_digit p.byte) (rest_length (10 * n + (p.byte - 48)) placed)
  where
    by : (t : Bool) → length (number_at (10 * n + (p.byte - 48)) placed).rest ≤ length placed
        → length (if t then number_at (10 * n + (p.byte - 48)) placed else record { value = n; rest = p ∷ placed }).rest ≤ length (p ∷ placed)
    by true h = omega (arith, h)
    by false h = omega arith

bytes_length : (text : List Placed) → length (bytes text) ≡ length text
bytes_length [] = omega arith
bytes_length (p ∷ text) = let e = bytes_length text in omega (arith, e)

text_length : {notation : Notation} (line : List ℕ) (number : ℕ) (text : List Placed) → IsNumberedIn notation line number text → length (bytes text) ≤ 255
text_length {notation} line number text n =
    let a = n.fit.brief in
    let b = rest_length 0 (squeezed_in notation line) in
    let c : length (number_at 0 (squeezed_in notation line)).rest ≡ length text = ap length n.rest in
    let d : length (bytes text) ≡ length text = bytes_length text in
    omega (arith, a, b, c, d)

IsStatedAnswer : Result Statement Refusal → Type 0
IsStatedAnswer (Ok c) = IsStated c
IsStatedAnswer (Err r) = Unit {0}

text_stated : (text : List Placed) (m : Result Statement Refusal) → length (bytes text) ≤ 255 → TextIs Statement States text m → IsStatedAnswer m
unfolding IsStatedAnswer
text_stated text _ l (reads a s) = record { text = bytes text; short = l; states = s }
text_stated text (Err r) l t = tt

with_stated : (n : ℕ) (c : Statement) (p : Program) → IsStated c → AreStated p → AreStated (with_line n c p)
with_stated n c [] s h = (s, tt)
with_stated n c (line ∷ lines) s h = by (nat_lt n line.number) (n == line.number) (with_stated n c lines s h.1)
  where
    by : (less same : Bool) → AreStated (with_line n c lines)
        → AreStated (if less then line_at n c ∷ line ∷ lines else if same then line_at n c ∷ lines else line ∷ with_line n c lines)
    by true same rest = (s, h)
    by false true rest = (s, h.1)
    by false false rest = (h.0, rest)

without_stated : (n : ℕ) (p : Program) → AreStated p → AreStated (without_line n p)
without_stated n [] h = tt
without_stated n (line ∷ lines) h = by (n == line.number) (without_stated n lines h.1)
  where
    by : (same : Bool) → AreStated (without_line n lines) → AreStated (if same then lines else line ∷ without_line n lines)
    by true rest = h.1
    by false rest = (h.0, rest)

KeepsStated : Result Edit Refusal → Type 0
KeepsStated (Ok edit) = (p : Program) → AreStated p → AreStated (edited edit p)
KeepsStated (Err r) = Unit {0}

edit_keeps : {notation : Notation} (line : List ℕ) (m : Result Edit Refusal) → LineIn notation line m → KeepsStated m
unfolding KeepsStated IsStatedAnswer
edit_keeps line _ (blank e) = λ p h. h
edit_keeps line _ (unfit first r e u) = tt
edit_keeps line _ (unnumbered first e fit d) = tt
edit_keeps line _ (bad_line_number first e fit d n) = tt
edit_keeps line _ (deletes number n) = λ p h. without_stated number p h
edit_keeps line _ (sets number text c n some t) = λ p h. with_stated number c p (text_stated text (Ok c) (text_length line number text n) t) h
edit_keeps line _ (unread number text r n some t) = tt

abbrev Stated : Outcome → Type 0
Stated (Ok p) = AreStated p
Stated (Err r) = Unit {0}

end_stated : (p : Program) → AreStated p → Stated (at_end p)
end_stated [] h = tt
end_stated (line ∷ lines) h = h

-- the lines of a file make a program whose statements are spelled by texts of at most 255 bytes
pub lines_stated : {notation : Notation} (n : ℕ) (p : Program) (lines : List (List ℕ)) (outcome : Outcome) → AreStated p → LinesIn notation n p lines outcome → Stated outcome
unfolding KeepsStated
lines_stated n p _ _ h (end _ _) = end_stated p h
lines_stated n p _ _ h (bad _ _ line lines r is) = tt
lines_stated n p _ _ h (good _ _ line lines edit outcome is rest) = lines_stated (n + 1) (edited edit p) lines outcome (edit_keeps line (Ok edit) is p h) rest

-- The images as the compiler makes them keep their programs: each is a program's settled items.
use Rattle.std.proofs.Common.{◌≡◌, ℕ, ◌+◌, ◌≤◌, ◌<◌, Bool, true, false, ◌||◌, nat_eq, List, [], ◌∷◌, length, refl, ap, subst, arith}
use Rattle.std.proofs.lemmas.Bool.Decides.{nat_tests}
use Rattle.tb_memmap.specs.Regions.{BASIC_START}
use Rattle.tb_opcodes.specs.Opcodes.{encoded}
use Rattle.tb_asm.specs.Layout.{Entry, size, size_of, image_of, labels_from}
use Rattle.tb_asm.specs.Settle.{Form, kept, items_from, AllReach}
use Rattle.tb_assembly_settling.specs.Settled.{AreFormsOf, IsSettled}
use Rattle.tb_runtime16.specs.Addresses.{PROLOGUE_AT}
use Rattle.tb_compiled_kept.specs.Addresses.{LINES_AT}
use Rattle.tb_compiler_program.specs.Program.{program_code, AreCodable}
use Rattle.tb_basic_syntax.specs.Source.{Program, numbers, Rises}
use Rattle.tb_proof_correctness.specs.Laid.{ArePolled}
use Rattle.tb_lower.specs.Lowered as lowered
use Rattle.tb_lower.proofs.Lists.{follows, more, none, IsShallow}
use Rattle.tb_compiler_selection.proofs.Closed.{all_closed}
use Rattle.tb_proof_correctness.proofs.Whole.Compiled.{image_keeps, image_marks}
use Rattle.tb_basic_meaning.specs.Control.{has_line}
use Rattle.tb_proof_simulation.specs.Layout.{layout_of}
use Rattle.tb_compiled_kept.specs.LineStarts.{MarksLines}
use Rattle.tb_proof_simulation.proofs.SameStarts.{Agree}
use Rattle.tb_gate_refutations.specs.Bare.{image}
use Rattle.tb_gate_refutations.specs.Statements.{IsKept}
use Rattle.tb_gate_refutations.specs.Programs as program
use Rattle.tb_gate_refutations.specs.Compiled.{ends_image, goto_itself_image, prints_variable_image, prints_and_faults_image}
use Rattle.tb_gate_refutations.specs.Compiled.{goes_nowhere_image, prints_two_image, prints_quotient_image, inputs_two_image}
use Rattle.tb_gate_refutations.specs.Compiled.{calls_itself_image, calls_and_returns_image, goes_to_sum_image, prints_forever_image}
use Rattle.tb_gate_refutations.specs.Compiled.{prints_if_zero_image, prints_negative_quotient_image, compares_far_image}
use Rattle.tb_gate_refutations.specs.Compiled.{prints_if_below_256_image}
use Rattle.tb_gate_refutations.specs.Compiled.{prints_rest_image, prints_rest_by_three_image, prints_rest_of_bytes_image, prints_in_zones_image}
use Rattle.tb_gate_refutations.specs.Compiled.{prints_if_positive_image}
use Rattle.tb_gate_refutations.specs.Compiled.{prints_if_256_image}
use Rattle.tb_gate_refutations.specs.Compiled.{prints_quotient_by_256_image}

abbrev forms_of : List Entry → List Form
forms_of [] = []
forms_of (e ∷ es) = kept e ∷ forms_of es

all_kept : (es : List Entry) → AreFormsOf es (forms_of es)
all_kept [] = tt
all_kept (e ∷ es) = (refl, all_kept es)

items_kept : (es : List Entry) (a : ℕ) → es ≡ items_from a (forms_of es)
items_kept [] a = refl
items_kept (e ∷ es) a = ap (λ l. e ∷ l) (items_kept es (a + size_of e))

-- each line's list takes an answer first
polled : (p : Program) → ArePolled (lowered.program_code p)
polled [] = tt
polled (line ∷ lines) = ((lowered.statement_code line.content, refl), polled lines)

abbrev items : Program → List Entry
items p = program_code 1 (lowered.program_code p)

-- what the compiler makes of a program in which no branch has to be replaced
module _ (p : Program) (shallow : IsShallow p) (rises : Rises 0 65536 (numbers (lowered.program_code p))) (codable : AreCodable (lowered.program_code p))
    (some : 1 ≤ length (numbers (lowered.program_code p))) (few : length (lowered.program_code p) < 65536) (end : PROLOGUE_AT + size (items p) ≤ 0xa000)
    (reach : AllReach PROLOGUE_AT (items p)) (bytes : List ℕ) (same : image (image_of PROLOGUE_AT (items p)) ≡ bytes) where
  settled : IsSettled PROLOGUE_AT (items p) (items p)
  settled = record { forms = forms_of (items p); of = all_kept (items p); are = items_kept (items p) PROLOGUE_AT; reach = reach }

  compiled_keeps : IsKept bytes p
  compiled_keeps = subst (λ b. IsKept b p) same
      (image_keeps 1 p (lowered.program_code p) (omega arith) (follows p shallow) rises codable (polled p) (all_closed p) some few (items p)
      settled end (image []) refl)

  compiled_marks : (start : ℕ → ℕ) → Agree (layout_of (labels_from PROLOGUE_AT (items p)) (numbers (lowered.program_code p)) 1).start start (numbers p)
      → MarksLines BASIC_START bytes p 1 start
  compiled_marks start agree = subst (λ b. MarksLines BASIC_START b p 1 start) same
      (image_marks 1 p (lowered.program_code p) (omega arith) (follows p shallow) rises codable (polled p) (all_closed p) some few (items p)
      settled end (image []) refl start agree)

-- 10 END
pub ends : IsKept ends_image program.ends
unfolding encoded
ends = compiled_keeps program.ends (more (omega arith) none)
    (omega arith, omega arith, tt)
    ((tt, (tt, tt)), omega arith, tt)
    (omega arith) (omega arith) (omega arith) refl ends_image refl

-- 10 GOTO 10
pub goto_itself : IsKept goto_itself_image program.goto_itself
unfolding encoded
goto_itself = compiled_keeps program.goto_itself (more (omega arith) none)
    (omega arith, omega arith, tt)
    ((tt, (omega arith, tt)), omega arith, tt)
    (omega arith) (omega arith) (omega arith) refl goto_itself_image refl

-- 10 PRINT A;, 20 END
pub prints_variable : IsKept prints_variable_image program.prints_variable
unfolding encoded
prints_variable = compiled_keeps program.prints_variable (more (omega arith) (more (omega arith) none))
    (omega arith, omega arith, (omega arith, omega arith, tt))
    ((tt, ((omega arith, omega arith), (tt, tt))), omega arith, ((tt, (tt, tt)), omega arith, tt))
    (omega arith) (omega arith) (omega arith) refl prints_variable_image refl

-- 10 PRINT "AA";1/0;
pub prints_and_faults : IsKept prints_and_faults_image program.prints_and_faults
unfolding encoded
prints_and_faults = compiled_keeps program.prints_and_faults (more (omega arith) none)
    (omega arith, omega arith, tt)
    ((tt, (omega arith, ((omega arith, omega arith), ((omega arith, omega arith), (omega arith, (tt, tt)))))), omega arith, tt)
    (omega arith) (omega arith) (omega arith) refl prints_and_faults_image refl

-- 10 GOTO 20
pub goes_nowhere : IsKept goes_nowhere_image program.goes_nowhere
unfolding encoded
goes_nowhere = compiled_keeps program.goes_nowhere (more (omega arith) none)
    (omega arith, omega arith, tt)
    ((tt, (omega arith, tt)), omega arith, tt)
    (omega arith) (omega arith) (omega arith) refl goes_nowhere_image refl

-- 10 PRINT "AA";, 20 END
pub prints_two : IsKept prints_two_image program.prints_two
unfolding encoded
prints_two = compiled_keeps program.prints_two (more (omega arith) (more (omega arith) none))
    (omega arith, omega arith, (omega arith, omega arith, tt))
    ((tt, (omega arith, tt)), omega arith, ((tt, (tt, tt)), omega arith, tt))
    (omega arith) (omega arith) (omega arith) refl prints_two_image refl

-- 10 PRINT 1/(A+1);
pub prints_quotient : IsKept prints_quotient_image program.prints_quotient
unfolding encoded
prints_quotient = compiled_keeps program.prints_quotient (more (omega arith) none)
    (omega arith, omega arith, tt)
    ((tt, ((omega arith, omega arith), ((omega arith, omega arith), ((omega arith, omega arith), (omega arith, (omega arith, (tt, tt))))))), omega arith, tt)
    (omega arith) (omega arith) (omega arith) refl prints_quotient_image refl

-- 10 INPUT A,B
pub inputs_two : IsKept inputs_two_image program.inputs_two
unfolding encoded
inputs_two = compiled_keeps program.inputs_two (more (omega arith) none)
    (omega arith, omega arith, tt)
    ((tt, (omega arith, (omega arith, tt))), omega arith, tt)
    (omega arith) (omega arith) (omega arith) refl inputs_two_image refl

-- 10 GOSUB 10
pub calls_itself : IsKept calls_itself_image program.calls_itself
unfolding encoded
calls_itself = compiled_keeps program.calls_itself (more (omega arith) none)
    (omega arith, omega arith, tt)
    ((tt, (omega arith, tt)), omega arith, tt)
    (omega arith) (omega arith) (omega arith) refl calls_itself_image refl

-- 10 GOSUB 30, 20 END, 30 RETURN
pub calls_and_returns : IsKept calls_and_returns_image program.calls_and_returns
unfolding encoded
calls_and_returns = compiled_keeps program.calls_and_returns (more (omega arith) (more (omega arith) (more (omega arith) none)))
    (omega arith, omega arith, (omega arith, omega arith, (omega arith, omega arith, tt)))
    ((tt, (omega arith, tt)), omega arith, ((tt, (tt, tt)), omega arith, ((tt, (tt, tt)), omega arith, tt)))
    (omega arith) (omega arith) (omega arith) refl calls_and_returns_image refl

-- 10 GOTO A+20, 20 END
pub goes_to_sum : IsKept goes_to_sum_image program.goes_to_sum
unfolding encoded
goes_to_sum = compiled_keeps program.goes_to_sum (more (omega arith) (more (omega arith) none))
    (omega arith, omega arith, (omega arith, omega arith, tt))
    ((tt, ((omega arith, omega arith), ((omega arith, omega arith), (omega arith, (tt, tt))))), omega arith, ((tt, (tt, tt)), omega arith, tt))
    (omega arith) (omega arith) (omega arith) refl goes_to_sum_image refl

-- 10 PRINT "A";, 20 GOTO 10
pub prints_forever : IsKept prints_forever_image program.prints_forever
unfolding encoded
prints_forever = compiled_keeps program.prints_forever (more (omega arith) (more (omega arith) none))
    (omega arith, omega arith, (omega arith, omega arith, tt))
    ((tt, (omega arith, tt)), omega arith, ((tt, (omega arith, tt)), omega arith, tt))
    (omega arith) (omega arith) (omega arith) refl prints_forever_image refl

-- 10 IF A=0 THEN PRINT "AA";, 20 END
pub prints_if_zero : IsKept prints_if_zero_image program.prints_if_zero
unfolding encoded
prints_if_zero = compiled_keeps program.prints_if_zero (more (omega arith) (more (omega arith) none))
    (omega arith, omega arith, (omega arith, omega arith, tt))
    ((tt, ((omega arith, omega arith), (tt, ((omega arith, omega arith), (tt, (omega arith, tt)))))), omega arith, ((tt, (tt, tt)), omega arith, tt))
    (omega arith) (omega arith) (omega arith) refl prints_if_zero_image refl

-- 10 PRINT (A-1)/(A+2);
pub prints_negative_quotient : IsKept prints_negative_quotient_image program.prints_negative_quotient
unfolding encoded
prints_negative_quotient = compiled_keeps program.prints_negative_quotient (more (omega arith) none)
    (omega arith, omega arith, tt) (
      (
        tt,
        (
          (omega arith, omega arith),
          (
            (omega arith, omega arith),
            (
              omega arith,
              (
                (omega arith, omega arith),
                (
                  (omega arith, omega arith),
                  (omega arith, (omega arith, (tt, tt))),
                ),
              ),
            ),
          ),
        ),
      ),
      omega arith,
      tt,
    )
    (omega arith) (omega arith) (omega arith) refl prints_negative_quotient_image refl

-- 10 IF A-20000<A+20000 THEN PRINT "A";, 20 END
pub compares_far : IsKept compares_far_image program.compares_far
unfolding encoded
compares_far = compiled_keeps program.compares_far (more (omega arith) (more (omega arith) none))
    (omega arith, omega arith, (omega arith, omega arith, tt)) (
      (
        tt,
        (
          (omega arith, omega arith),
          (
            (omega arith, omega arith),
            (
              omega arith,
              (
                tt,
                (
                  (omega arith, omega arith),
                  (
                    (omega arith, omega arith),
                    (omega arith, (tt, (omega arith, tt))),
                  ),
                ),
              ),
            ),
          ),
        ),
      ),
      omega arith,
      ((tt, (tt, tt)), omega arith, tt),
    )
    (omega arith) (omega arith) (omega arith) refl compares_far_image refl

-- 10 PRINT (A-1)/256;
pub prints_quotient_by_256 : IsKept prints_quotient_by_256_image program.prints_quotient_by_256
unfolding encoded
prints_quotient_by_256 = compiled_keeps program.prints_quotient_by_256 (more (omega arith) none)
    (omega arith, omega arith, tt) (
      (
        tt,
        (
          (omega arith, omega arith),
          (
            (omega arith, omega arith),
            (
              omega arith,
              (
                (omega arith, omega arith),
                (omega arith, (tt, tt)),
              ),
            ),
          ),
        ),
      ),
      omega arith,
      tt,
    )
    (omega arith) (omega arith) (omega arith) refl prints_quotient_by_256_image refl

-- 10 IF A-256=0 THEN PRINT "A";, 20 END
pub prints_if_256 : IsKept prints_if_256_image program.prints_if_256
unfolding encoded
prints_if_256 = compiled_keeps program.prints_if_256 (more (omega arith) (more (omega arith) none))
    (omega arith, omega arith, (omega arith, omega arith, tt)) (
      (
        tt,
        (
          (omega arith, omega arith),
          (
            (omega arith, omega arith),
            (
              omega arith,
              (
                tt,
                (
                  (omega arith, omega arith),
                  (tt, (omega arith, tt)),
                ),
              ),
            ),
          ),
        ),
      ),
      omega arith,
      ((tt, (tt, tt)), omega arith, tt),
    )
    (omega arith) (omega arith) (omega arith) refl prints_if_256_image refl

-- 10 IF A>0 THEN PRINT "A";, 20 END
pub prints_if_positive : IsKept prints_if_positive_image program.prints_if_positive
unfolding encoded
prints_if_positive = compiled_keeps program.prints_if_positive (more (omega arith) (more (omega arith) none))
    (omega arith, omega arith, (omega arith, omega arith, tt)) (
      (
        tt,
        (
          (omega arith, omega arith),
          (
            tt,
            (
              (omega arith, omega arith),
              (tt, (omega arith, tt)),
            ),
          ),
        ),
      ),
      omega arith,
      ((tt, (tt, tt)), omega arith, tt),
    )
    (omega arith) (omega arith) (omega arith) refl prints_if_positive_image refl

-- 10 LET A=A-1, 20 PRINT A-A/4*4;
pub prints_rest : IsKept prints_rest_image program.prints_rest
unfolding encoded
prints_rest = compiled_keeps program.prints_rest (more (omega arith) (more (omega arith) none))
    (omega arith, omega arith, (omega arith, omega arith, tt))
    ((tt, ((omega arith, omega arith), ((omega arith, omega arith), (omega arith, (omega arith, tt))))), omega arith, ((tt, ((omega arith, omega arith), ((omega arith, omega arith), ((omega arith, omega arith), (omega arith, ((omega arith, omega arith), (omega arith, (omega arith, (tt, tt))))))))), omega arith, tt))
    (omega arith) (omega arith) (omega arith) refl prints_rest_image refl

-- 10 LET A=A-1, 20 PRINT A-A/3*3;
pub prints_rest_by_three : IsKept prints_rest_by_three_image program.prints_rest_by_three
unfolding encoded
prints_rest_by_three = compiled_keeps program.prints_rest_by_three (more (omega arith) (more (omega arith) none))
    (omega arith, omega arith, (omega arith, omega arith, tt))
    ((tt, ((omega arith, omega arith), ((omega arith, omega arith), (omega arith, (omega arith, tt))))), omega arith, ((tt, ((omega arith, omega arith), ((omega arith, omega arith), ((omega arith, omega arith), (omega arith, ((omega arith, omega arith), (omega arith, (omega arith, (tt, tt))))))))), omega arith, tt))
    (omega arith) (omega arith) (omega arith) refl prints_rest_by_three_image refl

-- 10 LET A=A+25, 20 LET B=B+4, 30 PRINT A-A/B*B;
pub prints_rest_of_bytes : IsKept prints_rest_of_bytes_image program.prints_rest_of_bytes
unfolding encoded
prints_rest_of_bytes = compiled_keeps program.prints_rest_of_bytes (more (omega arith) (more (omega arith) (more (omega arith) none)))
    (omega arith, omega arith, (omega arith, omega arith, (omega arith, omega arith, tt)))
    ((tt, ((omega arith, omega arith), ((omega arith, omega arith), (omega arith, (omega arith, tt))))), omega arith, ((tt, ((omega arith, omega arith), ((omega arith, omega arith), (omega arith, (omega arith, tt))))), omega arith, ((tt, ((omega arith, omega arith), ((omega arith, omega arith), ((omega arith, omega arith), (omega arith, ((omega arith, omega arith), (omega arith, (omega arith, (tt, tt))))))))), omega arith, tt)))
    (omega arith) (omega arith) (omega arith) refl prints_rest_of_bytes_image refl

-- 10 PRINT "A",1;
pub prints_in_zones : IsKept prints_in_zones_image program.prints_in_zones
unfolding encoded
prints_in_zones = compiled_keeps program.prints_in_zones (more (omega arith) none)
    (omega arith, omega arith, tt)
    ((tt, (omega arith, (tt, ((omega arith, omega arith), (tt, tt))))), omega arith, tt)
    (omega arith) (omega arith) (omega arith) refl prints_in_zones_image refl

-- 10 IF A-1<256 THEN PRINT "A";, 20 END
pub prints_if_below_256 : IsKept prints_if_below_256_image program.prints_if_below_256
unfolding encoded
prints_if_below_256 = compiled_keeps program.prints_if_below_256 (more (omega arith) (more (omega arith) none))
    (omega arith, omega arith, (omega arith, omega arith, tt)) (
      (
        tt,
        (
          (omega arith, omega arith),
          (
            (omega arith, omega arith),
            (
              omega arith,
              (
                tt,
                (
                  (omega arith, omega arith),
                  (tt, (omega arith, tt)),
                ),
              ),
            ),
          ),
        ),
      ),
      omega arith,
      ((tt, (tt, tt)), omega arith, tt),
    )
    (omega arith) (omega arith) (omega arith) refl prints_if_below_256_image refl

first_true : (b : Bool) → b || false ≡ true → b ≡ true
first_true true h = refl
first_true false h = h

ten : (n : ℕ) → has_line (10 ∷ []) n ≡ true → 10 ≡ n
ten n h = let e = first_true (nat_eq 10 n) h in grind (arith, nat_tests, e)

-- 10 END, whose line begins after the routines
pub ends_marked : MarksLines BASIC_START ends_image program.ends 1 (λ n. LINES_AT)
unfolding encoded
ends_marked = compiled_marks program.ends (more (omega arith) none) (omega arith, omega arith, tt)
    ((tt, (tt, tt)), omega arith, tt)
    (omega arith) (omega arith) (omega arith) refl ends_image refl (λ n. LINES_AT)
    (λ n h. subst (λ m. (layout_of (labels_from PROLOGUE_AT (items program.ends)) (10 ∷ []) 1).start m ≡ LINES_AT) (ten n h) refl)

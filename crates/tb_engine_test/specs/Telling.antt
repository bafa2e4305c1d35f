-- What is told of transcripts that were run.
use Rattle.std.specs.Prelude.{ℕ, ◌+◌, ◌++◌, Bool, true, false, List, [], ◌∷◌, codes, nat_eq, Option, Some, None}
use Rattle.std.specs.Fmt.{decimal}
use Rattle.tb_engine_transcripts.specs.declared.forms.TestForm.{TestForm}
use Rattle.tb_engine_transcripts.specs.declared.forms.TestForm.TheVariants.{Text, Tap}
use Rattle.tb_engine_test.specs.declared.places.Differs.{Differs}

-- what is told first: the version of the Test Anything Protocol, or nothing
abbrev pub opening : TestForm → List ℕ
opening Text = []
opening Tap = codes "TAP version 13\n"

-- in which line of the source the program was
abbrev pub in_line : Option ℕ → List ℕ
in_line None = []
in_line (Some line) = codes "line " ++ decimal line ++ codes " was running\n"

-- what is told in words: `ok` and the name, or `not ok` with the line that was running and the difference
abbrev pub told_plainly : List ℕ → Option Differs → List ℕ
told_plainly name None = codes "ok " ++ name ++ codes "\n"
told_plainly name (Some d) = codes "not ok " ++ name ++ codes "\n" ++ in_line d.line ++ d.text.items

-- lines as remarks of the protocol: `# ` stands before each
abbrev pub remarks : (is_first : Bool) → List ℕ → List ℕ
remarks is_first [] = []
remarks true (b ∷ bytes) = codes "# " ++ b ∷ remarks (nat_eq b 10) bytes
remarks false (b ∷ bytes) = b ∷ remarks (nat_eq b 10) bytes

-- what is told by the protocol: the number and the name, and the difference as remarks
abbrev pub told_as_tap : ℕ → List ℕ → Option Differs → List ℕ
told_as_tap number name None = codes "ok " ++ decimal number ++ codes " - " ++ name ++ codes "\n"
told_as_tap number name (Some d) =
    codes "not ok " ++ decimal number ++ codes " - " ++ name ++ codes "\n" ++ remarks true (in_line d.line) ++ remarks true d.text.items

-- what is told of a transcript by its number and name
abbrev pub told : TestForm → ℕ → List ℕ → Option Differs → List ℕ
told Text number name differs = told_plainly name differs
told Tap number name differs = told_as_tap number name differs

-- what is told of a transcript that was written anew
abbrev pub updated : TestForm → ℕ → List ℕ → List ℕ
updated Text number name = codes "updated " ++ (name ++ codes "\n")
updated Tap number name = codes "ok " ++ (decimal number ++ (codes " - " ++ (name ++ codes " # updated\n")))

-- what is told last: how many passed and failed, or the protocol's plan
abbrev pub summary : TestForm → ℕ → ℕ → List ℕ
summary Text passed failed = decimal passed ++ (codes " passed, " ++ (decimal failed ++ codes " failed\n"))
summary Tap passed failed = codes "1.." ++ decimal (passed + failed) ++ codes "\n"

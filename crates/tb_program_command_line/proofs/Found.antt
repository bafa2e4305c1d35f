-- What is read of what the parser found.
use Rattle.std.proofs.Common.{◌≡◌, ℕ, Bool, true, false, List, Option, Some, None, codes, refl, ap}
use Rattle.std.specs.Str.Parse.{ExplainsUnsignedError, HasUnsignedDigitsIfOk, ParsesUnsigned}
use Rattle.clap.specs.Words.{ReadsOne}
use Rattle.tb_program_command_line.specs.Values.{Reads, Says}

-- a number, by what `get_one` answers
pub number_read : (k : ℕ) (text : Option (List ℕ)) (read : Option ℕ) → (text ≡ None → read ≡ None)
    → ((t : List ℕ) → text ≡ Some t
    → ReadsOne (λ bs r. ParsesUnsigned k 10 bs r × ExplainsUnsignedError 10 bs r × HasUnsignedDigitsIfOk bs r) t read) → Reads k text read
number_read k None read none value = none refl
number_read k (Some text) (Some n) none value = (value text refl).0
number_read k (Some text) None none value = (value text refl).1.0

-- a flag, by what `get_flag` answers
pub flag_said : (text : Option (List ℕ)) (is : Bool) → (text ≡ None → is ≡ false) → (text ≡ Some (codes "true") → is ≡ true)
    → (text ≡ Some (codes "false") → is ≡ false) → Says text is
flag_said None is none on off = none refl
flag_said (Some text) is none on off = (λ e. on (ap (λ t. Some t) e), λ e. off (ap (λ t. Some t) e))

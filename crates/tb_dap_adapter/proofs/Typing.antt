-- A line that is typed.
use Rattle.std.proofs.Common.{rules, ◌≡◌, ◌≤◌, ◌-◌, Bool, false, nat_lt, List, ℕ, length, sym, subst}
use Rattle.tb_engine_play.specs.Lines.{keys_of_text}
use Rattle.tb_dap_requests.specs.Said.{Saying}
use Rattle.tb_dap_adapter.specs.Sessions.{Resumes, TakesKeys, TakesLine, Types, most_typed, status_of, waits}
use Rattle.tb_dap_adapter.specs.declared.session.Session.{Session}

-- a line whose keys aren't too many is typed
pub line_taken : (keys line : List ℕ) (s u t : Session) (told : List Saying) (waited : Bool) → keys ≡ keys_of_text line
    → length keys ≤ most_typed - s.typed → Types keys s u → waited ≡ waits (status_of s) → Resumes waited u told t → TakesLine line s told t
line_taken keys line s u t told waited is few types stands resumes =
    let fits : nat_lt (most_typed - s.typed) (length keys) ≡ false = search rules in
    subst (λ k. TakesKeys (nat_lt (most_typed - s.typed) (length k)) k s told t) is
    (subst (λ b. TakesKeys b keys s told t) (sym fits) (u, types, subst (λ w. Resumes w u told t) stands resumes))

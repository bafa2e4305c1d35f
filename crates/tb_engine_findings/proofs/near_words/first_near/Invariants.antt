-- What holds at each turn of the loop of `first_near` in src/near_words.rt.
use Rattle.std.proofs.Common.{◌≡◌, drop}
use Rattle.std.specs.List.{find}
use Rattle.tb_engine_findings.specs.NearWords.{is_near, spelling_of}
use Rattle.tb_engine_findings.proofs.near_words.first_near.Given as goal

abbrev pub invariant-loop-word : goal.invariant-loop-word
invariant-loop-word l = find (λ w. is_near l.letters (spelling_of w)) (drop l.word-index l.words) ≡ find (λ w. is_near l.letters (spelling_of w)) l.words

-- What holds at each turn of the loop of `letters_of` in src/setting.rt.
use Rattle.std.proofs.Common.{◌≡◌, ◌++◌, drop}
use Rattle.tb_dap_requests.specs.Setting.{letters_of}
use Rattle.tb_dap_requests.proofs.setting.letters_of.Given as goal

abbrev pub invariant-loop-one : goal.invariant-loop-one
invariant-loop-one l = l.letters.items ++ letters_of (drop l.one-index l.wanted) ≡ letters_of l.wanted

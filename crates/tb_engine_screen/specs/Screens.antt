-- The machine's screen during a talk.
use Rattle.std.specs.Prelude.{ℕ, ◌-◌, List, length, take}
use Rattle.tb_kernal.specs.Machine.{Content}
use Rattle.tb_machine_screen.specs.Contents.{Content as Screen}
use Rattle.tb_machine_screen.specs.Printing.{all_printed}
use Rattle.tb_engines.specs.Writing.{sent_since}

-- the screen after a machine ran on from one content to another: what it sent meanwhile is printed
abbrev pub ran : Content → Content → Screen → Screen
ran m n s = all_printed (sent_since m n) s

-- the screen after keys were typed, as the machine's editor shows them: all but the return at their end, which only ends
-- the line
abbrev pub echoed : List ℕ → Screen → Screen
echoed keys s = all_printed (take (length keys - 1) keys) s

-- Items that assemble to bytes.
use Rattle.std.specs.Prelude.{◌≡◌, ℕ, None, List}
use Rattle.tb_asm.specs.Layout.{Entry, image_of}
use Rattle.tb_asm.specs.Assembled.{refusal}

-- items assemble at an address, without a refusal, to bytes
abbrev pub AssemblesTo : ℕ → List Entry → List ℕ → Type 0
AssemblesTo at es bs = (refusal at es ≡ None) × (image_of at es ≡ bs)

-- What mends a finding, as plain data.
use Rattle.std.specs.Prelude.{ℕ, List}
use Rattle.serde_json.specs.Data.{Data}

-- a fix: what it is called, and its edits
pub record Mends : Type 0 where
  pub title : List ℕ
  pub edits : List Data

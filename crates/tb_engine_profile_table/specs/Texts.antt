-- The texts of a table of the lines of a source.
use Rattle.std.specs.Prelude.{ℕ, ◌≡◌, List}
use Rattle.tb_engine_profile_table.specs.declared.rows.Table.{Table}
use Rattle.tb_engine_profile_table.specs.declared.texts.Texts.{Texts}
use Rattle.tb_engine_profile_table.specs.About.{Facts}
use Rattle.tb_engine_profile_table.specs.Lines.{stated}
use Rattle.tb_engine_profile_table.specs.Table.{table_of}
use Rattle.tb_engine_profile_table.specs.Page.{page_of}

-- the table and the page, byte for byte
pub record Shows (facts : Facts) (source : List ℕ) (of : Table) (texts : Texts) : Type 0 where
  pub table : texts.table.items ≡ table_of of.whole (stated source of.rows.items)
  pub page : texts.page.items ≡ page_of facts of.whole (stated source of.rows.items)

-- The goal of `open_texts_are_published` in src/laws.rt.
use Rattle.tb_lsp_published.proofs.Published as published
use Rattle.tb_lsp_published.proofs.laws.open_texts_are_published.Goals as goal

pub returns : goal.returns
returns g c = published.open_texts_are_published g.K.Compile.own

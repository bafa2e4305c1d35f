-- The goals of `words_bytes` in src/items.rt.
use Rattle.std.proofs.Common.{ℕ, List, refl}
use Rattle.tb_assembly_text.specs.Expressions.{sum_of}
use Rattle.tb_assembly_meaning.specs.Names.{named}
use Rattle.tb_assembly_meaning.specs.Items.{word_content, words_bytes}
use Rattle.tb_assembly_meaning.proofs.Next.{bytes_go, bytes_fails}
use Rattle.tb_assembly_meaning.proofs.items.words_bytes.Goals as goal

pub loop-word-preserved : goal.loop-word-preserved
loop-word-preserved c =
    let env = named c.args.symbols.now.entries in
    bytes_go sum_of (word_content env c.args.at) (words_bytes env c.args.at) (λ d ds. refl) c.args.words.now c.loop-word.word-index c.word-item.result c.loop-word-test.true c.word-item.is
    c.loop-word.bytes.items _ c.loop-word.invariant c.push_value.new.bytes.items c.in-Ok.ensures

pub returns-in-Err : goal.returns-in-Err
returns-in-Err c =
    let env = named c.args.symbols.now.entries in
    bytes_fails sum_of (word_content env c.args.at) (words_bytes env c.args.at) (λ d ds. refl) c.args.words.now c.loop-word.word-index c.word-item.result c.loop-word-test.true c.word-item.is
    c.loop-word.bytes.items _ c.loop-word.invariant (Unit {0}) (List ℕ) (λ v. v) c.in-Err.error _ c.in-Err.ensures

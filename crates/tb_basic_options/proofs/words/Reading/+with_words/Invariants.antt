-- What `with_words` in src/words.rt calls itself with: less of the text.
use Rattle.std.proofs.Common.{length}
use Rattle.tb_basic_options.proofs.words.Reading.+with_words.Given as goal

abbrev pub decreases-with_words : goal.decreases-with_words
decreases-with_words l = length l.text.now

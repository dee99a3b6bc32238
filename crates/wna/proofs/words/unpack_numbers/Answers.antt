-- Each place holds its word.
use Prim.Native.Nat.{◌*◌}
use borrow.Author.Rules.{rules}
use Rattle.lists.proofs.Tab.{is_tab}
use Rattle.wna.specs.Words.{word_at, words_of}
use Rattle.wna.proofs.words.unpack_numbers.Goals as goal

pub returns : goal.returns
unfolding words_of
returns c = is_tab 0 _ _ (λ i. word_at c.args.bytes.now (4 * i)) c.fill_by.auto.out (λ i lt. let h = c.fill_by.ensures 0 i lt in search rules)

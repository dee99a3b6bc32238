-- Each place holds its float.
use Prim.Native.Nat.{◌*◌}
use borrow.Author.Rules.{rules}
use lib.Ieee.{nan}
use Rattle.lists.proofs.Tab.{is_tab}
use Rattle.wna.specs.Words.{float_at, floats_of}
use Rattle.wna.proofs.words.unpack_floats.Goals as goal

pub returns : goal.returns
unfolding floats_of
returns c = is_tab nan _ _ (λ i. float_at c.args.bytes.now (4 * i)) c.fill_by.auto.out (λ i lt. let h = c.fill_by.ensures nan i lt in search rules)

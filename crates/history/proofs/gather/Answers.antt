-- The columns before the block, then the block's own, by `gather_is`.
use Rattle.history.proofs.Turns.{gather_is}
use Rattle.history.proofs.gather.Goals as goal

pub returns : goal.returns
returns c =
    let args = c.args in
    let pre = c.requires in
    let least = c.min-before in
    let fetch = c.fetch in
    gather_is _ _ _ _ _ _ _ _ _ _ args.work.now _ _ (pre) least.ensures fetch.ensures c.copy_rows.ensures

-- Both ways the tap reads what it should see: `tapped_here`, `tapped_rows`.
use mathlib.Core.Path.{refl, sym, ◌∙◌}
use Rattle.conv.proofs.Blocks.{gather_fits, tapped_here, tapped_rows}
use Rattle.conv.proofs.read_tap.Goals as goal

pub gather-requires : goal.gather-requires
gather-requires c =
    let pre = c.requires in
    let args = c.args in
    let steps_back = c.steps_back-back in
    gather_fits pre.0 args.k _ steps_back.ensures

pub returns-then-in_place : goal.returns-then-in_place
returns-then-in_place c =
    let pre = c.requires in
    let args = c.args in
    let steps_back = c.steps_back-back in
    let in_place = c.in_place in
    let if1 = c.if-in_place in
    tapped_here pre.0 args.filter.now.weights.now args.work.now _ args.k refl _ (sym steps_back.ensures ∙ in_place.ensures if1.true) c.tap.ensures

pub returns-else-in_place : goal.returns-else-in_place
returns-else-in_place c =
    let pre = c.requires in
    let args = c.args in
    let steps_back = c.steps_back-back in
    let gather = c.gather in
    tapped_rows pre.0 args.filter.now.weights.now args.work.now _ args.k refl _ _ _ steps_back.ensures gather.ensures c.tap-else-in_place.ensures

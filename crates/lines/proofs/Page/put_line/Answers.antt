-- The parts of a line, one after the other (Lining); an index has at most ten places.
use mathlib.Core.Path.{◌∙◌}
use native.Mathlib.Omega.{arith}
use Rattle.lines.proofs.Lining.{array_room, end_room, head_room, index_room, line_done}
use Rattle.lines.proofs.Page.put_line.Goals as goal

pub put_decimal-requires : goal.put_decimal-requires
put_decimal-requires c = index_room c.args.columns.count c.args.columns.heads c.args.columns.head.now c.args.columns.arrays c.args.columns.array.now c.args.t c.args.index _ _ c.requires.t_lt_n.1 c.requires.t_lt_n.2

pub put_column-requires : goal.put_column-requires
put_column-requires c =
    (omega (arith, head_room c.args.columns.count c.args.columns.heads c.args.columns.head.now c.args.columns.arrays c.args.columns.array.now c.args.t c.args.index c.requires.t_lt_n.1 c.requires.t_lt_n.2 c.put_decimal.ensures.wrote), c.requires.t_lt_n.0, c.requires.room.held)

pub put_column-requires-2 : goal.put_column-requires-2
put_column-requires-2 c =
    (omega (arith, array_room c.args.columns.count c.args.columns.heads c.args.columns.head.now c.args.columns.arrays c.args.columns.array.now c.args.t c.args.index c.requires.t_lt_n.1 c.requires.t_lt_n.2 c.put_decimal.ensures.wrote c.put_column.ensures.wrote), c.requires.t_lt_n.0, c.requires.room.also)

pub put-requires : goal.put-requires
put-requires c = end_room c.args.columns.count c.args.columns.heads c.args.columns.head.now c.args.columns.arrays c.args.columns.array.now c.args.t c.args.index c.requires.t_lt_n.1 c.requires.t_lt_n.2 c.put_decimal.ensures.wrote c.put_column.ensures.wrote c.put_column-2.ensures.wrote

pub returns : goal.returns
returns c =
    record {
      same_reference = c.put.ensures.same_reference ∙ c.put_column-2.ensures.same_reference ∙ c.put_column.ensures.same_reference ∙ c.put_decimal.ensures.same_reference;
      wrote = line_done _ _ _ _ _ _ _ c.put_decimal.ensures.wrote c.put_column.ensures.wrote c.put_column-2.ensures.wrote c.put.ensures.wrote;
    }

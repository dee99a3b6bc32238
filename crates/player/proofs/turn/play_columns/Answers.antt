-- The block is not refused, and its outputs are the recurrence's (Playing).
use Rattle.std.proofs.Common.{refl, ◌∙◌, ap, length}
use borrow.Author.Rules.{rules}
use Rattle.calls.proofs.Handed.{handed}
use Rattle.refusal.proofs.PassedOn.{accepted}
use Rattle.player.proofs.Playing.{not_refused, plays, plays_as, ready_as}
use Rattle.player.proofs.turn.play_columns.Goals as goal

pub unwrap-requires : goal.unwrap-requires
unwrap-requires c =
    let s = c.sources-sources.ensures in
    accepted c.block.result (c.block.ensures.answers.answer ∙ not_refused _ _ _ _ _ (ready_as s.description s.weights c.requires.ready) (record {
      input = ap length s.input ∙ c.take.ensures.laid.input;
      condition = ap length s.condition ∙ c.take.ensures.laid.condition;
      head_in = ap length s.head_in ∙ c.take.ensures.laid.head_in;
      head_out = c.requires.head_out_len.0;
      array_out = c.requires.head_out_len.1;
    }))

pub returns-clause-plays : goal.returns-clause-plays
returns-clause-plays c =
    let s = c.sources-sources.ensures in
    let ready = ready_as s.description s.weights c.requires.ready in
    plays_as s.description s.weights (plays _ _ _ (handed c.block.ensures.answers refl (search rules) (search rules) (search rules) (search rules) refl) (not_refused _ _ _ _ _ ready (record {
      input = ap length s.input ∙ c.take.ensures.laid.input;
      condition = ap length s.condition ∙ c.take.ensures.laid.condition;
      head_in = ap length s.head_in ∙ c.take.ensures.laid.head_in;
      head_out = c.requires.head_out_len.0;
      array_out = c.requires.head_out_len.1;
    })) _ _ ready.suits.array_is (s.input ∙ c.take.ensures.taken.input) (s.condition ∙ c.take.ensures.taken.condition) (s.head_in ∙ c.take.ensures.taken.head_in) _ c.put_lines.ensures)

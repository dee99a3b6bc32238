-- Each test that ends the reading gives its answer (Heading).
use mathlib.Core.Path.{◌≡◌, sym, ◌∙◌, ap}
use mathlib.Core.Bool.{false, not}
use native.Mathlib.Omega.{arith}
use Rattle.wna.specs.Header.{other_magic}
use Rattle.wna.proofs.Heading.{short, other, edition, empty, large, crowded, whole, magic_is}
use Rattle.wna.proofs.header.read_header.Goals as goal
use Rattle.wna.proofs.header.read_header.Goals.{then-bytes-lt-HEADER_LENGTH-via-then-bytes-lt-HEADER_LENGTH, then-bytes-lt-HEADER_LENGTH-via-else-bytes-lt-HEADER_LENGTH+then-not-starts_with, then-bytes-lt-HEADER_LENGTH-via-else-bytes-lt-HEADER_LENGTH+else-not-starts_with+then-half-ne1}
use Rattle.wna.proofs.header.read_header.Goals.{then-block-eq0-via-then-block-eq0, then-block-eq0-via-else-block-eq0+then-block-gt-LARGEST_BLOCK}

pub returns-then-bytes-lt-HEADER_LENGTH : goal.returns-then-bytes-lt-HEADER_LENGTH
returns-then-bytes-lt-HEADER_LENGTH c =
    let f = c.args.bytes.now in
    elim c.then-bytes-lt-HEADER_LENGTH.branch [
      | then-bytes-lt-HEADER_LENGTH-via-then-bytes-lt-HEADER_LENGTH w ↦ short f w.if-bytes-lt-HEADER_LENGTH.true
      | then-bytes-lt-HEADER_LENGTH-via-else-bytes-lt-HEADER_LENGTH+then-not-starts_with w ↦
          other f w.if-bytes-lt-HEADER_LENGTH.false (magic_is f (omega (arith, w.if-bytes-lt-HEADER_LENGTH.false)) ∙ ap not (sym w.starts_with.ensures.value ∙ w.if-not-starts_with.true))
      | then-bytes-lt-HEADER_LENGTH-via-else-bytes-lt-HEADER_LENGTH+else-not-starts_with+then-half-ne1 w ↦
          edition f w.if-bytes-lt-HEADER_LENGTH.false (magic_is f (omega (arith, w.if-bytes-lt-HEADER_LENGTH.false)) ∙ ap not (sym w.starts_with.ensures.value ∙ w.if-not-starts_with.false))
          (λ e. w.if-half-ne1.true (w.half.ensures ∙ e))
    ]

pub returns-then-block-eq0 : goal.returns-then-block-eq0
returns-then-block-eq0 c =
    let f = c.args.bytes.now in
    let ours : other_magic f ≡ false = magic_is f (omega (arith, c.if-bytes-lt-HEADER_LENGTH.false)) ∙ ap not (sym c.starts_with.ensures.value ∙ c.if-not-starts_with.false) in
    elim c.then-block-eq0.branch [
      | then-block-eq0-via-then-block-eq0 w ↦ empty f c.if-bytes-lt-HEADER_LENGTH.false ours (omega arith) (sym c.half-block.ensures ∙ w.if-block-eq0.true)
      | then-block-eq0-via-else-block-eq0+then-block-gt-LARGEST_BLOCK w ↦
          large f c.if-bytes-lt-HEADER_LENGTH.false ours (omega arith) (λ e. w.if-block-eq0.false (c.half-block.ensures ∙ e)) (rw c.half-block.ensures at w.if-block-gt-LARGEST_BLOCK.true)
    ]

pub returns-then-count-gt-MOST_NUMBERS : goal.returns-then-count-gt-MOST_NUMBERS
returns-then-count-gt-MOST_NUMBERS c =
    let f = c.args.bytes.now in
    let ours : other_magic f ≡ false = magic_is f (omega (arith, c.if-bytes-lt-HEADER_LENGTH.false)) ∙ ap not (sym c.starts_with.ensures.value ∙ c.if-not-starts_with.false) in
    crowded f c.if-bytes-lt-HEADER_LENGTH.false ours (omega arith) (λ e. c.if-block-eq0.false (c.half-block.ensures ∙ e))
    (rw c.half-block.ensures at c.if-block-gt-LARGEST_BLOCK.false) (rw c.word-count.ensures at c.if-count-gt-MOST_NUMBERS.true)

pub returns : goal.returns
returns c =
    let f = c.args.bytes.now in
    let ours : other_magic f ≡ false = magic_is f (omega (arith, c.if-bytes-lt-HEADER_LENGTH.false)) ∙ ap not (sym c.starts_with.ensures.value ∙ c.if-not-starts_with.false) in
    whole f c.if-bytes-lt-HEADER_LENGTH.false ours (omega arith) (λ e. c.if-block-eq0.false (c.half-block.ensures ∙ e))
    (rw c.half-block.ensures at c.if-block-gt-LARGEST_BLOCK.false) (rw c.word-count.ensures at c.if-count-gt-MOST_NUMBERS.false) _ c.half-block.ensures c.word-count.ensures c.word.ensures

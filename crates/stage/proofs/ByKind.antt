-- What the turn of each kind of stage comes to, whatever the buffers hold that this kind leaves alone. Assumes nothing.
use Rattle.std.specs.Prelude.{List, ℕ, suc, Float}
use Rattle.description.specs.Numbers.{layer_count}
use Rattle.array.specs.Lent.{Given}
use Rattle.array.specs.Turn.{Changing, TurnDone}
use Rattle.stage.specs.declared.span.Span.{Span}
use Rattle.stage.specs.Turns.{Placed}

-- the buffers as a turn knows them
abbrev pub given_of : List ℕ → List Float → List Float → List Float → List Float → Given
given_of d weights input condition headIn = record { description = d; weights = weights; input = input; condition = condition; head_in = headIn }

abbrev pub changing_of : List Float → List ℕ → List Float → List Float → List Float → Changing
changing_of histories positions headOut arrayOut scratch =
    record { histories = histories; positions = positions; head_out = headOut; array_out = arrayOut; scratch = scratch }

module _ (d : List ℕ) (weights : List Float) (span : Span) (h0 : List Float) (p0 : List ℕ) (w0 h1 : List Float) (p1 : List ℕ) (w1 : List Float) where
  -- stage 0 does not know the condition and the outputs
  pub record FirstTurn (input headIn : List Float) : Type 0 where
    pub by : (condition headOut arrayOut : List Float)
        → TurnDone (given_of d weights input condition headIn) span.n 0 span.from span.count (changing_of h0 p0 headOut arrayOut w0) (changing_of h1 p1 headOut arrayOut w1)
    pub places : Placed d p1

  -- layer l knows the condition only
  pub record LayerTurn (l : ℕ) (condition : List Float) : Type 0 where
    pub by : (input headIn headOut arrayOut : List Float)
        → TurnDone (given_of d weights input condition headIn) span.n (suc l) span.from span.count (changing_of h0 p0 headOut arrayOut w0) (changing_of h1 p1 headOut arrayOut w1)
    pub places : Placed d p1

  -- the last stage knows the outputs only
  pub record LastTurn (head0 array0 head1 array1 : List Float) : Type 0 where
    pub by : (input condition headIn : List Float)
        → TurnDone (given_of d weights input condition headIn) span.n (suc (layer_count d)) span.from span.count (changing_of h0 p0 head0 array0 w0) (changing_of h1 p1 head1 array1 w1)
    pub places : Placed d p1

-- A slot of the list of parts: the shape of a convolution, or none where a 0 makes it absent. Document 01, 'Description'.
use Rattle.std.specs.Prelude.{Option}
use Rattle.shape.specs.declared.Shape.{Shape}

abbrev pub Part : Type 0
Part = Option Shape

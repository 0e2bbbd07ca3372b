-- Runs of the machine, over lists of bytes.
use Rattle.std.proofs.Common.{◌≡◌, ◌++◌, [], ◌∷◌, Option, Some, None, refl}
use Rattle.tuple_values.specs.Document.{ByteList}
use Rattle.query_syntax.specs.Machine.{Machine}
use Rattle.query_syntax.specs.Steps.{step}
use Rattle.query_syntax.specs.Reading.{run}

-- a run over two lists is one over the first and then over the second
pub run-append : (o : Option Machine) (front more : ByteList)
    → run o (front ++ more) ≡ run (run o front) more
run-append None front more = refl
run-append (Some m) [] more = refl
run-append (Some m) (b ∷ front) more = run-append (step m b (b ∷ [])) front more

-- a run over nothing stays where it is
pub run-nothing : (o : Option Machine) → run o [] ≡ o
run-nothing None = refl
run-nothing (Some m) = refl

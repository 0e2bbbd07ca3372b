-- What a kernel's answer says (own).
use Rattle.std.specs.Prelude.{ℕ, List, [], ◌∷◌, Option, Some, None}
use Rattle.tuple_values.specs.Document.{Doc}
use Rattle.kernel_laws.specs.declared.ask.Ask.{Ask}
use Rattle.kernel_laws.specs.declared.ask.Ask.TheVariants.{Emit, Need, End}

-- the document that is emitted, if one is
abbrev pub emitted : Ask → List Doc
emitted (Emit doc) = doc ∷ []
emitted (Need i) = []
emitted End = []

-- the input that is needed, if one is
abbrev pub wanted : Ask → Option ℕ
wanted (Emit doc) = None
wanted (Need i) = Some i
wanted End = None

-- a fact where the answer is the end
abbrev pub IfEnd : Ask → Type 0 → Type 0
IfEnd (Emit doc) P = Unit {0}
IfEnd (Need i) P = Unit {0}
IfEnd End P = P

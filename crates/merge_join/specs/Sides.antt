-- What an input of a join still gives, and what is answered for one (own).
use Rattle.std.specs.Prelude.{◌≡◌, List, [], ◌++◌, Bool, true, Option, option_to_list}
use Rattle.std.specs.Prelude.{if◌then◌else◌}
use Rattle.tuple_values.specs.Document.{Doc}
use Rattle.kernel_laws.specs.declared.ask.Ask.{Ask}
use Rattle.kernel_laws.specs.declared.ask.Ask.TheVariants.{Need, End}

-- the document that is held, if one is, and then its rest
abbrev pub flow : Option Doc → List Doc → List Doc
flow held rest = option_to_list held ++ rest

-- nothing is to come where the input has ended
abbrev pub IsOver : Bool → List Doc → Type 0
IsOver ended rest = ended ≡ true → rest ≡ []

-- what is answered where no left tuple is held
abbrev pub next_left : Bool → Ask
next_left ended = if ended then End else Need 0

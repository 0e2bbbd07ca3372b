-- The steps of the machine that reads a query (own).
use Rattle.std.specs.Prelude.{◌≡◌, ℕ, Bool, true}
use Rattle.std.specs.Prelude.{◌==◌, Option, Some, None, if◌then◌else◌, codes}
use Rattle.std.specs.Prelude.{MatchBool}
use Rattle.tuple_values.specs.Document.{ByteList}
use Rattle.query_syntax.specs.Letters.{is_blank, is_digit, is_just, is_operator}
use Rattle.query_syntax.specs.Ranges.{bare_says}
use Rattle.query_syntax.specs.Tree.{everything}
use Rattle.query_syntax.specs.declared.place.Side.TheVariants.{High}
use Rattle.query_syntax.specs.declared.place.Stage.TheVariants.{Behind}
use Rattle.query_syntax.specs.declared.place.Kind.{Kind}
use Rattle.query_syntax.specs.declared.place.Kind.TheVariants.{Name, Word, Number, Quote, Bare}
use Rattle.query_syntax.specs.declared.place.Kind.TheVariants.{Quoted}
use Rattle.query_syntax.specs.declared.place.Place.{Place}
use Rattle.query_syntax.specs.declared.place.Place.TheVariants.{Item, Star, Colon, Letters}
use Rattle.query_syntax.specs.declared.place.Place.TheVariants.{Escape, Tested, Minus}
use Rattle.query_syntax.specs.declared.place.Place.TheVariants.{MinusEscape, Before, Closed, Gap}
use Rattle.query_syntax.specs.declared.place.Place.TheVariants.{T, To}
use Rattle.query_syntax.specs.Machine.{Machine, takes, push, letter_step}
use Rattle.query_syntax.specs.Items.{end_item, end_test, end_bound, closed_step}
use Rattle.query_syntax.specs.declared.query.Test.TheVariants as test
use Rattle.query_syntax.specs.ItemSteps.{test_step, before_step, item_step, star_step, word_step}
use Rattle.query_syntax.specs.ItemSteps.{name_step}

-- a byte behind letters
abbrev pub end_step : Kind → Machine → ℕ → ByteList → Option Machine
end_step (Name stage) m b bytes = name_step stage m b bytes
end_step Word m b bytes = if is_operator m.escapes m.text then None else word_step m b bytes
end_step Number m b bytes = item_step Behind (end_test (test.Word m.text) m) b bytes
end_step Quote m b bytes = if b == 34 then Some (end_test (test.Word m.text) m) else None
end_step (Bare side) m b bytes =
    if is_just (codes "TO") m.escapes m.text then None
    else closed_step side (end_bound side (bare_says m.escapes m.text) m) b
end_step (Quoted side) m b bytes =
    if b == 34 then Some (end_bound side (Some m.text) m) else None

-- one more byte, or a character of these bytes, at a place; none where no query goes on so
abbrev pub step_at : Place → Machine → ℕ → ByteList → Option Machine
step_at (Item stage) m b bytes = item_step stage m b bytes
step_at Star m b bytes =
    if b == 58 then Some (record m { place = Colon }) else star_step m.field m b bytes
step_at Colon m b bytes = if b == 42 then Some (end_item everything m) else None
step_at (Letters kind) m b bytes =
    if takes kind b then Some (letter_step kind m b bytes) else end_step kind m b bytes
step_at (Escape kind) m b bytes =
    if b == 117 then None else Some (push kind (record m { escapes = true }) bytes)
step_at Tested m b bytes = test_step m b bytes
step_at Minus m b bytes =
    if b == 92 then Some (record m { place = MinusEscape; escapes = true })
    else (if is_digit b then Some (push Number m bytes) else None)
step_at MinusEscape m b bytes = if is_digit b then Some (push Number m bytes) else None
step_at (Before side) m b bytes = before_step side m b bytes
step_at (Closed side) m b bytes = closed_step side m b
step_at Gap m b bytes =
    if is_blank b then Some m else (if b == 84 then Some (record m { place = T }) else None)
step_at T m b bytes = if b == 79 then Some (record m { place = To }) else None
step_at To m b bytes = if is_blank b then Some (record m { place = Before High }) else None

-- one more byte, or a character of these bytes
abbrev pub step : Machine → ℕ → ByteList → Option Machine
step m b bytes = step_at m.place m b bytes

-- what a step of the code answers: it went on, or no query goes on so
abbrev pub Moves : Option Machine → Bool → Machine → Type 0
Moves stepped live new = MatchBool live (stepped ≡ Some new) (stepped ≡ None)

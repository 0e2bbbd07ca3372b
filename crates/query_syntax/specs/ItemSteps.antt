-- The steps of the machine that reads a query, before the items of a list and behind them (own).
use Rattle.std.specs.Prelude.{ℕ, [], ◌∷◌, Bool, true, false, ◌||◌}
use Rattle.std.specs.Prelude.{◌==◌, Option, Some, None, if◌then◌else◌, codes, bytes_eq}
use Rattle.tuple_values.specs.Document.{ByteList}
use Rattle.query_syntax.specs.Letters.{is_blank, is_operator}
use Rattle.query_syntax.specs.Tree.{on_field}
use Rattle.query_syntax.specs.declared.query.Role.{Role}
use Rattle.query_syntax.specs.declared.query.Role.TheVariants.{Required, Prohibited}
use Rattle.query_syntax.specs.declared.place.Side.{Side}
use Rattle.query_syntax.specs.declared.place.Side.TheVariants.{Low}
use Rattle.query_syntax.specs.declared.place.Stage.{Stage}
use Rattle.query_syntax.specs.declared.place.Stage.TheVariants.{First, Behind, Joined, Modified}
use Rattle.query_syntax.specs.declared.place.Kind.TheVariants.{Name, Word, Quote, Bare}
use Rattle.query_syntax.specs.declared.place.Kind.TheVariants.{Quoted}
use Rattle.query_syntax.specs.declared.place.Place.TheVariants.{Item, Star, Letters}
use Rattle.query_syntax.specs.declared.place.Place.TheVariants.{Tested, Minus}
use Rattle.query_syntax.specs.declared.place.Place.TheVariants.{Before}
use Rattle.query_syntax.specs.Machine.{Machine, begin}
use Rattle.query_syntax.specs.Items.{end_name}
use Rattle.query_syntax.specs.Items.{end_item, end_test, open_plain}
use Rattle.query_syntax.specs.Items.{open_group, close_in, join}
use Rattle.query_syntax.specs.declared.query.Test.TheVariants as test

-- ---- tests

-- a byte behind the colon
unfoldable pub test_step : Machine → ℕ → ByteList → Option Machine
test_step m b bytes =
    if is_blank b then Some (record m { place = Tested })
    else (if b == 42 then Some (end_test test.Present m)
    else (if b == 34 then Some (record m { place = Letters Quote; text = []; escapes = false })
    else (if b == 91 then Some (record m { place = Before Low; low_in = true })
    else (if b == 123 then Some (record m { place = Before Low; low_in = false })
    else (if b == 45 then Some (record m { place = Minus; text = 45 ∷ []; escapes = false })
    else (if b == 40 then open_group m
    else (if b == 43 then None else begin Word m b bytes)))))))

-- a byte before a bound
abbrev pub before_step : Side → Machine → ℕ → ByteList → Option Machine
before_step side m b bytes =
    if is_blank b then Some m
    else (if b == 34
    then Some (record m { place = Letters (Quoted side); text = []; escapes = false })
    else begin (Bare side) m b bytes)

-- ---- items

-- a test without a field begins, where a group has one
abbrev pub begin_test : Option ByteList → Machine → ℕ → ByteList → Option Machine
begin_test None m b bytes = None
begin_test (Some field) m b bytes = test_step (record m { name = field }) b bytes

-- a modifier before an item; it has one at most
abbrev pub modify : Stage → Role → Machine → Option Machine
modify First role m = Some (record m { place = Item Modified; role = role })
modify Behind role m = Some (record m { place = Item Modified; role = role })
modify Joined role m = Some (record m { place = Item Modified; role = role })
modify Modified role m = None

-- a closing parenthesis, which stands behind an item alone
abbrev pub close_step : Stage → Machine → Option Machine
close_step First m = None
close_step Behind m = close_in m.outer m
close_step Joined m = None
close_step Modified m = None

-- a byte before an item, or behind it, no blank and no parenthesis
unfoldable pub begin_item_step : Stage → Machine → ℕ → ByteList → Option Machine
begin_item_step stage m b bytes =
    if b == 33 || b == 45 then modify stage Prohibited m
    else (if b == 43 then modify stage Required m
    else (if b == 42 then Some (record m { place = Star })
    else (if b == 34 || b == 91 || b == 123 then begin_test m.field m b bytes
    else begin (Name stage) m b bytes)))

-- a byte before an item, or behind it
unfoldable pub item_step : Stage → Machine → ℕ → ByteList → Option Machine
item_step stage m b bytes =
    if is_blank b then Some (record m { place = Item stage })
    else (if b == 40 then open_plain m
    else (if b == 41 then close_step stage m
    else begin_item_step stage m b bytes))

-- a byte behind the star of a test without a field, where a group has one
abbrev pub star_step : Option ByteList → Machine → ℕ → ByteList → Option Machine
star_step None m b bytes = None
star_step (Some field) m b bytes =
    item_step Behind (end_item (on_field field test.Present) m) b bytes

-- a byte behind the letters of a word that is a test
abbrev pub word_step : Machine → ℕ → ByteList → Option Machine
word_step m b bytes =
    if b == 42 then Some (end_test (test.Prefix m.text) m)
    else item_step Behind (end_test (test.Word m.text) m) b bytes

-- a byte behind the letters of a test without a field, where a group has one
abbrev pub bare_step : Option ByteList → Machine → ℕ → ByteList → Option Machine
bare_step None m b bytes = None
bare_step (Some field) m b bytes = word_step (record m { name = field }) b bytes

-- a byte behind `NOT`
abbrev pub not_step : Stage → Machine → ℕ → ByteList → Option Machine
not_step First m b bytes = item_step Modified m b bytes
not_step Behind m b bytes = item_step Modified m b bytes
not_step Joined m b bytes = item_step Modified m b bytes
not_step Modified m b bytes = None

-- a byte behind a conjunction, which stands behind an item alone
abbrev pub join_step : Stage → Bool → Machine → ℕ → ByteList → Option Machine
join_step First and m b bytes = None
join_step Behind and m b bytes = item_step Joined (join and m) b bytes
join_step Joined and m b bytes = None
join_step Modified and m b bytes = None

-- AND &&
abbrev pub is_and_text : ByteList → Bool
is_and_text text = bytes_eq text (codes "AND") || bytes_eq text (codes "&&")

-- `NOT` is read
abbrev pub negate : Machine → Machine
negate m = record m { place = Item Modified; role = Prohibited; text = []; escapes = false }

-- a byte behind an operator
abbrev pub operator_step : Stage → Machine → ℕ → ByteList → Option Machine
operator_step stage m b bytes =
    if bytes_eq m.text (codes "NOT")
    then not_step stage (negate m) b bytes
    else join_step stage (is_and_text m.text) m b bytes

-- a byte behind the letters before an item: an operator, a field, or a test without one
abbrev pub name_step : Stage → Machine → ℕ → ByteList → Option Machine
name_step stage m b bytes =
    if is_operator m.escapes m.text then operator_step stage m b bytes
    else (if b == 58 then Some (end_name m) else bare_step m.field m b bytes)

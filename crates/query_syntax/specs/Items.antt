-- How the parts of a query end, and how its lists open and close, as far as they are read (own).
use Rattle.std.specs.Prelude.{ℕ, List, [], ◌∷◌, ◌++◌, Bool, true, false, nat_lt, length}
use Rattle.std.specs.Prelude.{◌==◌, Option, Some, None, if◌then◌else◌}
use Rattle.tuple_values.specs.Document.{ByteList}
use Rattle.query_syntax.specs.Letters.{is_blank}
use Rattle.query_syntax.specs.Grammar.{level_limit}
use Rattle.query_syntax.specs.Machine.{Machine, ready}
use Rattle.query_syntax.specs.Tree.{WhatTree, on_field, nested, ClauseTree, trees_of}
use Rattle.query_syntax.specs.declared.place.Side.{Side}
use Rattle.query_syntax.specs.declared.place.Side.TheVariants.{Low, High}
use Rattle.query_syntax.specs.declared.place.Stage.TheVariants.{First, Behind, Joined}
use Rattle.query_syntax.specs.declared.place.Place.TheVariants.{Item, Tested, Closed, Gap}
use Rattle.query_syntax.specs.declared.open_lists.Outside.{Outside}
use Rattle.query_syntax.specs.declared.open_lists.Outside.TheVariants.{Same, Other}
use Rattle.query_syntax.specs.declared.open_lists.OpenList.{OpenList}
use Rattle.query_syntax.specs.declared.query.Role.{Role}
use Rattle.query_syntax.specs.declared.query.Role.TheVariants.{Required, Prohibited, Optional}
use Rattle.query_syntax.specs.declared.query.Test.{Test}
use Rattle.query_syntax.specs.declared.query.Test.TheVariants as test

-- ---- items

-- the name of the field is read
abbrev pub end_name : Machine → Machine
end_name m = record m { place = Tested; name = m.text; text = []; escapes = false }

-- an item is read that asks for this
abbrev pub end_item : WhatTree → Machine → Machine
end_item what m =
    ready Behind Optional m.field (m.clauses ++ record { role = m.role; what = what } ∷ []) m.outer

-- a test is read
abbrev pub end_test : Test → Machine → Machine
end_test t m = end_item (on_field m.name t) m

-- a bound is read
abbrev pub end_bound : Side → Option ByteList → Machine → Machine
end_bound Low bound m =
    record m { place = Closed Low; text = []; escapes = false; low = bound }
end_bound High bound m =
    record m { place = Closed High; text = []; escapes = false; high = bound }

-- a range is read
abbrev pub end_range : Bool → Machine → Machine
end_range high_in m = end_test (test.Range m.low m.low_in m.high high_in) m

-- a byte behind a bound
abbrev pub closed_step : Side → Machine → ℕ → Option Machine
closed_step Low m b = if is_blank b then Some (record m { place = Gap }) else None
closed_step High m b =
    if is_blank b then Some m
    else (if b == 93 then Some (end_range true m)
    else (if b == 125 then Some (end_range false m) else None))

-- ---- lists

-- a list opens, in a group of this field, if there aren't too many
abbrev pub open_list : Outside → Option ByteList → Machine → Option Machine
open_list outside field m =
    if nat_lt (length m.outer) level_limit
    then Some (ready First Optional field []
    (record { role = m.role; clauses = m.clauses; outside = outside } ∷ m.outer))
    else None

-- one opens in the group that it stands in
abbrev pub open_plain : Machine → Option Machine
open_plain m = open_list Same m.field m

-- a group of the field that was named opens
abbrev pub open_group : Machine → Option Machine
open_group m = open_list (Other m.field) (Some m.name) m

-- the field outside of a list
abbrev pub outer_field : Outside → Option ByteList → Option ByteList
outer_field Same field = field
outer_field (Other outside) field = outside

-- the innermost list of these is closed, if one is open
abbrev pub close_in : List OpenList → Machine → Option Machine
close_in [] m = None
close_in (o ∷ outer) m =
    Some (ready Behind Optional (outer_field o.outside m.field)
    (o.clauses ++ record { role = o.role; what = nested (trees_of m.clauses) } ∷ []) outer)

-- the role of a clause that has an `AND` beside it
abbrev pub role_beside : Role → Role
role_beside Required = Required
role_beside Prohibited = Prohibited
role_beside Optional = Required

-- the last clause has an `AND` beside it
abbrev pub require_last : List ClauseTree → List ClauseTree
require_last [] = []
require_last (c ∷ []) = record { role = role_beside c.role; what = c.what } ∷ []
require_last (c ∷ d ∷ clauses) = c ∷ require_last (d ∷ clauses)

-- a conjunction is read, which perhaps is an `AND`
abbrev pub join : Bool → Machine → Machine
join true m = record m {
  place = Item Joined;
  role = Required;
  text = [];
  escapes = false;
  clauses = require_last m.clauses;
}
join false m = record m { place = Item Joined; role = Optional; text = []; escapes = false }

-- Which fields of an expression's tuples carry the keys by which its searches are partitioned (own,
-- after Solr Reference Guide, "Stream Decorator Reference", parallel).
use Rattle.std.specs.Prelude.{ℕ, List, [], ◌∷◌, Option, Some, None, Bool, true, false, not, ◌&&◌}
use Rattle.std.specs.Prelude.{◌||◌, bytes_eq, if◌then◌else◌}
use Rattle.std.specs.List.{list_all, list_any}
use Rattle.tuple_values.specs.Document.{ByteList, is_named}
use Rattle.sort_spec.specs.declared.pair.OnPair.{OnPair}
use Rattle.sort_spec.specs.declared.term.SortTerm.{SortTerm}
use Rattle.expr_types.specs.ExprTree.{first_or, second_or}
use Rattle.expr_types.specs.declared.item.Item.{Item}
use Rattle.expr_check.specs.Orders.{new_name, is_touched_once}

-- each of the names is among others
abbrev pub are_among : List ByteList → List ByteList → Bool
are_among others names = list_all (λ name. is_named name others) names

-- keys that all are among names
abbrev pub kept_keys : List ByteList → Option (List ByteList) → Option (List ByteList)
kept_keys names None = None
kept_keys names (Some keys) = if are_among names keys then Some keys else None

-- the keys of a search without rows, which all are in `fl`
abbrev pub search_keys : Option (List ByteList) → List ByteList → Option ℕ
    → Option (List ByteList)
search_keys keys fl None = kept_keys fl keys
search_keys keys fl (Some rows) = None

-- the first new name of a field, where no other item gives a value to that name
abbrev pub kept_name : List Item → Option ByteList → Option ByteList
kept_name items None = None
kept_name items (Some name) = if is_touched_once name items then Some name else None

-- a name before others, where all of them are there
abbrev pub with_first : Option ByteList → Option (List ByteList) → Option (List ByteList)
with_first None names = None
with_first (Some name) None = None
with_first (Some name) (Some names) = Some (name ∷ names)

-- the fields under their first new names, where each is chosen and no other item gives a value to
-- its new name
abbrev pub renamed : List Item → List ByteList → Option (List ByteList)
renamed items [] = Some []
renamed items (key ∷ keys) =
    with_first (kept_name items (new_name key items)) (renamed items keys)

-- keys after select
abbrev pub chosen_keys : List Item → Option (List ByteList) → Option (List ByteList)
chosen_keys items None = None
chosen_keys items (Some keys) = renamed items keys

-- two lists are one
abbrev pub same_names : List ByteList → List ByteList → Bool
same_names [] [] = true
same_names [] (b ∷ others) = false
same_names (a ∷ names) [] = false
same_names (a ∷ names) (b ∷ others) = bytes_eq a b && same_names names others

-- two lists of keys are there, and are one
abbrev pub same_keys : Option (List ByteList) → Option (List ByteList) → Bool
same_keys None other = false
same_keys (Some keys) None = false
same_keys (Some keys) (Some others) = same_names keys others

-- the keys of several inputs are there, and are one list
abbrev pub are_merged : List (Option (List ByteList)) → Bool
are_merged [] = false
are_merged (keys ∷ others) = list_all (same_keys keys) others

-- that list
abbrev pub merged_keys : List (Option (List ByteList)) → Option (List ByteList)
merged_keys keys = if are_merged keys then first_or None keys else None

-- the names at each place are a left and a right one that a test allows, and are equally many
abbrev pub each_pair : (ByteList → ByteList → Bool) → List ByteList → List ByteList → Bool
each_pair allows [] [] = true
each_pair allows [] (right ∷ rights) = false
each_pair allows (left ∷ lefts) [] = false
each_pair allows (left ∷ lefts) (right ∷ rights) =
    allows left right && each_pair allows lefts rights

-- two lists of keys are there, and are paired so
abbrev pub are_paired : (ByteList → ByteList → Bool) → Option (List ByteList)
    → Option (List ByteList) → Bool
are_paired allows None right = false
are_paired allows (Some lefts) None = false
are_paired allows (Some lefts) (Some rights) = each_pair allows lefts rights

-- the left keys, where they are paired so with the right ones
abbrev pub paired_keys : (ByteList → ByteList → Bool) → List (Option (List ByteList))
    → Option (List ByteList)
paired_keys allows keys =
    if are_paired allows (first_or None keys) (second_or None keys) then first_or None keys else None

-- the names are a pair of `on`
abbrev pub is_pair : List OnPair → ByteList → ByteList → Bool
is_pair on left right = list_any (λ pair. bytes_eq pair.left left && bytes_eq pair.right right) on

-- they are, and the left one keeps its value in a join with tuples of these fields: they haven't it, or
-- it is the right one
abbrev pub is_kept_pair : List OnPair → List ByteList → ByteList → ByteList → Bool
is_kept_pair on fields left right =
    (not (is_named left fields) || bytes_eq left right) && is_pair on left right

-- a sort has a term of this field
abbrev pub has_term : List SortTerm → ByteList → Bool
has_term by field = list_any (λ term. bytes_eq term.field field) by

-- a sort has a term of each key, where there are keys
abbrev pub holds_keys : List SortTerm → Option (List ByteList) → Bool
holds_keys by None = false
holds_keys by (Some keys) = list_all (has_term by) keys

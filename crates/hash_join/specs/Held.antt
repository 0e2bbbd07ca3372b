-- What a left document gives of the right ones among which its equals are, and what is still to be
-- given of the last one (own).
use Rattle.std.specs.Prelude.{ℕ, suc, List, [], ◌∷◌, ◌++◌, map, filter, flat_map, drop, slice_get}
use Rattle.std.specs.Prelude.{Bool, Option, Some, None, option_to_list}
use Rattle.tuple_values.specs.Document.{Doc}
use Rattle.sort_spec.specs.declared.pair.OnPair.{OnPair}
use Rattle.expr_types.specs.Joins.{matches, or_these, alone_of, joined}
use Rattle.hash_join.specs.Buckets.{bucket_of, bucket_at}
use Rattle.hash_join.specs.JoinKeys.{left_key}
use Rattle.hash_join.specs.declared.held.Held.{Held}
use Rattle.hash_join.specs.declared.held.Held.TheVariants.{Nothing, Alone, Paired}
use Rattle.hash_join.specs.declared.table.Table.{Table}

-- the left document over each of its equals, in order, and without one what it gives alone
abbrev pub given_of : Bool → List OnPair → Doc → List Doc → List Doc
given_of outer on left rights =
    or_these (alone_of outer left) (map (joined left) (filter (matches on left) rights))

-- what left documents give of their buckets and of right documents that are still to come
abbrev pub given_by : Bool → List OnPair → Table → List Doc → List Doc → List Doc
given_by outer on table rights lefts =
    flat_map (λ left. given_of outer on left (bucket_of table (left_key on left) ++ rights)) lefts

-- the equals from a place on, at which one stands, if there is one
abbrev pub equals_from : List OnPair → Doc → List Doc → Option ℕ → List Doc
equals_from on left rights None = []
equals_from on left rights (Some place) =
    option_to_list (slice_get rights place) ++ filter (matches on left) (drop (suc place) rights)

-- what is still to be given of the last left document
abbrev pub held_list : List OnPair → Table → Held → List Doc
held_list on table Nothing = []
held_list on table (Alone left) = left ∷ []
held_list on table (Paired left bucket place) =
    map (joined left) (equals_from on left (bucket_at table bucket) (Some place))

-- What joins give of two lists of documents, over all pairs of the two (Solr Reference Guide,
-- "Stream Decorator Reference", innerJoin, leftOuterJoin, hashJoin, outerHashJoin, intersect and
-- complement; which values are equal is own).
use Rattle.std.specs.Prelude.{List, [], ◌∷◌, ◌++◌, Bool, true, false, not, map, filter}
use Rattle.std.specs.Prelude.{if◌then◌else◌}
use Rattle.std.specs.List.{list_all, list_any}
use Rattle.std.specs.Option.{option_cmp}
use Rattle.std.specs.Ordering.{is_eq}
use Rattle.tuple_values.specs.Document.{ByteList, Doc, value_at, put}
use Rattle.tuple_values.specs.Order.{datum_cmp}
use Rattle.sort_spec.specs.Sorting.{IsAscending}
use Rattle.sort_spec.specs.Terms.{less}
use Rattle.sort_spec.specs.declared.pair.OnPair.{OnPair}
use Rattle.expr_types.specs.ExprTree.{first_or, second_or}
use Rattle.expr_types.specs.Orders.{sort_over}

-- whether the values of a pair of fields are equal; two absent ones are, values of two kinds aren't
abbrev pub is_met : OnPair → Doc → Doc → Bool
is_met pair left right =
    is_eq (option_cmp datum_cmp (value_at pair.left left) (value_at pair.right right))

-- whether those of all pairs are
abbrev pub matches : List OnPair → Doc → Doc → Bool
matches on left right = list_all (λ pair. is_met pair left right) on

-- a left document with the fields of a right one, whose values stay where names meet
abbrev pub joined : Doc → Doc → Doc
joined left [] = left
joined left (f ∷ right) = put f.0 f.1 (joined left right)

-- the elements, or others where there is none
abbrev pub or_these : {X : Type 0} → List X → List X → List X
or_these others [] = others
or_these others (x ∷ xs) = x ∷ xs

-- each left element in order with each right one that matches it, in order; one without a match
-- gives what it gives alone
abbrev pub pairs : {L R T : Type 0} → (L → List T) → (L → R → Bool) → (L → R → T)
    → List L → List R → List T
pairs alone match both [] rights = []
pairs alone match both (left ∷ lefts) rights =
    or_these (alone left) (map (both left) (filter (match left) rights))
    ++ pairs alone match both lefts rights

-- an inner join: the left document joined with the right one, for each pair that matches
abbrev pub join_list : List OnPair → List Doc → List Doc → List Doc
join_list on lefts rights = pairs (λ left. []) (matches on) joined lefts rights

-- an outer join: a left document without a match stays as it is
abbrev pub outer_join_list : List OnPair → List Doc → List Doc → List Doc
outer_join_list on lefts rights = pairs (λ left. left ∷ []) (matches on) joined lefts rights

-- what a left document without a match gives: itself in an outer join, else nothing
abbrev pub alone_of : Bool → Doc → List Doc
alone_of outer left = if outer then left ∷ [] else []

-- whether an element is kept, by whether it has a match
abbrev pub is_kept : Bool → Bool → Bool
is_kept true found = found
is_kept false found = not found

-- the left elements that have a match among the right ones, or those that have none
abbrev pub existing : {L R : Type 0} → Bool → (L → R → Bool) → List L → List R → List L
existing keep match lefts rights =
    filter (λ left. is_kept keep (list_any (match left) rights)) lefts

-- the left documents that have a match among the right ones, or those that have none
abbrev pub exist_list : Bool → List OnPair → List Doc → List Doc → List Doc
exist_list keep on lefts rights = existing keep (matches on) lefts rights

-- the left names of pairs
abbrev pub left_names : List OnPair → List ByteList
left_names on = map (λ pair. pair.left) on

-- the right names of pairs
abbrev pub right_names : List OnPair → List ByteList
right_names on = map (λ pair. pair.right) on

-- the first list is in the order of the left names and the second in that of the right names, each
-- pair in the direction at its place
pub record AreJoinable (on : List OnPair) (directions : List Bool) (lists : List (List Doc))
    : Type 0 where
  pub lefts : IsAscending (less (sort_over (left_names on) directions)) (first_or [] lists)
  pub rights : IsAscending (less (sort_over (right_names on) directions)) (second_or [] lists)

-- in some directions
abbrev pub IsJoinable : List OnPair → List (List Doc) → Type 0
IsJoinable on lists = (directions : List Bool) × AreJoinable on directions lists

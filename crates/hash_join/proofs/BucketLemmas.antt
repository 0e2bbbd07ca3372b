-- What the buckets of a table hold is all that a join needs of the right documents.
use Rattle.std.proofs.Common.{◌≡◌, List, [], ◌∷◌, ◌++◌, map, filter, Option, Some, None}
use Rattle.std.proofs.Common.{Bool, true, false, ◌&&◌, if◌then◌else◌, refl, ap, sym, ◌∙◌}
use Rattle.std.specs.Prelude.{bytes_eq}
use Rattle.std.specs.Cmp.Lexicographic.{bytes_decides}
use Rattle.std.specs.Option.{option_cmp}
use Rattle.std.specs.Ordering.{is_eq}
use Rattle.std.specs.declared.cmp.Ordering.{Ordering}
use Rattle.std.specs.declared.cmp.Ordering.TheVariants.{Less, Equal, Greater}
use Rattle.std.proofs.lemmas.List.{append_assoc, append-nil}
use Rattle.tuple_values.specs.Document.{ByteList, Datum, Doc, value_at}
use Rattle.tuple_values.specs.Order.{datum_cmp}
use Rattle.tuple_values.proofs.KeyLemmas.{key_text-equal}
use Rattle.tuple_values.proofs.OrderLemmas.{datum_cmp_same}
use Rattle.sort_spec.specs.declared.pair.OnPair.{OnPair}
use Rattle.expr_types.specs.Joins.{is_met, matches, or_these, pairs, alone_of, joined}
use Rattle.expr_types.specs.Joins.{join_list, outer_join_list}
use Rattle.expr_types.proofs.JoinLemmas.{filter_past, pairs-kind}
use Rattle.hash_join.specs.Buckets.{bucket_of, AddsUnder}
use Rattle.hash_join.specs.Held.{given_of, given_by, held_list}
use Rattle.hash_join.specs.JoinKeys.{left_key, right_key}
use Rattle.hash_join.specs.declared.held.Held.{Held}
use Rattle.hash_join.specs.declared.held.Held.TheVariants.{Nothing}
use Rattle.hash_join.specs.declared.table.Table.{Table}

-- values that compare equal are the same, also absent ones
same_value : (a b : Option Datum) → is_eq (option_cmp datum_cmp a b) ≡ true → a ≡ b
same_value None None e = refl
same_value None (Some b) e = absurd (cc)
same_value (Some a) None e = absurd (cc)
same_value (Some a) (Some b) e = ap Some (datum_cmp_same a b (equal_of (datum_cmp a b) e))
  where
    equal_of : (order : Ordering) → is_eq order ≡ true → order ≡ Equal
    equal_of Less e = absurd (cc)
    equal_of Equal e = refl
    equal_of Greater e = absurd (cc)

both_so : (a b : Bool) → (a && b) ≡ true → (a ≡ true) × (b ≡ true)
both_so true b e = (refl, e)
both_so false b e = absurd (cc)

-- documents that match have the same values under the names of the pairs
same_values : (on : List OnPair) (left right : Doc) → matches on left right ≡ true
    → map (λ name. value_at name left) (map (λ pair. pair.left) on)
    ≡ map (λ name. value_at name right) (map (λ pair. pair.right) on)
same_values [] left right e = refl
same_values (pair ∷ on) left right e =
    let both = both_so (is_met pair left right) (matches on left right) e in
    let head = same_value (value_at pair.left left) (value_at pair.right right) both.0 in
    let tail = same_values on left right both.1 in
    λ j. head j ∷ tail j

-- and so the same key
equal_keys : (on : List OnPair) (left right : Doc) → matches on left right ≡ true
    → left_key on left ≡ right_key on right
equal_keys on left right e =
    key_text-equal left right (map (λ pair. pair.left) on) (map (λ pair. pair.right) on)
    (same_values on left right e)

-- documents of other keys don't match
other_keys : (on : List OnPair) (left right : Doc)
    → bytes_eq (right_key on right) (left_key on left) ≡ false → matches on left right ≡ false
other_keys on left right other = by (matches on left right) refl
  where
    by : (b : Bool) → matches on left right ≡ b → b ≡ false
    by true e =
        let same =
        (bytes_decides (right_key on right) (left_key on left)).1
        (sym (equal_keys on left right e)) in
        sym same ∙ other
    by false e = refl

-- the equals in the bucket of a key are those in the whole list: whether a right document is in the
-- table or still to come is no matter
filter-added : (on : List OnPair) (left right : Doc) (old new : Table) (rest : List Doc)
    → AddsUnder (right_key on right) right old new
    → filter (matches on left) (bucket_of new (left_key on left) ++ rest)
    ≡ filter (matches on left) (bucket_of old (left_key on left) ++ right ∷ rest)
filter-added on left right old new rest adds =
    ap (λ w. filter (matches on left) (w ++ rest)) (adds (left_key on left))
    ∙ kept (bytes_eq (right_key on right) (left_key on left)) refl
  where
    kept : (b : Bool) → bytes_eq (right_key on right) (left_key on left) ≡ b
        → filter (matches on left)
        ((if b then bucket_of old (left_key on left) ++ right ∷ []
        else bucket_of old (left_key on left)) ++ rest)
        ≡ filter (matches on left) (bucket_of old (left_key on left) ++ right ∷ rest)
    kept true e =
        ap (filter (matches on left))
        (append_assoc (bucket_of old (left_key on left)) (right ∷ []) rest)
    kept false e =
        sym
        (filter_past (matches on left) (bucket_of old (left_key on left)) right rest
        (other_keys on left right e))

-- what left documents give is the same then
given-added : (outer : Bool) (on : List OnPair) (right : Doc) (old new : Table)
    (rest lefts : List Doc) → AddsUnder (right_key on right) right old new
    → given_by outer on new rest lefts ≡ given_by outer on old (right ∷ rest) lefts
given-added outer on right old new rest [] adds = refl
given-added outer on right old new rest (left ∷ lefts) adds =
    let one = filter-added on left right old new rest adds in
    let more = given-added outer on right old new rest lefts adds in
    λ j. or_these (alone_of outer left) (map (joined left) (one j)) ++ more j

-- by an empty table they give what the definition does
pub given-made : (outer : Bool) (on : List OnPair) (table : Table) (rights lefts : List Doc)
    → ((key : ByteList) → bucket_of table key ≡ [])
    → given_by outer on table rights lefts
    ≡ (if outer then outer_join_list on lefts rights else join_list on lefts rights)
given-made outer on table rights lefts empty = all lefts ∙ pairs-kind outer on lefts rights
  where
    all : (ls : List Doc)
        → given_by outer on table rights ls ≡ pairs (alone_of outer) (matches on) joined ls rights
    all [] = refl
    all (l ∷ ls) =
        let none = empty (left_key on l) in
        let more = all ls in
        λ j. given_of outer on l (none j ++ rights) ++ more j

-- a right document that is fed goes into the table, and the output stays
pub right_fed : (outer : Bool) (on : List OnPair) (right : Doc) (old new : Table) (held : Held)
    (rights lefts fed_rights fed_lefts : List Doc) → held ≡ Nothing
    → AddsUnder (right_key on right) right old new → fed_rights ≡ right ∷ rights
    → fed_lefts ≡ lefts
    → held_list on new held ++ given_by outer on new rights lefts
    ≡ held_list on old held ++ given_by outer on old fed_rights fed_lefts
right_fed outer on right old new held rights lefts fed_rights fed_lefts nothing adds front same =
    ap (λ h. held_list on new h ++ given_by outer on new rights lefts) nothing
    ∙ given-added outer on right old new rights lefts adds
    ∙ ap (λ rs. given_by outer on old rs lefts) (sym front)
    ∙ ap (given_by outer on old fed_rights) (sym same)
    ∙ ap (λ h. held_list on old h ++ given_by outer on old fed_rights fed_lefts) (sym nothing)

-- a left document that is fed where the table is whole gives what its bucket says
pub left_fed : (outer : Bool) (on : List OnPair) (left : Doc) (table : Table) (held made : Held)
    (rights lefts fed_rights fed_lefts : List Doc) → held ≡ Nothing
    → held_list on table made ≡ given_of outer on left (bucket_of table (left_key on left))
    → fed_rights ≡ [] → fed_rights ≡ rights → fed_lefts ≡ left ∷ lefts
    → held_list on table made ++ given_by outer on table rights lefts
    ≡ held_list on table held ++ given_by outer on table fed_rights fed_lefts
left_fed outer on left table held made rights lefts fed_rights fed_lefts nothing e whole same
    front =
    let bucket = bucket_of table (left_key on left) in
    ap (λ w. w ++ given_by outer on table rights lefts) e
    ∙ ap (λ w. given_of outer on left w ++ given_by outer on table rights lefts)
    (sym (append-nil bucket) ∙ ap (λ rs. bucket ++ rs) (sym whole))
    ∙ ap (λ rs. given_of outer on left (bucket ++ fed_rights) ++ given_by outer on table rs lefts)
    (sym same)
    ∙ ap (given_by outer on table fed_rights) (sym front)
    ∙ ap (λ h. held_list on table h ++ given_by outer on table fed_rights fed_lefts) (sym nothing)

-- What a join holds of its inputs: a left document and the right ones that equal it (own).
use Rattle.std.specs.Prelude.{◌≡◌, ◌<◌, ℕ, List, [], ◌∷◌, drop, length, Bool, true, false}
use Rattle.std.specs.Prelude.{Option, Some, None}
use Rattle.std.specs.List.{AllByRecursion}
use Rattle.std.specs.Ordering.{is_lt, is_gt}
use Rattle.std.specs.declared.cmp.Ordering.TheVariants.{Equal}
use Rattle.tuple_values.specs.Document.{Doc}
use Rattle.sort_spec.specs.Sorting.{IsAscending}
use Rattle.sort_spec.specs.Terms.{less}
use Rattle.expr_types.specs.Joins.{alone_of, pairs, joined}
use Rattle.merge_join.specs.Keys.{left_order, right_order, right_key, key_cmp, order_of, meets}
use Rattle.merge_join.specs.Sides.{flow}
use Rattle.merge_join.specs.declared.term.JoinTerm.{JoinTerm}

-- what documents that are to come give, without so many that were given
abbrev pub pairs_from : Bool → List JoinTerm → ℕ → List Doc → List Doc → List Doc
pairs_from outer terms place lefts rights =
    drop place (pairs (alone_of outer) (meets terms) joined lefts rights)

-- each of the right documents equals the left one
abbrev pub AreEqual : List JoinTerm → Doc → List Doc → Type 0
AreEqual terms left run = AllByRecursion (λ r. meets terms left r ≡ true) run

-- none of them does
abbrev pub AreOther : List JoinTerm → Doc → List Doc → Type 0
AreOther terms left rights = AllByRecursion (λ r. meets terms left r ≡ false) rights

-- right documents of one key, and no left document comes before them
abbrev pub IsKept : List JoinTerm → List Doc → List Doc → Type 0
IsKept terms lefts [] = Unit {0}
IsKept terms lefts (right ∷ run) =
    AllByRecursion (λ r. key_cmp terms (right_key right) (right_key r) ≡ Equal) run
    × AllByRecursion (λ l. is_lt (order_of terms l right) ≡ false) lefts

-- a left document comes behind the first of a run
abbrev pub is_behind : List JoinTerm → Doc → List Doc → Bool
is_behind terms left [] = false
is_behind terms left (right ∷ run) = is_gt (order_of terms left right)

-- the run equals the left document that is held, or waits for one
abbrev pub IsRun : List JoinTerm → Option Doc → List Doc → List Doc → Type 0
IsRun terms None lefts run = IsKept terms lefts run
IsRun terms (Some left) lefts run = AreEqual terms left run

-- no right document to come equals the left one that is held, if one is
abbrev pub IsWhole : List JoinTerm → Option Doc → List Doc → Type 0
IsWhole terms None rights = Unit {0}
IsWhole terms (Some left) rights = AreOther terms left rights

-- where pairs were given the run is whole, and one more is to be given
abbrev pub IsPlace : List JoinTerm → Option Doc → ℕ → List Doc → List Doc → Type 0
IsPlace terms None place run rights = place ≡ 0
IsPlace terms (Some left) place run rights =
    0 < place → (place < length run) × AreOther terms left rights

-- what holds of a left document, the pairs given, its run, and what is to come on both sides
pub record IsMidway (terms : List JoinTerm) (held : Option Doc) (place : ℕ)
    (run lefts rights : List Doc) : Type 0 where
  pub left_ascends : IsAscending (less (left_order terms)) (flow held lefts)
  pub right_ascends : IsAscending (less (right_order terms)) rights
  pub run_fits : IsRun terms held lefts run
  pub given : IsPlace terms held place run rights

-- What the query of a load's topic asks for.
use Rattle.std.proofs.Common.{◌≡◌, ℕ, ◌&&◌, ◌||◌, Bool, true, false, cond, pos, codes, [], ◌∷◌, Some, refl, ap, ◌∙◌, arith}
use Rattle.std.specs.Prelude.{nat_lt, nat_le}
use Rattle.std.specs.Ordering.{int_cmp}
use Rattle.std.proofs.lemmas.Bool.Decides.{nat_tests}
use Rattle.std.specs.declared.cmp.Ordering.TheVariants.{Less, Equal, Greater}
use Rattle.tuple_values.specs.Document.{Doc, long, value_at}
use Rattle.query_syntax.specs.Tree.{on_field}
use Rattle.query_syntax.specs.Matching.{is_within, passes}
use Rattle.query_syntax.specs.ItemSteps.{item_step, begin_item_step, test_step}
use Rattle.query_syntax.specs.Letters.{is_special, is_operator}
use Rattle.query_syntax.specs.Meaning.{text_matches, may_match}
use Rattle.query_syntax.specs.Reading.{query_of}
use Rattle.query_syntax.specs.declared.query.Role.TheVariants.{Optional}
use Rattle.query_syntax.specs.declared.query.Test.{Test}
use Rattle.query_syntax.specs.declared.query.Test.TheVariants.{Range}
use Rattle.load_rules.specs.Topic.{load_query}

-- amounts from 0 to 499
abbrev load_test : Test
load_test = Range (Some (codes "0")) true (Some (codes "499")) true

-- the text of the query says one clause
load_query-says : query_of load_query ≡ Some (record {
  role = Optional;
  what = on_field
      (codes "a_i") load_test;
} ∷ [])
unfolding item_step begin_item_step test_step is_special is_operator
load_query-says = refl

-- its only clause is optional, so it matches what passes that clause's test
load_query-passes : (doc : Doc) → text_matches load_query doc ≡ passes load_test (value_at
    (codes "a_i") doc)
unfolding text_matches
load_query-passes doc = ap (λ o. may_match o doc) load_query-says
    ∙ alone (passes load_test (value_at (codes "a_i") doc))
  where
    alone : (b : Bool) → (b || false) ≡ b
    alone true = refl
    alone false = refl

-- a number is within an included bound above where it is at most that bound
within_at_most : (a b : ℕ) → is_within true (int_cmp (pos a) (pos b)) ≡ nat_le a b
within_at_most a b = go (nat_lt a b) refl (nat_lt b a) refl
  where
    go : (s : Bool) → nat_lt a b ≡ s → (t : Bool) → nat_lt b a ≡ t
        → is_within true (cond s Less (cond t Greater Equal)) ≡ nat_le a b
    go true p t q = grind (arith, nat_tests)
    go false p true q = grind (arith, nat_tests)
    go false p false q = grind (arith, nat_tests)

-- the topic takes a document of an amount where that is at most 499
pub takes_amount : (doc : Doc) (a : ℕ) → value_at (codes "a_i") doc ≡ Some (long (pos a))
    → text_matches load_query doc ≡ nat_le a 499
takes_amount doc a e =
    load_query-passes doc ∙ ap (passes load_test) e
    ∙ ap (λ b. b && is_within true (int_cmp (pos a) (pos 499))) (within_at_most 0 a ∙ none_below)
    ∙ within_at_most a 499
  where
    none_below : nat_le 0 a ≡ true
    none_below = grind (arith, nat_tests)

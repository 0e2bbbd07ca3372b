-- What becomes of a left document, of its run, and of the right documents to come.
use Rattle.std.proofs.Common.{◌≡◌, ◌<◌, ◌≤◌, ◌+◌, ℕ, zero, suc, List, [], ◌∷◌, ◌++◌, map, drop}
use Rattle.std.proofs.Common.{get_or, length, Bool, true, false, refl, ◌∙◌, ap, sym, arith, subst}
use Rattle.std.proofs.Common.{Option, Some, None, if◌then◌else◌, add-one}
use Rattle.std.specs.List.{AllByRecursion}
use Rattle.std.specs.Ordering.{is_eq, is_lt, is_gt}
use Rattle.std.specs.declared.cmp.Ordering.{Ordering}
use Rattle.std.specs.declared.cmp.Ordering.TheVariants.{Less, Equal, Greater}
use Rattle.tuple_values.specs.Document.{Doc}
use Rattle.sort_spec.specs.Sorting.{IsAscending}
use Rattle.sort_spec.specs.Terms.{less}
use Rattle.sort_spec.specs.declared.pair.OnPair.{OnPair}
use Rattle.sort_spec.specs.declared.term.SortTerm.{SortTerm}
use Rattle.sort_spec.proofs.SortLemmas.{each_weaker}
use Rattle.kernel_laws.specs.Asks.{emitted}
use Rattle.kernel_laws.specs.declared.ask.Ask.{Ask}
use Rattle.kernel_laws.specs.declared.ask.Ask.TheVariants.{Emit}
use Rattle.expr_types.specs.Joins.{alone_of, or_these, pairs, matches, joined}
use Rattle.expr_types.specs.Joins.{join_list, outer_join_list}
use Rattle.merge_join.specs.Keys.{left_order, right_order, right_key, key_cmp, order_of, meets}
use Rattle.merge_join.specs.Keys.{terms_of}
use Rattle.merge_join.specs.Runs.{pairs_from, AreEqual, AreOther, IsKept, is_behind}
use Rattle.merge_join.specs.Runs.{IsWhole, IsMidway}
use Rattle.merge_join.specs.Sides.{flow, next_left}
use Rattle.merge_join.specs.declared.term.JoinTerm.{JoinTerm}
use Rattle.merge_join.proofs.KeyLemmas.{none_before, none_behind, meets-matches, order_of-tied}
use Rattle.merge_join.proofs.KeyLemmas.{tied_by, none_less}
use Rattle.expr_types.proofs.JoinLemmas.{pairs-skip, pairs-let_go, pairs-whole, these-one}
use Rattle.expr_types.proofs.JoinLemmas.{these-last, pairs-same, pairs-kind}

-- an order is greater where the test says so
gt_is : (order : Ordering) → is_gt order ≡ true → order ≡ Greater
gt_is Less e = absurd (cc)
gt_is Equal e = absurd (cc)
gt_is Greater e = refl

-- and equal where it is neither less nor greater
eq_by : (order : Ordering) → is_gt order ≡ false → is_lt order ≡ false → is_eq order ≡ true
eq_by Less e f = absurd (cc)
eq_by Equal e f = refl
eq_by Greater e f = absurd (cc)

-- a run is of no matter from a left document on that comes behind it
pub past_run : (outer : Bool) (terms : List JoinTerm) (place : ℕ) (left : Doc) (lefts : List Doc)
    (run after rights : List Doc) → is_behind terms left run ≡ true → after ≡ []
    → IsAscending (less (left_order terms)) (left ∷ lefts) → IsKept terms (left ∷ lefts) run
    → pairs_from outer terms place (left ∷ lefts) (run ++ rights)
    ≡ pairs_from outer terms place (left ∷ lefts) (after ++ rights)
past_run outer terms place left lefts [] after rights e n a k = absurd (cc)
past_run outer terms place left lefts (r ∷ run) after rights e n a k =
    let more : order_of terms left r ≡ Greater = gt_is (order_of terms left r) e in
    ap (drop place)
    (pairs-let_go (alone_of outer) (meets terms) joined (left ∷ lefts) (r ∷ run) rights (
      none_before terms left lefts r more a,
      each_weaker (λ q. key_cmp terms (right_key r) (right_key q) ≡ Equal)
          (λ q. AllByRecursion (λ l. meets terms l q ≡ false) (left ∷ lefts)) run
          (λ q t. none_before terms left lefts q (sym (order_of-tied terms left r q t) ∙ more) a)
          k.0,
    ))
    ∙ sym (ap (λ w. pairs_from outer terms place (left ∷ lefts) (w ++ rights)) n)

-- a run equals the left document that isn't behind it
pub equal_run : (terms : List JoinTerm) (left : Doc) (lefts run : List Doc)
    → is_behind terms left run ≡ false → IsKept terms (left ∷ lefts) run
    → AreEqual terms left run
equal_run terms left lefts [] e k = tt
equal_run terms left lefts (r ∷ run) e k =
    let same : meets terms left r ≡ true = eq_by (order_of terms left r) e k.1.0 in (
      same,
      each_weaker (λ q. key_cmp terms (right_key r) (right_key q) ≡ Equal)
          (λ q. meets terms left q ≡ true) run
          (λ q t. sym (ap is_eq (order_of-tied terms left r q t)) ∙ same)
          k.0,
    )

-- the run of a left document is kept for those behind it
kept_run : (terms : List JoinTerm) (left : Doc) (lefts run : List Doc) → AreEqual terms left run
    → IsAscending (less (left_order terms)) (left ∷ lefts) → IsKept terms lefts run
kept_run terms left lefts [] e a = tt
kept_run terms left lefts (r ∷ run) e a = (
  each_weaker (λ q. meets terms left q ≡ true)
      (λ q. key_cmp terms (right_key r) (right_key q) ≡ Equal) run
      (λ q f. tied_by terms left r q e.0 f) e.1,
  none_less terms left lefts r e.0 a,
)

-- a left document comes, and what is kept of the run equals it
pub fed_left : (terms : List JoinTerm) (held : Option Doc) (place : ℕ) (run after : List Doc)
    (left : Doc) (lefts rights : List Doc) → held ≡ None
    → (IsKept terms (left ∷ lefts) run → AreEqual terms left after)
    → IsMidway terms held place run (left ∷ lefts) rights
    → IsMidway terms (Some left) place after lefts rights
fed_left terms None place run after left lefts rights n equal m = record {
  left_ascends = m.left_ascends;
  right_ascends = m.right_ascends;
  run_fits = equal m.run_fits;
  given = λ more. let none : place ≡ 0 = m.given in absurd (omega arith);
}
fed_left terms (Some other) place run after left lefts rights n equal m = absurd (cc)

-- a right document that comes before the left one is of no matter
pub past_right : (outer : Bool) (terms : List JoinTerm) (place : ℕ) (one : Option Doc)
    (left : Doc) (lefts run : List Doc) (held after : Option Doc) (first : Doc) (rights : List Doc)
    → one ≡ Some left → held ≡ Some first → after ≡ None → order_of terms left first ≡ Greater
    → IsMidway terms one place run lefts (flow held rights)
    → pairs_from outer terms place (flow one lefts) (run ++ flow held rights)
    ≡ pairs_from outer terms place (flow one lefts) (run ++ flow after rights)
past_right outer terms place None left lefts run held after first rights l h n e m = absurd (cc)
past_right outer terms place (Some one) left lefts run None after first rights l h n e m =
    absurd (cc)
past_right outer terms place (Some one) left lefts run (Some held) (Some after) first rights l h n
    e m =
    absurd (cc)
past_right outer terms place (Some one) left lefts run (Some held) None first rights l h n e m =
    let here : left ≡ one = cc in
    let same : first ≡ held = cc in
    ap (drop place)
    (pairs-skip (alone_of outer) (meets terms) joined (one ∷ lefts) run held rights
    (none_before terms one lefts held
    (sym (ap (λ w. order_of terms w held) here) ∙ sym (ap (order_of terms left) same) ∙ e)
    m.left_ascends))

-- where the next right document comes behind the left one the run is whole
pub whole_at : (terms : List JoinTerm) (one : Option Doc) (place : ℕ) (left : Doc)
    (lefts run : List Doc) (held : Option Doc) (first : Doc) (rights : List Doc)
    → one ≡ Some left → held ≡ Some first → order_of terms left first ≡ Less
    → IsMidway terms one place run lefts (flow held rights)
    → IsWhole terms one (first ∷ rights)
whole_at terms None place left lefts run held first rights l h e m = absurd (cc)
whole_at terms (Some one) place left lefts run None first rights l h e m = absurd (cc)
whole_at terms (Some one) place left lefts run (Some held) first rights l h e m =
    let here : left ≡ one = cc in
    let same : held ≡ first = cc in
    none_behind terms one first rights (sym (ap (λ w. order_of terms w first) here) ∙ e)
    (subst (λ (w : Doc). IsAscending (less (right_order terms)) (w ∷ rights)) same
    m.right_ascends)

module _ (outer : Bool) (terms : List JoinTerm) (one : Option Doc) (left : Doc) (place : ℕ)
    (run lefts rights : List Doc) (h : one ≡ Some left)
    (m : IsMidway terms one place run lefts rights) (w : IsWhole terms one rights) where
  -- what is known speaks of the left document itself
  here : IsMidway terms (Some left) place run lefts rights
  here = subst (λ (o : Option Doc). IsMidway terms o place run lefts rights) h m

  -- and so does what is known of those to come
  whole : AreOther terms left rights
  whole = subst (λ (o : Option Doc). IsWhole terms o rights) h w

  -- its pairs, and what those behind it give
  abbrev paired : List Doc
  paired =
      or_these (alone_of outer left) (map (joined left) run)
      ++ pairs (alone_of outer) (meets terms) joined lefts (run ++ rights)

  -- that is what there is
  all_paired : pairs (alone_of outer) (meets terms) joined (left ∷ lefts) (run ++ rights) ≡ paired
  all_paired =
      pairs-whole (alone_of outer) (meets terms) joined left lefts run rights here.run_fits whole

  -- without the pairs that were given
  given : pairs_from outer terms place (flow one lefts) (run ++ rights) ≡ drop place paired
  given =
      ap (λ o. pairs_from outer terms place (flow o lefts) (run ++ rights)) h
      ∙ ap (drop place) all_paired

  -- the next pair comes first
  pair_first : (right pair : Doc) → place < length run → right ≡ get_or run place right
      → pair ≡ joined left right
      → pairs_from outer terms place (flow one lefts) (run ++ rights)
      ≡ pair ∷ drop (suc place) paired
  pair_first right pair b r p =
      given
      ∙ these-one (alone_of outer left) (joined left) run _ place right b
      ∙ ap (λ w. w ∷ drop (suc place) paired) (sym (p ∙ ap (joined left) r))

  -- it is given, and the left document stays for the one after that
  pub one_given : (right pair : Doc) → place < length run → right ≡ get_or run place right
      → pair ≡ joined left right
      → pairs_from outer terms place (flow one lefts) (run ++ rights)
      ≡ pair ∷ pairs_from outer terms (place + 1) (left ∷ lefts) (run ++ rights)
  one_given right pair b r p =
      pair_first right pair b r p
      ∙ ap (λ w. pair ∷ drop (suc place) w) (sym all_paired)
      ∙ ap (λ n. pair ∷ pairs_from outer terms n (left ∷ lefts) (run ++ rights))
      (sym (add-one place))

  -- the last pair is given
  pub last_given : (right pair : Doc) (freed : Option Doc) → place < length run
      → length run ≤ place + 1 → right ≡ get_or run place right → pair ≡ joined left right
      → freed ≡ None
      → pairs_from outer terms place (flow one lefts) (run ++ rights)
      ≡ pair ∷ pairs_from outer terms 0 (flow freed lefts) (run ++ rights)
  last_given right pair freed b e r p f =
      pair_first right pair b r p
      ∙ ap (λ w. pair ∷ w)
      (these-last (alone_of outer left) (joined left) run _ place (omega arith))
      ∙ sym (ap (λ o. pair ∷ pairs_from outer terms 0 (flow o lefts) (run ++ rights)) f)

  -- a left document without an equal gives what it gives alone
  pub alone_given : (freed : Option Doc) (ended : Bool) (answer : Ask) → length run ≤ place
      → freed ≡ None → answer ≡ (if outer then Emit left else next_left ended)
      → pairs_from outer terms place (flow one lefts) (run ++ rights)
      ≡ emitted answer ++ pairs_from outer terms 0 (flow freed lefts) (run ++ rights)
  alone_given freed ended answer b f e =
      given
      ∙ none_left run place b here.given
      ∙ ap (λ w. w ++ pairs_from outer terms 0 lefts (run ++ rights))
      (sym (ap emitted e ∙ alone_emitted outer ended))
      ∙ sym (ap (λ o. emitted answer ++ pairs_from outer terms 0 (flow o lefts) (run ++ rights)) f)
    where
      alone_emitted : (outer ended : Bool)
          → emitted (if outer then Emit left else next_left ended) ≡ alone_of outer left
      alone_emitted true ended = refl
      alone_emitted false true = refl
      alone_emitted false false = refl

      none_left : (others : List Doc) (place : ℕ) → length others ≤ place
          → (0 < place → (place < length others) × AreOther terms left rights)
          → drop place (or_these (alone_of outer left) (map (joined left) others)
          ++ pairs (alone_of outer) (meets terms) joined lefts (run ++ rights))
          ≡ alone_of outer left ++ pairs (alone_of outer) (meets terms) joined lefts (run ++ rights)
      none_left [] zero b g = refl
      none_left [] (suc n) b g = absurd (let l = (g (omega arith)).0 in omega arith)
      none_left (x ∷ xs) zero b g = absurd (omega arith)
      none_left (x ∷ xs) (suc n) b g = absurd (let l = (g (omega arith)).0 in omega arith)

  -- the left document is done with, and its run is kept for the next
  pub left_done : (freed : Option Doc) → freed ≡ None
      → IsMidway terms freed 0 run lefts rights
  left_done None f = record {
    left_ascends = here.left_ascends.1;
    right_ascends = here.right_ascends;
    run_fits = kept_run terms left lefts run here.run_fits here.left_ascends;
    given = refl;
  }
  left_done (Some other) f = absurd (cc)

-- what is made gives what the definition does
pub made_join : (outer : Bool) (on : List OnPair) (order : List SortTerm) (terms : List JoinTerm)
    (one other : Option Doc) (run lefts rights : List Doc) → terms ≡ terms_of on order
    → one ≡ None → other ≡ None → run ≡ []
    → pairs_from outer terms 0 (flow one lefts) (run ++ flow other rights)
    ≡ (if outer then outer_join_list on lefts rights else join_list on lefts rights)
made_join outer on order terms one other run lefts rights e f g h =
    ap (λ w. pairs_from outer terms 0 (flow w lefts) (run ++ flow other rights)) f
    ∙ ap (λ w. pairs_from outer terms 0 lefts (run ++ flow w rights)) g
    ∙ ap (λ w. pairs_from outer terms 0 lefts (w ++ rights)) h
    ∙ ap (λ ts. pairs_from outer ts 0 lefts rights) e
    ∙ pairs-same (alone_of outer) (meets (terms_of on order)) (matches on) joined
    (meets-matches on order) lefts rights
    ∙ pairs-kind outer on lefts rights

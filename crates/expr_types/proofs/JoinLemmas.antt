-- What is true of all pairs of two lists.
use Rattle.std.proofs.Common.{◌≡◌, ◌<◌, ℕ, zero, suc, List, [], ◌∷◌, ◌++◌, map, filter, drop}
use Rattle.std.proofs.Common.{get_or, length, Bool, true, false, if◌then◌else◌, refl, ◌∙◌, ap, sym}
use Rattle.std.proofs.Common.{arith}
use Rattle.std.proofs.Common.{◌≢◌, Option, Some, None}
use Rattle.std.specs.Prelude.{bytes_eq}
use Rattle.std.specs.List.{AllByRecursion}
use Rattle.std.specs.Option.{option_or}
use Rattle.std.proofs.lemmas.Slice.Eq.{bytes_eq-Decides}
use Rattle.std.proofs.lemmas.List.{append-nil}
use Rattle.std.proofs.lemmas.List.Elements.{filter-append}
use Rattle.tuple_values.specs.Document.{ByteList, Datum, Doc, Rises, value_at, put, over}
use Rattle.tuple_values.specs.Document.{bytes_cmp}
use Rattle.tuple_values.proofs.DocumentLemmas.{put_rises}
use Rattle.tuple_values.proofs.MapLemmas.{bytes_same, value_put, value_put_other, value_over, same_doc}
use Rattle.sort_spec.specs.declared.pair.OnPair.{OnPair}
use Rattle.sort_spec.proofs.StableLemmas.{filter_none}
use Rattle.expr_types.specs.Joins.{or_these, pairs, matches, alone_of, joined}
use Rattle.expr_types.specs.Joins.{join_list, outer_join_list}

-- where each element passes all are kept
filter_all : {X : Type 0} (test : X → Bool) (xs : List X)
    → AllByRecursion (λ x. test x ≡ true) xs → filter test xs ≡ xs
filter_all test [] a = refl
filter_all test (x ∷ xs) a = let e = a.0 in rw e (ap (λ w. x ∷ w) (filter_all test xs a.1))

-- an element that fails is no matter
pub filter_past : {X : Type 0} (test : X → Bool) (run : List X) (x : X) (xs : List X)
    → test x ≡ false → filter test (run ++ x ∷ xs) ≡ filter test (run ++ xs)
filter_past test run x xs e =
    filter-append test run (x ∷ xs)
    ∙ (let past : filter test (x ∷ xs) ≡ filter test xs = rw e in
    ap (λ w. filter test run ++ w) past)
    ∙ sym (filter-append test run xs)

-- those that pass stand in front of those that fail
filter_front : {X : Type 0} (test : X → Bool) (run xs : List X)
    → AllByRecursion (λ x. test x ≡ true) run → AllByRecursion (λ x. test x ≡ false) xs
    → filter test (run ++ xs) ≡ run
filter_front test run xs a b =
    filter-append test run xs ∙ ap (λ w. filter test run ++ w) (filter_none test xs b)
    ∙ append-nil (filter test run) ∙ filter_all test run a

module _ {L R T : Type 0} (alone : L → List T) (match : L → R → Bool) (both : L → R → T) where
  -- a right element that no left one matches is no matter, behind a run
  pub pairs-skip : (lefts : List L) (run : List R) (right : R) (rights : List R)
      → AllByRecursion (λ l. match l right ≡ false) lefts
      → pairs alone match both lefts (run ++ right ∷ rights)
      ≡ pairs alone match both lefts (run ++ rights)
  pairs-skip [] run right rights a = refl
  pairs-skip (l ∷ ls) run right rights a =
      let all = pairs alone match both ls (run ++ right ∷ rights) in
      ap (λ w. or_these (alone l) (map (both l) w) ++ all)
      (filter_past (match l) run right rights a.0)
      ∙ ap (λ w. or_these (alone l) (map (both l) (filter (match l) (run ++ rights))) ++ w)
      (pairs-skip ls run right rights a.1)

  -- nor is a run that none matches
  pub pairs-let_go : (lefts : List L) (run rights : List R)
      → AllByRecursion (λ r. AllByRecursion (λ l. match l r ≡ false) lefts) run
      → pairs alone match both lefts (run ++ rights) ≡ pairs alone match both lefts rights
  pairs-let_go lefts [] rights a = refl
  pairs-let_go lefts (r ∷ run) rights a =
      pairs-skip lefts [] r (run ++ rights) a.0 ∙ pairs-let_go lefts run rights a.1

  -- a left element is paired with its run alone, where nothing behind that matches it
  pub pairs-whole : (left : L) (lefts : List L) (run rights : List R)
      → AllByRecursion (λ r. match left r ≡ true) run
      → AllByRecursion (λ r. match left r ≡ false) rights
      → pairs alone match both (left ∷ lefts) (run ++ rights)
      ≡ or_these (alone left) (map (both left) run) ++ pairs alone match both lefts (run ++ rights)
  pairs-whole left lefts run rights a b =
      ap
      (λ w. or_these (alone left) (map (both left) w)
      ++ pairs alone match both lefts (run ++ rights))
      (filter_front (match left) run rights a b)

-- the elements from a place on, where there is one
drop_one : {X Y : Type 0} (f : X → Y) (xs : List X) (more : List Y) (place : ℕ) (d : X)
    → place < length xs
    → drop place (map f xs ++ more) ≡ f (get_or xs place d) ∷ drop (suc place) (map f xs ++ more)
drop_one f [] more place d h = absurd (omega arith)
drop_one f (x ∷ xs) more zero d h = refl
drop_one f (x ∷ xs) more (suc place) d h = drop_one f xs more place d (omega arith)

-- none is left behind the last
drop_last : {X Y : Type 0} (f : X → Y) (xs : List X) (more : List Y)
    → drop (length xs) (map f xs ++ more) ≡ more
drop_last f [] more = refl
drop_last f (x ∷ xs) more = drop_last f xs more

-- the same where others stand for no element
pub these-one : {X Y : Type 0} (others : List Y) (f : X → Y) (xs : List X) (more : List Y)
    (place : ℕ) (d : X) → place < length xs
    → drop place (or_these others (map f xs) ++ more)
    ≡ f (get_or xs place d) ∷ drop (suc place) (or_these others (map f xs) ++ more)
these-one others f [] more place d h = absurd (omega arith)
these-one others f (x ∷ xs) more place d h = drop_one f (x ∷ xs) more place d h

pub these-last : {X Y : Type 0} (others : List Y) (f : X → Y) (xs : List X) (more : List Y)
    (place : ℕ) → suc place ≡ length xs
    → drop (suc place) (or_these others (map f xs) ++ more) ≡ more
these-last others f [] more place h = absurd (omega arith)
these-last others f (x ∷ xs) more place h =
    ap (λ n. drop n (map f (x ∷ xs) ++ more)) h ∙ drop_last f (x ∷ xs) more

-- tests that agree keep the same
filter_same : {X : Type 0} (one other : X → Bool) → ((x : X) → one x ≡ other x) → (xs : List X)
    → filter one xs ≡ filter other xs
filter_same one other same [] = refl
filter_same one other same (x ∷ xs) = let e = same x in rw e (rw (filter_same one other same xs))

-- and pair the same
pub pairs-same : {L R T : Type 0} (alone : L → List T) (one other : L → R → Bool)
    (both : L → R → T) → ((l : L) (r : R) → one l r ≡ other l r) → (lefts : List L)
    (rights : List R) → pairs alone one both lefts rights ≡ pairs alone other both lefts rights
pairs-same alone one other both same [] rights = refl
pairs-same alone one other both same (l ∷ ls) rights =
    ap (λ w. or_these (alone l) (map (both l) w) ++ pairs alone one both ls rights)
    (filter_same (one l) (other l) (same l) rights)
    ∙ ap (λ w. or_these (alone l) (map (both l) (filter (other l) rights)) ++ w)
    (pairs-same alone one other both same ls rights)

-- an inner and an outer join differ by what a left document without a match gives
pub pairs-kind : (outer : Bool) (on : List OnPair) (lefts rights : List Doc)
    → pairs (alone_of outer) (matches on) joined lefts rights
    ≡ (if outer then outer_join_list on lefts rights else join_list on lefts rights)
pairs-kind true on lefts rights = refl
pairs-kind false on lefts rights = refl

-- a value under another name isn't seen
value_put-apart : (name other : ByteList) (v : Datum) (doc : Doc) → bytes_eq other name ≡ false
    → value_at name (put other v doc) ≡ value_at name doc
value_put-apart name other v doc e =
    value_put_other name other v doc
    (λ i. let same = (bytes_eq-Decides other name).1 (bytes_same other name i) in cc)

-- what is joined has the right one's value where there is one, else the left one's
pub value_joined : (name : ByteList) (left right : Doc)
    → value_at name (joined left right) ≡ option_or (value_at name right) (value_at name left)
value_joined name left [] = refl
value_joined name left (f ∷ right) =
    go (bytes_eq f.0 name) refl (value_joined name left right)
  where
    go : (b : Bool) → bytes_eq f.0 name ≡ b
        → value_at name (joined left right) ≡ option_or (value_at name right) (value_at name left)
        → value_at name (put f.0 f.1 (joined left right))
        ≡ option_or (if b then Some f.1 else value_at name right) (value_at name left)
    go true e later =
        ap (λ (n : ByteList). value_at n (put f.0 f.1 (joined left right)))
        (sym ((bytes_eq-Decides f.0 name).0 e))
        ∙ value_put f.0 f.1 (joined left right)
    go false e later = value_put-apart name f.0 f.1 (joined left right) e ∙ later

-- its names rise
joined_rises : (left right : Doc) → Rises left → Rises (joined left right)
joined_rises left [] rises = rises
joined_rises left (f ∷ right) rises =
    put_rises f.0 f.1 (joined left right) (joined_rises left right rises)

-- so do those of a document laid over another
over_rises : (left right : Doc) → Rises left → Rises (over left right)
over_rises left [] rises = rises
over_rises left (f ∷ right) rises =
    over_rises (put f.0 f.1 left) right (put_rises f.0 f.1 left rises)

-- where names rise it is no matter in which order the right fields are put in
pub over-joined : (left right : Doc) → Rises left → Rises right
    → over left right ≡ joined left right
over-joined left right l r =
    same_doc (over left right) (joined left right) (over_rises left right l)
    (joined_rises left right l)
    (λ name. value_over name left right r ∙ sym (value_joined name left right))

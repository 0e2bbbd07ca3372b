-- What a search for a match may pass over.
use Rattle.std.proofs.Common.{◌≡◌, List, [], ◌∷◌, Bool, true, false, ◌||◌, refl, ◌∙◌, ap, sym}
use Rattle.std.proofs.Common.{if◌then◌else◌}
use Rattle.std.specs.List.{AllByRecursion, list_any}
use Rattle.std.proofs.Common.{Option, Some, None, ◌++◌}
use mathlib.Core.Bool.{beq}
use Rattle.std.specs.declared.cmp.Ordering.TheVariants.{Less, Greater}
use Rattle.tuple_values.specs.Document.{Doc}
use Rattle.sort_spec.specs.Sorting.{IsAscending}
use Rattle.sort_spec.specs.Terms.{less}
use Rattle.sort_spec.specs.declared.pair.OnPair.{OnPair}
use Rattle.sort_spec.specs.declared.term.SortTerm.{SortTerm}
use Rattle.kernel_laws.specs.Asks.{emitted}
use Rattle.kernel_laws.specs.declared.ask.Ask.{Ask}
use Rattle.expr_types.specs.Joins.{is_kept, existing, matches, exist_list}
use Rattle.merge_join.specs.Keys.{order_of, meets, left_order, right_order, terms_of}
use Rattle.merge_join.specs.Sides.{flow, next_left}
use Rattle.merge_join.specs.declared.term.JoinTerm.{JoinTerm}
use Rattle.merge_join.proofs.KeyLemmas.{none_before, none_behind, meets-matches}

-- nothing passes where each element fails
pub any_none : {X : Type 0} (test : X → Bool) (xs : List X)
    → AllByRecursion (λ x. test x ≡ false) xs → list_any test xs ≡ false
any_none test [] a = refl
any_none test (x ∷ xs) a = ap (λ b. b || list_any test xs) a.0 ∙ any_none test xs a.1

-- a right element that no left one matches is no matter
pub existing-skip : {L R : Type 0} (keep : Bool) (match : L → R → Bool) (lefts : List L)
    (right : R) (rights : List R) → AllByRecursion (λ l. match l right ≡ false) lefts
    → existing keep match lefts (right ∷ rights) ≡ existing keep match lefts rights
existing-skip keep match [] right rights a = refl
existing-skip keep match (l ∷ ls) right rights a =
    let all = existing keep match ls (right ∷ rights) in
    ap (λ b. if is_kept keep (b || list_any (match l) rights) then l ∷ all else all) a.0
    ∙ ap (λ w. if is_kept keep (list_any (match l) rights) then l ∷ w else w)
    (existing-skip keep match ls right rights a.1)

-- a left element that is kept comes first
pub existing-kept : {L R : Type 0} (keep : Bool) (match : L → R → Bool) (left : L)
    (lefts : List L) (rights : List R) (found : Bool) → list_any (match left) rights ≡ found
    → is_kept keep found ≡ true
    → existing keep match (left ∷ lefts) rights ≡ left ∷ existing keep match lefts rights
existing-kept keep match left lefts rights found e k =
    let all = existing keep match lefts rights in
    ap (λ b. if is_kept keep b then left ∷ all else all) e
    ∙ ap (λ b. if b then left ∷ all else all) k

-- and one that isn't is left out
pub existing-left_out : {L R : Type 0} (keep : Bool) (match : L → R → Bool) (left : L)
    (lefts : List L) (rights : List R) (found : Bool) → list_any (match left) rights ≡ found
    → is_kept keep found ≡ false
    → existing keep match (left ∷ lefts) rights ≡ existing keep match lefts rights
existing-left_out keep match left lefts rights found e k =
    let all = existing keep match lefts rights in
    ap (λ b. if is_kept keep b then left ∷ all else all) e
    ∙ ap (λ b. if b then left ∷ all else all) k

-- one is kept where its finding is what is asked for
kept_by : (found keep : Bool) → beq found keep ≡ true → is_kept keep found ≡ true
kept_by true true e = refl
kept_by false false e = refl
kept_by true false e = absurd (cc)
kept_by false true e = absurd (cc)

-- and left out where it isn't
left_out_by : (found keep : Bool) → beq found keep ≡ false → is_kept keep found ≡ false
left_out_by true true e = absurd (cc)
left_out_by false false e = absurd (cc)
left_out_by true false e = refl
left_out_by false true e = refl

-- tests that agree find the same
any_same : {X : Type 0} (p q : X → Bool) → ((x : X) → p x ≡ q x) → (xs : List X)
    → list_any p xs ≡ list_any q xs
any_same p q same [] = refl
any_same p q same (x ∷ xs) =
    ap (λ b. b || list_any p xs) (same x) ∙ ap (λ b. q x || b) (any_same p q same xs)

-- and keep the same
pub existing-same : {L R : Type 0} (keep : Bool) (one other : L → R → Bool)
    → ((l : L) (r : R) → one l r ≡ other l r) → (lefts : List L) (rights : List R)
    → existing keep one lefts rights ≡ existing keep other lefts rights
existing-same keep one other same [] rights = refl
existing-same keep one other same (l ∷ ls) rights =
    let all = existing keep one ls rights in
    ap (λ b. if is_kept keep b then l ∷ all else all) (any_same (one l) (other l) (same l) rights)
    ∙ ap (λ w. if is_kept keep (list_any (other l) rights) then l ∷ w else w)
    (existing-same keep one other same ls rights)

-- a left document that comes before the first of the right ones has no match
pub find_none : (terms : List JoinTerm) (left : Doc) (held : Option Doc) (first : Doc)
    (rights : List Doc) → held ≡ Some first → order_of terms left first ≡ Less
    → IsAscending (less (right_order terms)) (flow held rights)
    → list_any (meets terms left) (flow held rights) ≡ false
find_none terms left None first rights h e a = absurd (cc)
find_none terms left (Some right) first rights h e a =
    let same : first ≡ right = cc in
    any_none (meets terms left) (right ∷ rights)
    (none_behind terms left right rights (ap (order_of terms left) (sym same) ∙ e) a)

-- a right document that comes before the first of the left ones is no matter
pub find_past : (keep : Bool) (terms : List JoinTerm) (left : Doc) (lefts : List Doc)
    (held after : Option Doc) (first : Doc) (rights : List Doc) → held ≡ Some first → after ≡ None
    → order_of terms left first ≡ Greater → IsAscending (less (left_order terms)) (left ∷ lefts)
    → existing keep (meets terms) (left ∷ lefts) (flow held rights)
    ≡ existing keep (meets terms) (left ∷ lefts) (flow after rights)
find_past keep terms left lefts None after first rights h n e a = absurd (cc)
find_past keep terms left lefts (Some right) (Some other) first rights h n e a = absurd (cc)
find_past keep terms left lefts (Some right) None first rights h n e a =
    let same : first ≡ right = cc in
    existing-skip keep (meets terms) (left ∷ lefts) right rights
    (none_before terms left lefts right (ap (order_of terms left) (sym same) ∙ e) a)

-- a kernel that is made gives what the definition does
pub made : (keep : Bool) (on : List OnPair) (order : List SortTerm) (terms : List JoinTerm)
    (one other : Option Doc) (lefts rights : List Doc) → terms ≡ terms_of on order → one ≡ None
    → other ≡ None
    → existing keep (meets terms) (flow one lefts) (flow other rights)
    ≡ exist_list keep on lefts rights
made keep on order terms one other lefts rights e f g =
    ap (λ w. existing keep (meets terms) (flow w lefts) (flow other rights)) f
    ∙ ap (λ w. existing keep (meets terms) lefts (flow w rights)) g
    ∙ ap (λ ts. existing keep (meets ts) lefts rights) e
    ∙ existing-same keep (meets (terms_of on order)) (matches on) (meets-matches on order)
    lefts rights

module _ (keep : Bool) (terms : List JoinTerm) (held : Option Doc) (left : Doc) (lefts : List Doc)
    (before after : List Doc) (h : held ≡ Some left)
    (same : existing keep (meets terms) (left ∷ lefts) before
    ≡ existing keep (meets terms) (left ∷ lefts) after) where
  -- the left document stays while nothing is known
  pub still_open : existing keep (meets terms) (flow held lefts) before
      ≡ existing keep (meets terms) (left ∷ lefts) after
  still_open = ap (λ w. existing keep (meets terms) (flow w lefts) before) h ∙ same

  -- it is given
  pub is_given : (found : Bool) (freed : Option Doc) → list_any (meets terms left) after ≡ found
      → beq found keep ≡ true → freed ≡ None
      → existing keep (meets terms) (flow held lefts) before
      ≡ left ∷ existing keep (meets terms) (flow freed lefts) after
  is_given found freed e k g =
      still_open
      ∙ existing-kept keep (meets terms) left lefts after found e (kept_by found keep k)
      ∙ sym (ap (λ w. left ∷ existing keep (meets terms) (flow w lefts) after) g)

  -- or left out, and the next is asked for
  pub is_left_out : (found : Bool) (freed : Option Doc) (ended : Bool) (answer : Ask)
      → list_any (meets terms left) after ≡ found → beq found keep ≡ false → freed ≡ None
      → answer ≡ next_left ended
      → existing keep (meets terms) (flow held lefts) before
      ≡ emitted answer ++ existing keep (meets terms) (flow freed lefts) after
  is_left_out found freed ended answer e k g n =
      still_open
      ∙ existing-left_out keep (meets terms) left lefts after found e (left_out_by found keep k)
      ∙ sym (ap (λ w. existing keep (meets terms) (flow w lefts) after) g)
      ∙ sym (ap (λ w. w ++ existing keep (meets terms) (flow freed lefts) after)
      (ap emitted n ∙ none_emitted ended))
    where
      none_emitted : (ended : Bool) → emitted (next_left ended) ≡ []
      none_emitted true = refl
      none_emitted false = refl

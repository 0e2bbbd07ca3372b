-- Lists in whole chunks, and parts of lists.
use Rattle.std.proofs.Common.{◌≡◌, ℕ, zero, suc, ◌+◌, ◌-◌, ◌*◌, ◌<◌, ◌≤◌, List, [], ◌∷◌, ◌++◌, length, get_or, take, drop, refl, sym, ap, ◌∙◌, arith, append_assoc, length-append}
use Rattle.std.proofs.lemmas.List.{drop-take, take-append-drop, get_or_append_left, get_or-append_right, append-nil, get_or_default, take_more, length-drop, get_or-drop}
use Rattle.std.proofs.Math.Seq.{take-append-add}
use Rattle.std.specs.List.{slice_range}
use Rattle.shard_segments.specs.Lists.{joined, AreWhole}

-- the first of the first
take-take : {X : Type 0} (n k : ℕ) (xs : List X) → n ≤ k → take n (take k xs) ≡ take n xs
take-take zero k xs le = refl
take-take (suc n) zero xs le = absurd (omega arith)
take-take (suc n) (suc k) [] le = refl
take-take (suc n) (suc k) (x ∷ xs) le = ap (λ ys. x ∷ ys) (take-take n k xs (omega arith))

-- the first items and then those between two places
pub take-slice_range : {X : Type 0} (from upto : ℕ) (xs : List X) → from ≤ upto
    → take from xs ++ slice_range xs from upto ≡ take upto xs
take-slice_range from upto xs le =
    let whole : from + (upto - from) ≡ upto = omega arith in
    let behind : slice_range xs from upto ≡ drop from (take upto xs) =
    sym (drop-take from (upto - from) xs) ∙ ap (λ n. drop from (take n xs)) whole in
    ap (λ ys. take from xs ++ ys) behind
    ∙ (ap (λ ys. ys ++ drop from (take upto xs)) (sym (take-take from upto xs le))
    ∙ take-append-drop from (take upto xs))

-- one more item between two places
pub slice_range-more : {X : Type 0} (from k : ℕ) (xs : List X) (d : X) → from ≤ k → k < length xs
    → slice_range xs from (k + 1) ≡ slice_range xs from k ++ get_or xs k d ∷ []
slice_range-more from k xs d le lt =
    let more : k + 1 - from ≡ (k - from) + 1 = omega arith in
    let at : from + (k - from) ≡ k = omega arith in
    let long : k - from < length (drop from xs) = omega (arith, length-drop from xs) in
    ap (λ n. take n (drop from xs)) more
    ∙ (take_more (drop from xs) (k - from) d long
    ∙ ap (λ y. slice_range xs from k ++ y ∷ []) (get_or-drop from xs (k - from) d ∙ ap (λ n. get_or xs n d) at))

-- the items of more lists
pub joined-append : {X : Type 0} (xss yss : List (List X)) → joined (xss ++ yss) ≡ joined xss ++ joined yss
joined-append [] yss = refl
joined-append (xs ∷ xss) yss =
    ap (λ r. xs ++ r) (joined-append xss yss) ∙ sym (append_assoc xs (joined xss) (joined yss))

-- more lists are whole
pub AreWhole-append : {X : Type 0} (xss yss : List (List X)) → AreWhole xss → AreWhole yss → AreWhole (xss ++ yss)
AreWhole-append [] yss a b = b
AreWhole-append (xs ∷ xss) yss a b = (a.0, AreWhole-append xss yss a.1 b)

-- how many items whole lists have
pub joined-length : {X : Type 0} (xss : List (List X)) → AreWhole xss → length (joined xss) ≡ length xss * 1024
joined-length [] whole = refl
joined-length (xs ∷ xss) whole =
    omega (arith, length-append xs (joined xss), whole.0, joined-length xss whole.1)

-- the first of whole lists
pub joined-take : {X : Type 0} (count : ℕ) (xss : List (List X)) → AreWhole xss → count ≤ length xss
    → (ys : List X) → take (count * 1024) (joined xss ++ ys) ≡ joined (take count xss)
joined-take zero xss whole le ys = refl
joined-take (suc count) [] whole le ys = absurd (omega arith)
joined-take (suc count) (xs ∷ xss) whole le ys =
    let n : suc count * 1024 ≡ length xs + count * 1024 = omega (arith, whole.0) in
    ap (λ m. take m ((xs ++ joined xss) ++ ys)) n
    ∙ (ap (take (length xs + count * 1024)) (append_assoc xs (joined xss) ys)
    ∙ (take-append-add xs (joined xss ++ ys) (count * 1024)
    ∙ ap (λ r. xs ++ r) (joined-take count xss whole.1 (omega arith) ys)))

-- they are whole
pub AreWhole-take : {X : Type 0} (count : ℕ) (xss : List (List X)) → AreWhole xss → AreWhole (take count xss)
AreWhole-take zero xss whole = tt
AreWhole-take (suc count) [] whole = tt
AreWhole-take (suc count) (xs ∷ xss) whole = (whole.0, AreWhole-take count xss whole.1)

-- a list among whole ones is as long as each
pub whole-at : {X : Type 0} (xss : List (List X)) (at : ℕ) (d : List X) → AreWhole xss → at < length xss
    → length (get_or xss at d) ≡ 1024
whole-at [] at d whole lt = absurd (omega arith)
whole-at (xs ∷ xss) zero d whole lt = whole.0
whole-at (xs ∷ xss) (suc at) d whole lt = whole-at xss at d whole.1 (omega arith)

-- an item of whole lists
pub joined-at : {X : Type 0} (xss : List (List X)) (ys : List X) (n at k : ℕ) (d : X) (c : List X) → n ≡ at * 1024 + k
    → AreWhole xss → at < length xss → k < 1024 → get_or (joined xss ++ ys) n d ≡ get_or (get_or xss at c) k d
joined-at [] ys n at k d c e whole lt small = absurd (omega arith)
joined-at (xs ∷ xss) ys n zero k d c e whole lt small =
    let is : n ≡ k = omega (arith, e) in
    let short : k < length xs = omega (arith, whole.0) in
    ap (λ m. get_or (joined (xs ∷ xss) ++ ys) m d) is
    ∙ (ap (λ zs. get_or zs k d) (append_assoc xs (joined xss) ys)
    ∙ get_or_append_left xs (joined xss ++ ys) d k short)
joined-at (xs ∷ xss) ys n (suc at) k d c e whole lt small =
    let far : 1024 ≤ n = omega (arith, e) in
    let rest : n - 1024 ≡ at * 1024 + k = omega (arith, e) in
    ap (λ zs. get_or zs n d) (append_assoc xs (joined xss) ys)
    ∙ (get_or-append_right xs (joined xss ++ ys) 1024 n d whole.0 far
    ∙ joined-at xss ys (n - 1024) at k d c rest whole.1 (omega arith) small)

-- an item behind whole lists, whatever stands past the end
pub joined-behind : {X : Type 0} (xss : List (List X)) (ys : List X) (n k : ℕ) (d e : X) → n ≡ length (joined xss) + k
    → k < length ys → get_or ys k d ≡ get_or (joined xss ++ ys) n e
joined-behind xss ys n k d e is lt =
    let rest : n - length (joined xss) ≡ k = omega (arith, is) in
    get_or_default ys k d e lt
    ∙ (ap (λ m. get_or ys m e) (sym rest)
    ∙ sym (get_or-append_right (joined xss) ys (length (joined xss)) n e refl (omega (arith, is))))

-- the first so many of whole lists and what comes up to a later place
pub joined-share : {X : Type 0} (xss : List (List X)) (ys : List X) (count upto : ℕ) → AreWhole xss
    → count ≤ length xss → count * 1024 ≤ upto
    → joined (take count xss) ++ slice_range (joined xss ++ ys) (count * 1024) upto ≡ take upto (joined xss ++ ys)
joined-share xss ys count upto whole le few =
    ap (λ r. r ++ slice_range (joined xss ++ ys) (count * 1024) upto) (sym (joined-take count xss whole le ys))
    ∙ take-slice_range (count * 1024) upto (joined xss ++ ys) few

-- open items that are closed into whole lists
pub joined-close : {X : Type 0} (xss yss : List (List X)) (loose rest : List X) (end : ℕ)
    → joined yss ≡ take end loose → rest ≡ drop end loose → joined (xss ++ yss) ++ rest ≡ joined xss ++ loose
joined-close xss yss loose rest end closed left =
    ap (λ r. r ++ rest) (joined-append xss yss)
    ∙ (append_assoc (joined xss) (joined yss) rest
    ∙ (ap (λ r. joined xss ++ (r ++ rest)) closed
    ∙ (ap (λ r. joined xss ++ (take end loose ++ r)) left
    ∙ ap (λ r. joined xss ++ r) (take-append-drop end loose))))

-- one more list of a part of items
pub joined-part : {X : Type 0} (xss : List (List X)) (part xs : List X) (from upto : ℕ)
    → joined xss ≡ take from xs → part ≡ slice_range xs from upto → from ≤ upto
    → joined (xss ++ part ∷ []) ≡ take upto xs
joined-part xss part xs from upto so is le =
    joined-append xss (part ∷ [])
    ∙ (ap (λ r. joined xss ++ r) (append-nil part)
    ∙ (ap (λ r. r ++ part) so
    ∙ (ap (λ r. take from xs ++ r) is ∙ take-slice_range from upto xs le)))

-- Spellings of numbers, texts, pairs and lists are read in one way, and what a reader has found so far.
use Rattle.std.proofs.Common.{◌≡◌, ℕ, ◌<◌, List, [], ◌∷◌, ◌++◌, length, take, drop, refl, sym, ◌∙◌, ap, arith, append_assoc}
use Rattle.std.specs.Int.{w64, from_be_bytes}
use Rattle.std.specs.List.{flat_map, AllByRecursion}
use Rattle.std.proofs.lemmas.List.{append-nil, drop_at, take_at}
use Rattle.std.proofs.lemmas.Nat.{from_be_bytes-to_be_bytes_8}
use Rattle.tuple_values.specs.Document.{ByteList}
use Rattle.log_codec.specs.Codes.{spelled_list, spelled_number, spelled_text, AreCounted, AreSoMany, HasNone, IsAtFront, IsNumber, IsReadInOneWay, IsText}

-- numbers are read in one way
pub number-one : IsReadInOneWay IsNumber spelled_number
number-one a b x y la lb same =
    let heads : spelled_number a ≡ spelled_number b =
    sym (take_at (spelled_number a) x 8 refl) ∙ ap (λ (l : ByteList). take 8 l) same ∙ take_at (spelled_number b) y 8 refl in
    let tails : x ≡ y =
    sym (drop_at (spelled_number a) x 8 refl) ∙ ap (λ (l : ByteList). drop 8 l) same ∙ drop_at (spelled_number b) y 8 refl in
    (sym (from_be_bytes-to_be_bytes_8 a la) ∙ ap (from_be_bytes w64) heads ∙ from_be_bytes-to_be_bytes_8 b lb, tails)

-- texts are read in one way
pub text-one : IsReadInOneWay IsText spelled_text
text-one a b x y fa fb same =
    let all : spelled_number (length a) ++ (a ++ x) ≡ spelled_number (length b) ++ (b ++ y) =
    sym (append_assoc (spelled_number (length a)) a x) ∙ same ∙ append_assoc (spelled_number (length b)) b y in
    let sizes = number-one (length a) (length b) (a ++ x) (b ++ y) fa.low fb.low all in (
      sym (take_at a x (length a) refl) ∙ ap (λ (l : ByteList). take (length a) l) sizes.1 ∙ take_at b y (length a) (sym sizes.0),
      sym (drop_at a x (length a) refl) ∙ ap (λ (l : ByteList). drop (length a) l) sizes.1 ∙ drop_at b y (length a) (sym sizes.0),
    )

-- lists with one head and one tail are one
cons-same : {X : Type 0} (a b : X) (xs ys : List X) → b ≡ a → xs ≡ ys → a ∷ xs ≡ b ∷ ys
cons-same a b xs ys head tail = cc

module _ {X : Type 0} (F : X → Type 0) (s : X → ByteList) (one : IsReadInOneWay F s) where
  -- as many items are read in one way
  pub items-one : (xs ys : List X) (x y : ByteList) → length xs ≡ length ys → AllByRecursion F xs → AllByRecursion F ys
      → flat_map s xs ++ x ≡ flat_map s ys ++ y → (xs ≡ ys) × (x ≡ y)
  items-one [] [] x y long fx fy same = (refl, same)
  items-one [] (b ∷ ys) x y long fx fy same = absurd (omega (arith, long))
  items-one (a ∷ xs) [] x y long fx fy same = absurd (omega (arith, long))
  items-one (a ∷ xs) (b ∷ ys) x y long fx fy same =
      let all : s a ++ (flat_map s xs ++ x) ≡ s b ++ (flat_map s ys ++ y) =
      sym (append_assoc (s a) (flat_map s xs) x) ∙ same ∙ append_assoc (s b) (flat_map s ys) y in
      let first = one a b (flat_map s xs ++ x) (flat_map s ys ++ y) fx.0 fy.0 all in
      let others = items-one xs ys x y (omega (arith, long)) fx.1 fy.1 first.1 in
      (ap (λ (h : X). h ∷ xs) first.0 ∙ ap (λ (l : List X). b ∷ l) others.0, others.1)

  -- a list behind its number is read in one way
  pub list-one : IsReadInOneWay (AreCounted F) (spelled_list s)
  list-one xs ys x y fx fy same =
      let all : spelled_number (length xs) ++ (flat_map s xs ++ x) ≡ spelled_number (length ys) ++ (flat_map s ys ++ y) =
      sym (append_assoc (spelled_number (length xs)) (flat_map s xs) x) ∙ same ∙ append_assoc (spelled_number (length ys)) (flat_map s ys) y in
      let sizes = number-one (length xs) (length ys) (flat_map s xs ++ x) (flat_map s ys ++ y) fx.counted fy.counted all in
      items-one xs ys x y sizes.0 fx.each fy.each sizes.1

  -- a list of which fewer items were read goes on with one more
  pub items-rest : (some all : List X) (rest after : ByteList) → AllByRecursion F some → AllByRecursion F all → length some < length all
      → flat_map s some ++ rest ≡ flat_map s all ++ after
      → (item : X) × (more : List X) × (all ≡ some ++ item ∷ more) × F item × (rest ≡ s item ++ (flat_map s more ++ after))
  items-rest [] [] rest after fs fa less same = absurd (omega (arith, less))
  items-rest [] (a ∷ all) rest after fs fa less same = (a, all, refl, fa.0, same ∙ append_assoc (s a) (flat_map s all) after)
  items-rest (b ∷ some) [] rest after fs fa less same = absurd (omega (arith, less))
  items-rest (b ∷ some) (a ∷ all) rest after fs fa less same =
      let next : s b ++ (flat_map s some ++ rest) ≡ s a ++ (flat_map s all ++ after) =
      sym (append_assoc (s b) (flat_map s some) rest) ∙ same ∙ append_assoc (s a) (flat_map s all) after in
      let first = one b a (flat_map s some ++ rest) (flat_map s all ++ after) fs.0 fa.0 next in
      let others = items-rest some all rest after fs.1 fa.1 (omega (arith, less)) first.1 in
      (others.0, others.1, cons-same a b all (some ++ others.0 ∷ others.1) first.0 others.2, others.3, others.4)

  -- where no item follows those read, there are not so many
  pub items-none : (bytes rest : ByteList) (some : List X) (k count : ℕ) → IsAtFront (AreSoMany F k) (flat_map s) bytes some rest → k < count
      → HasNone F s rest → HasNone (AreSoMany F count) (flat_map s) bytes
  items-none bytes rest some k count read less none = λ all after fa same.
      let found = items-rest some all rest after read.fits.each fa.each (omega (arith, read.fits.many, fa.many, less)) (sym read.is ∙ same) in
      none found.0 (flat_map s found.1 ++ after) found.3 found.4

-- each of the items, and one more
pub each-push : {X : Type 0} (F : X → Type 0) (xs : List X) (x : X) → AllByRecursion F xs → F x → AllByRecursion F (xs ++ x ∷ [])
each-push F [] x all here = (here, tt)
each-push F (a ∷ xs) x all here = (all.0, each-push F xs x all.1 here)

-- the spelling of one more item
pub items-push : {X : Type 0} (s : X → ByteList) (xs : List X) (x : X) → flat_map s (xs ++ x ∷ []) ≡ flat_map s xs ++ s x
items-push s [] x = append-nil (s x)
items-push s (a ∷ xs) x = ap (λ (l : ByteList). s a ++ l) (items-push s xs x) ∙ sym (append_assoc (s a) (flat_map s xs) (s x))

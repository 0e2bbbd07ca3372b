-- What holds of each item, by recursion on the list.
use Rattle.std.proofs.Common.{ℕ, zero, suc, ◌+◌, ◌<◌, ◌≤◌, List, [], ◌∷◌, ◌++◌, length, get_or, take, sym, subst, arith}
use Rattle.std.proofs.lemmas.List.{take_more, take_all}
use Rattle.std.specs.List.{AllByRecursion}

-- what holds of each item of two lists holds of each item of both together
pub each_append : {X : Type 0} (P : X → Type 0) (xs ys : List X)
    → AllByRecursion P xs → AllByRecursion P ys → AllByRecursion P (xs ++ ys)
each_append P [] ys a b = b
each_append P (x ∷ xs) ys a b = (a.0, each_append P xs ys a.1 b)

-- and of each item of the first
pub each_left : {X : Type 0} (P : X → Type 0) (xs ys : List X)
    → AllByRecursion P (xs ++ ys) → AllByRecursion P xs
each_left P [] ys a = tt
each_left P (x ∷ xs) ys a = (a.0, each_left P xs ys a.1)

-- and of each item of the second
pub each_right : {X : Type 0} (P : X → Type 0) (xs ys : List X)
    → AllByRecursion P (xs ++ ys) → AllByRecursion P ys
each_right P [] ys a = a
each_right P (x ∷ xs) ys a = each_right P xs ys a.1

-- what follows from it holds of each item too
pub each_weaker : {X : Type 0} (P Q : X → Type 0) → ((x : X) → P x → Q x) → (xs : List X)
    → AllByRecursion P xs → AllByRecursion Q xs
each_weaker P Q f [] a = tt
each_weaker P Q f (x ∷ xs) a = (f x a.0, each_weaker P Q f xs a.1)

-- what holds of every value holds of each item
pub each_all : {X : Type 0} (P : X → Type 0) → ((x : X) → P x) → (xs : List X) → AllByRecursion P xs
each_all P f [] = tt
each_all P f (x ∷ xs) = (f x, each_all P f xs)

-- what follows from two facts of an item holds of each item of which both hold
pub each_two : {X : Type 0} (P Q R : X → Type 0) → ((x : X) → P x → Q x → R x) → (xs : List X)
    → AllByRecursion P xs → AllByRecursion Q xs → AllByRecursion R xs
each_two P Q R f [] a b = tt
each_two P Q R f (x ∷ xs) a b = (f x a.0 b.0, each_two P Q R f xs a.1 b.1)

-- what holds of the items before a place and of the one there holds of those before the next place
pub each_more : {X : Type 0} (P : X → Type 0) (xs : List X) (i : ℕ) (d : X) → i < length xs
    → AllByRecursion P (take i xs) → P (get_or xs i d) → AllByRecursion P (take (i + 1) xs)
each_more P xs i d lt a p =
    subst (AllByRecursion P) (sym (take_more xs i d lt)) (each_append P (take i xs) (get_or xs i d ∷ []) a (p, tt))

-- what holds of each item holds of the one at a place
pub each_at : {X : Type 0} (P : X → Type 0) (xs : List X) (i : ℕ) (d : X) → i < length xs
    → AllByRecursion P xs → P (get_or xs i d)
each_at P [] i d lt a = absurd (omega arith)
each_at P (x ∷ xs) zero d lt a = a.0
each_at P (x ∷ xs) (suc i) d lt a = each_at P xs i d (omega arith) a.1

-- what holds of the items before the end holds of each item
pub each_end : {X : Type 0} (P : X → Type 0) (xs : List X) (i : ℕ) → length xs ≤ i
    → AllByRecursion P (take i xs) → AllByRecursion P xs
each_end P xs i le a = subst (AllByRecursion P) (take_all i xs le) a

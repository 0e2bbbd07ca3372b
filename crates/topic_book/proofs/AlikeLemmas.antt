-- Lists of names that agree place by place, and the test of bindings.
use Rattle.std.proofs.Common.{◌≡◌, ℕ, ◌+◌, ◌<◌, ◌≤◌, ◌&&◌, Bool, true, false, List, [], ◌∷◌, length, get_or, take, refl, sym, ap, ◌∙◌, arith, bytes_eq}
use Rattle.std.specs.Prelude.{Decides, Option, Some, None}
use Rattle.std.proofs.lemmas.Bool.Decides.{same_from_decides}
use Rattle.std.proofs.lemmas.List.{take_more_same, take_all}
use Rattle.std.proofs.lemmas.Slice.Eq.{bytes_eq-Decides}
use Rattle.tuple_values.specs.Document.{ByteList}
use Rattle.topic_book.specs.Alike.{same_names, same_destination, is_alike}
use Rattle.topic_book.specs.Books.{IsAlike}
use Rattle.topic_book.specs.declared.topic.Binding.{Binding}

-- lists that agree up to their ends are equal
pub agree-end : (xs ys : List (List ℕ)) (i : ℕ) → length xs ≡ length ys → length xs ≤ i → take i xs ≡ take i ys → xs ≡ ys
agree-end xs ys i same le e = sym (take_all i xs le) ∙ (e ∙ take_all i ys (omega arith))

-- lists that differ in length differ
pub differ-length : (xs ys : List (List ℕ)) → (length xs ≡ length ys → ⊥) → xs ≡ ys → ⊥
differ-length xs ys d e = d (ap length e)

-- lists that differ at a place differ
pub differ-at : (xs ys : List (List ℕ)) (i : ℕ) (d : List ℕ) → (get_or xs i d ≡ get_or ys i d → ⊥) → xs ≡ ys → ⊥
differ-at xs ys i d n e = n (ap (λ zs. get_or zs i d) e)

-- what a comparison of names needs
pub ruleset name_steps = (take_more_same, agree-end, differ-length, differ-at)

-- tests of two facts
both : {P Q : Type 0} (p q : Bool) → Decides p P → Decides q Q → Decides (p && q) (P × Q)
both true true a b = (λ e. (a.0 e, b.0 e), λ r. refl)
both true false a b = (λ e. absurd (cc), λ r. b.1 r.1)
both false q a b = (λ e. absurd (cc), λ r. a.1 r.0)

-- the same fact by another name
renamed : {P Q : Type 0} (t : Bool) → Decides t P → (P → Q) → (Q → P) → Decides t Q
renamed t a f g = (λ e. f (a.0 e), λ q. a.1 (g q))

-- names that are the same
names_tell : (xs ys : List ByteList) → Decides (same_names xs ys) (xs ≡ ys)
names_tell [] [] = (λ e. refl, λ e. refl)
names_tell [] (b ∷ bs) = (λ e. absurd (cc), λ e. absurd (cc))
names_tell (a ∷ more) [] = (λ e. absurd (cc), λ e. absurd (cc))
names_tell (a ∷ more) (b ∷ bs) =
    renamed (bytes_eq a b && same_names more bs)
    (both (bytes_eq a b) (same_names more bs) (bytes_eq-Decides a b) (names_tell more bs))
    (λ p. cc) (λ e. (cc, cc))

-- destinations that are the same
destinations_tell : (a b : Option ByteList) → Decides (same_destination a b) (a ≡ b)
destinations_tell None None = (λ e. refl, λ e. refl)
destinations_tell None (Some b) = (λ e. absurd (cc), λ e. absurd (cc))
destinations_tell (Some a) None = (λ e. absurd (cc), λ e. absurd (cc))
destinations_tell (Some a) (Some b) =
    renamed (bytes_eq a b) (bytes_eq-Decides a b) (λ e. ap Some e) (λ e. cc)

-- bindings that agree
pub alike_tells : (a b : Binding) → Decides (is_alike a b) (IsAlike a b)
unfolding is_alike
alike_tells a b =
    renamed (bytes_eq a.src b.src && (bytes_eq a.q b.q
    && (same_names a.fields b.fields && same_destination a.dest b.dest)))
    (both (bytes_eq a.src b.src) _ (bytes_eq-Decides a.src b.src)
    (both (bytes_eq a.q b.q) _ (bytes_eq-Decides a.q b.q)
    (both (same_names a.fields b.fields) (same_destination a.dest b.dest)
    (names_tell a.fields b.fields) (destinations_tell a.dest b.dest))))
    (λ p. record { src = p.0; q = p.1.0; fields = p.1.1.0; dest = p.1.1.1 })
    (λ s. (s.src, (s.q, (s.fields, s.dest))))

-- another test of the same is this one
pub alike_is : (a b : Binding) (t : Bool) → Decides t (IsAlike a b) → t ≡ is_alike a b
alike_is a b t d = same_from_decides t (is_alike a b) d (alike_tells a b)

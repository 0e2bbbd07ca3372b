-- Which names a set has, by its keys in order.
use Rattle.std.proofs.Common.{◌≡◌, List, [], ◌∷◌, ◌++◌, map, Bool, true, false, not, ◌||◌, refl, sym}
use Rattle.std.proofs.Common.{ap, ◌∙◌, ℕ, suc, ◌+◌, ◌<◌, length, take, get_or, arith}
use Rattle.std.proofs.Math.Seq.{take-suc}
use Rattle.std.specs.Prelude.{bytes_eq}
use Rattle.std.specs.BTreeSet.{insert_key}
use Rattle.std.specs.Cmp.Lexicographic.{slice_cmp, nat_list_eq_equiv}
use Rattle.std.specs.List.{list_any}
use Rattle.std.specs.Ordering.{nat_cmp, is_eq, match_ordering}
use Rattle.std.specs.declared.cmp.Ordering.{Ordering}
use Rattle.std.specs.declared.cmp.Ordering.TheVariants.{Less, Equal, Greater}
use Rattle.std.proofs.lemmas.Map.Text.{is_eq-slice_cmp}
use Rattle.std.proofs.lemmas.Slice.Eq.{bytes_eq-Decides}
use Rattle.tuple_values.specs.Document.{ByteList, is_named}
use Rattle.tuple_values.proofs.MapLemmas.{bytes_same}
use Rattle.sort_spec.specs.Texts.{once}
use Rattle.sort_spec.proofs.OnceLemmas.{once_known, once_new}

-- two tests in either order
either_order : (a b c : Bool) → (a || (b || c)) ≡ (b || (a || c))
either_order false b c = refl
either_order true false c = refl
either_order true true c = refl

-- a test that is there twice
twice : (a b : Bool) → (a || b) ≡ (a || (a || b))
twice false b = refl
twice true b = refl

-- keys are read by their bytes
module _ {K : Type 0} (bytes : K → ByteList) where
  abbrev key_cmp : K → K → Ordering
  key_cmp x y = slice_cmp nat_cmp (bytes x) (bytes y)

  -- one of the keys that compares equal is one of the name
  pub is_named-keys : (name : ByteList) (keys : List K)
      → list_any (λ key. is_eq (slice_cmp nat_cmp name (bytes key))) keys
      ≡ is_named name (map bytes keys)
  is_named-keys name [] = refl
  is_named-keys name (key ∷ keys) =
      let one : is_eq (slice_cmp nat_cmp name (bytes key)) ≡ bytes_eq (bytes key) name =
      is_eq-slice_cmp name (bytes key) ∙ nat_list_eq_equiv.symm name (bytes key) in
      let more = is_named-keys name keys in
      λ j. one j || more j

  -- with one more key the names are those before and its own
  pub is_named-insert : (name : ByteList) (new : K) (keys : List K)
      → is_named name (map bytes (insert_key key_cmp keys new))
      ≡ (bytes_eq (bytes new) name || is_named name (map bytes keys))
  is_named-insert name new [] = refl
  is_named-insert name new (key ∷ keys) =
      by (key_cmp new key) refl (is_named-insert name new keys) where
        by : (order : Ordering) → key_cmp new key ≡ order
            → is_named name (map bytes (insert_key key_cmp keys new))
            ≡ (bytes_eq (bytes new) name || is_named name (map bytes keys))
            → is_named name (map bytes
            (match_ordering order (new ∷ key ∷ keys) (key ∷ keys)
            (key ∷ insert_key key_cmp keys new)))
            ≡ (bytes_eq (bytes new) name || is_named name (map bytes (key ∷ keys)))
        by Less e later = refl
        by Equal e later =
            twice (bytes_eq (bytes key) name) (is_named name (map bytes keys))
            ∙ ap
            (λ b. bytes_eq b name || (bytes_eq (bytes key) name || is_named name (map bytes keys)))
            (sym (bytes_same (bytes new) (bytes key) e))
        by Greater e later =
            ap (λ (r : Bool). bytes_eq (bytes key) name || r) later
            ∙ either_order (bytes_eq (bytes key) name) (bytes_eq (bytes new) name)
            (is_named name (map bytes keys))

-- a name is among more names where it is the last one or among those before
pub is_named-push : (name word : ByteList) (names : List ByteList)
    → is_named name (names ++ (word ∷ [])) ≡ (bytes_eq word name || is_named name names)
is_named-push name word [] = refl
is_named-push name word (first ∷ names) =
    ap (λ (r : Bool). bytes_eq first name || r) (is_named-push name word names)
    ∙ either_order (bytes_eq first name) (bytes_eq word name) (is_named name names)

-- so with one more name two lists have the same names, where they had
pub same_names-push : (set more : List ByteList) (word : ByteList) (names : List ByteList)
    → ((name : ByteList) → is_named name set ≡ is_named name names)
    → ((name : ByteList) → is_named name more ≡ (bytes_eq word name || is_named name set))
    → (name : ByteList) → is_named name more ≡ is_named name (names ++ (word ∷ []))
same_names-push set more word names same added name =
    added name
    ∙ ap (λ (r : Bool). bytes_eq word name || r) (same name)
    ∙ sym (is_named-push name word names)

-- a name that is there changes nothing
pub same_names-known : (set more : List ByteList) (word : ByteList) (names : List ByteList)
    → ((name : ByteList) → is_named name set ≡ is_named name names)
    → ((name : ByteList) → is_named name more ≡ (bytes_eq word name || is_named name set))
    → is_named word names ≡ true
    → (name : ByteList) → is_named name more ≡ is_named name names
same_names-known set more word names same added known name =
    added name
    ∙ ap (λ (r : Bool). bytes_eq word name || r) (same name)
    ∙ by (bytes_eq word name) refl
  where
    by : (t : Bool) → bytes_eq word name ≡ t
        → (t || is_named name names) ≡ is_named name names
    by false e = refl
    by true e =
        sym (ap (λ w. is_named w names) (sym ((bytes_eq-Decides word name).0 e)) ∙ known)

-- names each once, and a set that has the same
abbrev pub IsOnceOf : List ByteList → List ByteList → List ByteList → Type 0
IsOnceOf written list set =
    (list ≡ once written) × ((name : ByteList) → is_named name set ≡ is_named name list)

-- a new name goes to the end of the list
pub once_of-new : (written list set more : List ByteList) (word : ByteList)
    → IsOnceOf written list set
    → ((name : ByteList) → is_named name more ≡ (bytes_eq word name || is_named name set))
    → true ≡ not (is_named word set)
    → IsOnceOf (written ++ (word ∷ [])) (list ++ (word ∷ [])) more
once_of-new written list set more word is added new = (
  once_new written list word is.0 (sym (is.1 word) ∙ absent (is_named word set) new),
  same_names-push set more word list is.1 added,
)
  where
    absent : (t : Bool) → true ≡ not t → t ≡ false
    absent false e = refl
    absent true e = absurd (cc)

-- another one changes nothing
pub once_of-known : (written list set more : List ByteList) (word : ByteList)
    → IsOnceOf written list set
    → ((name : ByteList) → is_named name more ≡ (bytes_eq word name || is_named name set))
    → false ≡ not (is_named word set)
    → IsOnceOf (written ++ (word ∷ [])) list more
once_of-known written list set more word is added known =
    let there : is_named word list ≡ true =
    sym (is.1 word) ∙ present (is_named word set) known in (
      once_known written list word is.0 there,
      same_names-known set more word list is.1 added there,
    )
  where
    present : (t : Bool) → false ≡ not t → t ≡ true
    present false e = absurd (cc)
    present true e = refl

-- the first names, one more
pub first_names-next : (names : List ByteList) (i : ℕ) (found word : ByteList) → i < length names
    → word ≡ get_or names i found → take (i + 1) names ≡ take i names ++ (word ∷ [])
first_names-next names i found word inside at =
    let next : i + 1 ≡ suc i = omega arith in
    ap (λ n. take n names) next
    ∙ (take-suc names i found inside ∙ ap (λ name. take i names ++ (name ∷ [])) (sym at))

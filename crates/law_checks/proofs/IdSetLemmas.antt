-- Which ids a set has, by its keys in order.
use Rattle.std.proofs.Common.{◌≡◌, List, [], ◌∷◌, map, Bool, true, false, ◌||◌, refl, sym}
use Rattle.std.proofs.Common.{ap, ◌∙◌}
use Rattle.std.specs.Prelude.{bytes_eq}
use Rattle.std.specs.BTreeSet.{insert_key}
use Rattle.std.specs.Cmp.Lexicographic.{slice_cmp, nat_list_eq_equiv}
use Rattle.std.specs.List.{list_any}
use Rattle.std.specs.Ordering.{nat_cmp, is_eq, match_ordering}
use Rattle.std.specs.declared.cmp.Ordering.{Ordering}
use Rattle.std.specs.declared.cmp.Ordering.TheVariants.{Less, Equal, Greater}
use Rattle.std.proofs.lemmas.Map.Text.{is_eq-slice_cmp}
use Rattle.tuple_values.specs.Document.{ByteList, is_named}
use Rattle.tuple_values.proofs.MapLemmas.{bytes_same}

-- two tests in either order
either_order : (a b c : Bool) → (a || (b || c)) ≡ (b || (a || c))
either_order false b c = refl
either_order true false c = refl
either_order true true c = refl

-- a test that is there twice
twice : (a b : Bool) → (a || b) ≡ (a || (a || b))
twice false b = refl
twice true b = refl

-- keys are read by their bytes
module _ {K : Type 0} (bytes : K → ByteList) where
  abbrev key_cmp : K → K → Ordering
  key_cmp x y = slice_cmp nat_cmp (bytes x) (bytes y)

  -- one of the keys that compares equal is one of the name
  pub is_named-keys : (name : ByteList) (keys : List K)
      → list_any (λ key. is_eq (slice_cmp nat_cmp name (bytes key))) keys
      ≡ is_named name (map bytes keys)
  is_named-keys name [] = refl
  is_named-keys name (key ∷ keys) =
      let one : is_eq (slice_cmp nat_cmp name (bytes key)) ≡ bytes_eq (bytes key) name =
      is_eq-slice_cmp name (bytes key) ∙ nat_list_eq_equiv.symm name (bytes key) in
      let more = is_named-keys name keys in
      λ j. one j || more j

  -- with one more key the names are those before and its own
  pub is_named-insert : (name : ByteList) (new : K) (keys : List K)
      → is_named name (map bytes (insert_key key_cmp keys new))
      ≡ (bytes_eq (bytes new) name || is_named name (map bytes keys))
  is_named-insert name new [] = refl
  is_named-insert name new (key ∷ keys) =
      by (key_cmp new key) refl (is_named-insert name new keys) where
        by : (order : Ordering) → key_cmp new key ≡ order
            → is_named name (map bytes (insert_key key_cmp keys new))
            ≡ (bytes_eq (bytes new) name || is_named name (map bytes keys))
            → is_named name (map bytes
            (match_ordering order (new ∷ key ∷ keys) (key ∷ keys)
            (key ∷ insert_key key_cmp keys new)))
            ≡ (bytes_eq (bytes new) name || is_named name (map bytes (key ∷ keys)))
        by Less e later = refl
        by Equal e later =
            twice (bytes_eq (bytes key) name) (is_named name (map bytes keys))
            ∙ ap
            (λ b. bytes_eq b name || (bytes_eq (bytes key) name || is_named name (map bytes keys)))
            (sym (bytes_same (bytes new) (bytes key) e))
        by Greater e later =
            ap (λ (r : Bool). bytes_eq (bytes key) name || r) later
            ∙ either_order (bytes_eq (bytes key) name) (bytes_eq (bytes new) name)
            (is_named name (map bytes keys))

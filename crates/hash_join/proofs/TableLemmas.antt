-- What the buckets of a map are, after the bucket of one key was changed.
use Rattle.std.proofs.Common.{◌≡◌, List, [], ◌∷◌, ◌++◌, Some, Bool, true, false}
use Rattle.std.proofs.Common.{if◌then◌else◌, refl, ap, sym, subst, ◌∙◌}
use Rattle.std.specs.Prelude.{bytes_eq}
use Rattle.std.specs.Cmp.Lexicographic.{bytes_decides, nat_list_eq_equiv}
use Rattle.std.specs.HashMap.{HashMap, UpdatesBy, get_by}
use Rattle.std.specs.Map.{lookup, IsKeyTest, AreApart, KeepsOthers}
use Rattle.std.specs.Option.{option_map_or}
use Rattle.tuple_values.specs.Document.{ByteList, Doc}

-- what is looked up under another key stays
other_entries : {K X : Type 0} (eq : K → K → Bool) (test : K → Bool) (old new : List (K × X))
    → KeepsOthers eq test old new → (other : K → Bool) → IsKeyTest eq other → AreApart test other
    → lookup other new ≡ lookup other old
unfolding KeepsOthers
other_entries eq test old new h = h

-- bytes that equal the one aren't equal to the other
apart : (key other bytes : ByteList) → bytes_eq key other ≡ false → bytes_eq key bytes ≡ true
    → bytes_eq other bytes ≡ false
apart key other bytes differs meets =
    nat_list_eq_equiv.symm other bytes ∙ sym (nat_list_eq_equiv.congr key bytes other meets)
    ∙ differs

-- keys are read by their bytes, and what stands under them as documents
module _ {K X S : Type 0} (bytes : K → ByteList) (docs : X → List Doc) (m n : HashMap K X S) where
  -- the documents under a key
  abbrev under : HashMap K X S → ByteList → List Doc
  under map key = option_map_or docs (get_by (λ k. bytes_eq key (bytes k)) map) []

  -- where those of one key and one more were put under it, all others stay
  pub added_under : (key : ByteList) (doc : Doc) (made : X)
      → UpdatesBy (λ x y. bytes_eq (bytes x) (bytes y)) (λ k. bytes_eq key (bytes k)) m n
      (Some made)
      → docs made ≡ under m key ++ doc ∷ [] → (other : ByteList)
      → under n other ≡ (if bytes_eq key other then under m other ++ doc ∷ [] else under m other)
  added_under key doc made h e other = by (bytes_eq key other) refl
    where
      by : (b : Bool) → bytes_eq key other ≡ b
          → under n other ≡ (if b then under m other ++ doc ∷ [] else under m other)
      by true same =
          subst (λ w. under n w ≡ under m w ++ doc ∷ []) ((bytes_decides key other).0 same)
          (ap (λ w. option_map_or docs w []) h.1 ∙ e)
      by false differs =
          ap (λ w. option_map_or docs w [])
          (other_entries _ _ m.entries n.entries h.3 (λ k. bytes_eq other (bytes k))
          (λ x y. nat_list_eq_equiv.congr other (bytes x) (bytes y))
          (λ k. apart key other (bytes k) differs))

-- Documents whose names rise, as they are read and written.
use Rattle.std.proofs.Common.{◌≡◌, ℕ, zero, suc, ◌+◌, ◌-◌, ◌<◌, Bool, true, false, ◌||◌, [], ◌∷◌, ◌++◌, length, get_or, refl, sym, ◌∙◌, ap, arith}
use Rattle.std.specs.declared.cmp.Ordering.{Ordering}
use Rattle.std.specs.declared.cmp.Ordering.TheVariants.{Less}
use Rattle.tuple_values.specs.Document.{ByteList, bytes_cmp, Datum, text, Doc, IsBelow, Rises, put}
use Rattle.tuple_values.proofs.BytesLemmas.{less_trans}
use Rattle.shard_versions.specs.Documents.{has_group, is_group}
use Rattle.log_codec.specs.Documents.{AreBelow}

-- each name is below a name that the last one is below
pub below-last : (document : Doc) (name : ByteList) (k : ℕ) (d : ByteList × Datum) → Rises document → length document ≡ k + 1
    → bytes_cmp (get_or document k d).0 name ≡ Less → AreBelow document name
below-last [] name k d rises long less = absurd (omega (arith, long))
below-last (f ∷ []) name zero d rises long less = (less, tt)
below-last (f ∷ []) name (suc k) d rises long less = absurd (omega (arith, long))
below-last (f ∷ g ∷ document) name zero d rises long less = absurd (omega (arith, long))
below-last (f ∷ g ∷ document) name (suc k) d rises long less =
    let others = below-last (g ∷ document) name k d rises.1 (omega (arith, long)) less in
    (less_trans f.0 g.0 name rises.0.0 others.0, others)

-- a name of the document is below
pub below-at : (document : Doc) (name : ByteList) (k : ℕ) (d : ByteList × Datum) → AreBelow document name → k < length document
    → bytes_cmp (get_or document k d).0 name ≡ Less
below-at [] name k d all low = absurd (omega (arith, low))
below-at (f ∷ document) name zero d all low = all.0
below-at (f ∷ document) name (suc k) d all low = below-at document name k d all.1 (omega (arith, low))

-- a value under a name above all stands last
pub put-last : (document : Doc) (name : ByteList) (value : Datum) → AreBelow document name → put name value document ≡ document ++ (name, value) ∷ []
put-last [] name value all = refl
put-last (f ∷ document) name value all = rw all.0 (ap (λ (r : Doc). f ∷ r) (put-last document name value all.1))

-- a field below the first one's name and the last
below-push : (low : ByteList) (document : Doc) (field : ByteList × Datum) → IsBelow low document → bytes_cmp low field.0 ≡ Less → IsBelow low (document ++ field ∷ [])
below-push low [] field below less = (less, tt)
below-push low (f ∷ document) field below less = (below.0, below-push low document field below.1 less)

-- one more name above all
pub rises-push : (document : Doc) (field : ByteList × Datum) → Rises document → AreBelow document field.0 → Rises (document ++ field ∷ [])
rises-push [] field rises all = (tt, tt)
rises-push (f ∷ document) field rises all = (below-push f.0 document field rises.0 all.0, rises-push document field rises.1 all.1)

-- a name is below those that follow it
below-middle : (low : ByteList) (some more : Doc) (field : ByteList × Datum) → IsBelow low (some ++ field ∷ more) → bytes_cmp low field.0 ≡ Less
below-middle low [] more field below = below.0
below-middle low (f ∷ some) more field below = below-middle low some more field below.1

-- the names before one are below it
pub below-front : (some more : Doc) (field : ByteList × Datum) → Rises (some ++ field ∷ more) → AreBelow some field.0
below-front [] more field rises = tt
below-front (f ∷ some) more field rises = (below-middle f.0 some more field rises.0, below-front some more field rises.1)

-- where no field holds a group, the field at a place doesn't
pub no_group-at : (document : Doc) (k : ℕ) (d : ByteList × Datum) → has_group document ≡ false → k < length document → is_group (get_or document k d).1 ≡ false
no_group-at [] k d none low = absurd (omega (arith, low))
no_group-at (f ∷ document) zero d none low = first (is_group f.1) (has_group document) none
  where
    first : (a b : Bool) → (a || b) ≡ false → a ≡ false
    first true b e = e
    first false b e = refl
no_group-at (f ∷ document) (suc k) d none low = no_group-at document k d (second (is_group f.1) (has_group document) none) (omega (arith, low))
  where
    second : (a b : Bool) → (a || b) ≡ false → b ≡ false
    second true b e = cc
    second false b e = e

-- whether the names are below one is told by how the last of them compares
pub below-by_last : (document : Doc) (name last : ByteList) (count : ℕ) (how : Ordering) → Rises document → count ≡ length document → 0 < count
    → ((d : ByteList × Datum) → last ≡ (get_or document (count - 1) d).0) → bytes_cmp last name ≡ how
    → (how ≡ Less → AreBelow document name) × (AreBelow document name → how ≡ Less)
below-by_last document name last count how rises long some is compares = (
  λ less. below-last document name (count - 1) none rises (omega arith) (ap (λ (l : ByteList). bytes_cmp l name) (sym (is none)) ∙ compares ∙ less),
  λ all. sym compares ∙ ap (λ (l : ByteList). bytes_cmp l name) (is none) ∙ below-at document name (count - 1) none all (omega arith),
)
  where
    none : ByteList × Datum
    none = ([], text [])

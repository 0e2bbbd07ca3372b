-- What a read and an edit of a tuple's fields are for its document.
use Rattle.std.proofs.Common.{◌≡◌, ℕ, zero, suc, List, [], ◌∷◌, get_or, set, Some, refl, ap, sym, ◌∙◌, subst, Bool, true, false, cond, filter}
use Rattle.std.proofs.lemmas.Map.Lookups.{exact_bytes}
use Rattle.std.specs.List.{insert, remove}
use Rattle.tuple_values.specs.Document.{ByteList, Datum, Doc, Rises, IsAt, IsGap, value_at, put, without}
use Rattle.tuple_values.specs.Views.{datum_of, pair_of, doc_of}
use Rattle.tuple_values.specs.declared.value.Field.{Field}
use Rattle.tuple_values.proofs.DocumentLemmas.{rises-filter, value_found, put_found, put_absent, without_found, put_rises, without_rises}

-- documents of edited fields
doc-get : (fs : List Field) (i : ℕ) (f : Field) → get_or (doc_of fs) i (pair_of f) ≡ pair_of (get_or fs i f)
doc-get [] i f = refl
doc-get (g ∷ fs) zero f = refl
doc-get (g ∷ fs) (suc i) f = doc-get fs i f

doc-set : (fs : List Field) (i : ℕ) (f : Field) → doc_of (set fs i f) ≡ set (doc_of fs) i (pair_of f)
doc-set [] i f = refl
doc-set (g ∷ fs) zero f = refl
doc-set (g ∷ fs) (suc i) f = ap (λ (d : Doc). pair_of g ∷ d) (doc-set fs i f)

doc-insert : (fs : List Field) (i : ℕ) (f : Field) → doc_of (insert fs i f) ≡ insert (doc_of fs) i (pair_of f)
doc-insert fs zero f = refl
doc-insert [] (suc i) f = refl
doc-insert (g ∷ fs) (suc i) f = ap (λ (d : Doc). pair_of g ∷ d) (doc-insert fs i f)

doc-remove : (fs : List Field) (i : ℕ) → doc_of (remove fs i) ≡ remove (doc_of fs) i
doc-remove [] zero = refl
doc-remove [] (suc i) = refl
doc-remove (g ∷ fs) zero = refl
doc-remove (g ∷ fs) (suc i) = ap (λ (d : Doc). pair_of g ∷ d) (doc-remove fs i)

pub got : (n : ByteList) (fs : List Field) (i : ℕ) (f : Field) → IsAt n i (doc_of fs) → value_at n (doc_of fs) ≡ Some (datum_of (get_or fs i f).value)
got n fs i f at = value_found n i (doc_of fs) (pair_of f) at ∙ ap (λ (p : ByteList × Datum). Some p.1) (doc-get fs i f)

-- the field at the place of a name has this name
pub named : (n : ByteList) (fs : List Field) (i : ℕ) (f : Field) → IsAt n i (doc_of fs)
    → (get_or fs i f).name ≡ n
named n [] i f at = absurd at
named n (g ∷ fs) zero f at = exact_bytes g.name n at
named n (g ∷ fs) (suc i) f at = named n fs i f at.1

pub set_at : (fs : List Field) (i : ℕ) (f : Field) → IsAt f.name i (doc_of fs) → doc_of (set fs i f) ≡ put f.name (datum_of f.value) (doc_of fs)
set_at fs i f at = doc-set fs i f ∙ sym (put_found f.name (datum_of f.value) i (doc_of fs) at)

pub set_rises : (fs : List Field) (i : ℕ) (f : Field) → IsAt f.name i (doc_of fs) → Rises (doc_of fs) → Rises (doc_of (set fs i f))
set_rises fs i f at rises = subst Rises (sym (set_at fs i f at)) (put_rises f.name (datum_of f.value) (doc_of fs) rises)

pub insert_at : (fs : List Field) (i : ℕ) (f : Field) → IsGap f.name i (doc_of fs) → doc_of (insert fs i f) ≡ put f.name (datum_of f.value) (doc_of fs)
insert_at fs i f gap = doc-insert fs i f ∙ sym (put_absent f.name (datum_of f.value) i (doc_of fs) gap)

pub insert_rises : (fs : List Field) (i : ℕ) (f : Field) → IsGap f.name i (doc_of fs) → Rises (doc_of fs) → Rises (doc_of (insert fs i f))
insert_rises fs i f gap rises = subst Rises (sym (insert_at fs i f gap)) (put_rises f.name (datum_of f.value) (doc_of fs) rises)

pub remove_at : (n : ByteList) (fs : List Field) (i : ℕ) → IsAt n i (doc_of fs) → doc_of (remove fs i) ≡ without n (doc_of fs)
remove_at n fs i at = doc-remove fs i ∙ sym (without_found n i (doc_of fs) at)

pub remove_rises : (n : ByteList) (fs : List Field) (i : ℕ) → IsAt n i (doc_of fs) → Rises (doc_of fs) → Rises (doc_of (remove fs i))
remove_rises n fs i at rises = subst Rises (sym (remove_at n fs i at)) (without_rises n (doc_of fs) rises)

-- the fields that pass a test of their names
filtered : (p : ByteList → Bool) (f : Field) (fs : List Field) (d : Doc) → doc_of fs ≡ d → (b : Bool) → doc_of (cond b (f ∷ fs) fs) ≡ cond b (pair_of f ∷ d) d
filtered p f fs d e true = ap (λ (d : Doc). pair_of f ∷ d) e
filtered p f fs d e false = e

pub doc-filter : (p : ByteList → Bool) (fs : List Field) → doc_of (filter (λ f. p f.name) fs) ≡ filter (λ f. p f.0) (doc_of fs)
doc-filter p [] = refl
doc-filter p (f ∷ fs) = filtered p f (filter (λ f. p f.name) fs) (filter (λ f. p f.0) (doc_of fs)) (doc-filter p fs) (p f.name)

pub filter_rises : (p : ByteList → Bool) (fs : List Field) → Rises (doc_of fs) → Rises (doc_of (filter (λ f. p f.name) fs))
filter_rises p fs rises = subst Rises (sym (doc-filter p fs)) (rises-filter (λ f. p f.0) (doc_of fs) rises)

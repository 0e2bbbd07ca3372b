-- What a binary search finds among the fields of a tuple.
use Rattle.std.proofs.Common.{◌≡◌, ℕ, zero, suc, ◌<◌, ◌≤◌, pos, List, [], ◌∷◌, length, get_or, Result, Ok, Err, IfOk, IfErr, sym, ◌∙◌, arith}
use Rattle.std.specs.List.Sorted.{IsSearchInRange, IsBinarySearchResult, IsNonDecreasingBy}
use Rattle.std.specs.Ordering.{ordering_index}
use Rattle.std.specs.declared.cmp.Ordering.TheVariants.{Less, Equal, Greater}
use Rattle.tuple_values.specs.Document.{ByteList, bytes_cmp, IsBelow, Rises, IsAt, IsGap}
use Rattle.tuple_values.specs.Views.{doc_of}
use Rattle.tuple_values.specs.declared.value.Value.TheVariants.{Long}
use Rattle.tuple_values.specs.declared.value.Field.{Field}
use Rattle.tuple_values.proofs.BytesLemmas.{greater_back, same_right, rises_by}

-- each later name is above
below_at : (n : ByteList) (fs : List Field) → IsBelow n (doc_of fs) → (j : ℕ) (d : Field) → j < length fs → bytes_cmp n (get_or fs j d).name ≡ Less
below_at n [] below j d lt = absurd (omega arith)
below_at n (f ∷ fs) below zero d lt = below.0
below_at n (f ∷ fs) below (suc j) d lt = below_at n fs below.1 j d (omega arith)

-- the comparisons with a name rise
comparisons_rise : (n : ByteList) (fs : List Field) → Rises (doc_of fs) → IsNonDecreasingBy (λ f. ordering_index (bytes_cmp f.name n)) fs
comparisons_rise n [] rises i j d le lt = absurd (omega arith)
comparisons_rise n (f ∷ fs) rises zero zero d le lt = omega arith
comparisons_rise n (f ∷ fs) rises zero (suc j) d le lt = rises_by f.name (get_or fs j d).name n (below_at f.name fs rises.0 j d (omega arith))
comparisons_rise n (f ∷ fs) rises (suc i) zero d le lt = absurd (omega arith)
comparisons_rise n (f ∷ fs) rises (suc i) (suc j) d le lt = comparisons_rise n fs rises.1 i j d (omega arith) (omega arith)

any_field : Field
any_field = record { name = []; value = Long (pos 0) }

at_from : (n : ByteList) (fs : List Field) → Rises (doc_of fs) → (i : ℕ) → i < length fs → bytes_cmp (get_or fs i any_field).name n ≡ Equal → IsAt n i (doc_of fs)
at_from n [] rises i lt same = absurd (omega arith)
at_from n (f ∷ fs) rises zero lt same = same
at_from n (f ∷ fs) rises (suc i) lt same =
    (sym (same_right f.name (get_or fs i any_field).name n same) ∙ below_at f.name fs rises.0 i any_field (omega arith), at_from n fs rises.1 i (omega arith) same)

all_above : (n : ByteList) (fs : List Field) → ((k : ℕ) → k < length fs → bytes_cmp (get_or fs k any_field).name n ≡ Greater) → IsBelow n (doc_of fs)
all_above n [] above = tt
all_above n (f ∷ fs) above = (greater_back f.name n (above 0 (omega arith)), all_above n fs (λ k lt. above (suc k) (omega arith)))

gap_from : (n : ByteList) (fs : List Field) (i : ℕ) → i ≤ length fs → ((k : ℕ) → k < i → bytes_cmp (get_or fs k any_field).name n ≡ Less) → ((k : ℕ) → i ≤ k → k < length fs → bytes_cmp (get_or fs k any_field).name n ≡ Greater) → IsGap n i (doc_of fs)
gap_from n fs zero le below above = all_above n fs (λ k lt. above k (omega arith) lt)
gap_from n [] (suc i) le below above = absurd (omega arith)
gap_from n (f ∷ fs) (suc i) le below above =
    (below 0 (omega arith), gap_from n fs i (omega arith) (λ k lt. below (suc k) (omega arith)) (λ k le' lt. above (suc k) (omega arith) (omega arith)))

pub searched : (n : ByteList) (fs : List Field) → Rises (doc_of fs) → (r : Result ℕ ℕ) → IsSearchInRange r (length fs) → IsBinarySearchResult (λ f. bytes_cmp f.name n) fs r
    → record { found : IfOk r (λ at. IsAt n at (doc_of fs)); absent : IfErr r (λ at. IsGap n at (doc_of fs)) }
searched n fs rises (Ok at) lt equal = record { found = at_from n fs rises at lt (equal any_field); absent = tt }
searched n fs rises (Err at) le parted =
    let parts = parted (comparisons_rise n fs rises) in
    record { found = tt; absent = gap_from n fs at le (λ k lt. parts.0 k any_field (omega arith) lt) (λ k le' lt. parts.1 k any_field le' lt) }

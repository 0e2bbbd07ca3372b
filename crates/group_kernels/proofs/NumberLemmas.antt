-- Sums and extremes, number by number.
use Rattle.std.proofs.Common.{◌≡◌, ℕ, ◌+◌, ◌<◌, List, [], ◌∷◌, ◌++◌, length, take, get_or, fold}
use Rattle.std.proofs.Common.{Option, Some, None, refl, sym, ◌∙◌, ap}
use Rattle.std.specs.Prelude.{ℤ, pos, ◌+ℤ◌}
use Rattle.std.specs.Int.{w64, int_wrap}
use Rattle.std.specs.List.{cons_option}
use Rattle.std.proofs.lemmas.Int.{int_wrap-add_left}
use Rattle.std.proofs.lemmas.List.{append-nil, take_more}
use Rattle.std.proofs.lemmas.List.Elements.{filter_map-append}
use Rattle.std.proofs.lemmas.List.Sums.{fold-append}
use Rattle.tuple_values.specs.Document.{ByteList, Doc, value_at}
use Rattle.expr_types.specs.Groups.{wrapped_sum, foremost, numbers_of, long_in}
use Rattle.group_kernels.specs.Numbers.{added, nearer}

-- a sum that wraps on the way is the sum that wraps at the end
wrapped_sum-append : (numbers : List ℤ) (n : ℤ)
    → wrapped_sum (numbers ++ n ∷ []) ≡ int_wrap w64 (wrapped_sum numbers +ℤ n)
wrapped_sum-append numbers n =
    let plus = λ (a b : ℤ). a +ℤ b in
    ap (int_wrap w64) (fold-append plus (pos 0) numbers (n ∷ []))
    ∙ sym (int_wrap-add_left w64 (fold plus (pos 0) numbers) n)

-- one more number, if there is one
wrapped_sum-maybe : (numbers : List ℤ) (n : Option ℤ)
    → wrapped_sum (numbers ++ cons_option n []) ≡ added (wrapped_sum numbers) n
wrapped_sum-maybe numbers None = ap wrapped_sum (append-nil numbers)
wrapped_sum-maybe numbers (Some n) = wrapped_sum-append numbers n

-- the same for the least or the greatest
foremost-maybe : (of_two : ℤ → ℤ → ℤ) (numbers : List ℤ) (n : Option ℤ)
    → foremost of_two (numbers ++ cons_option n []) ≡ nearer of_two (foremost of_two numbers) n
foremost-maybe of_two numbers None = ap (foremost of_two) (append-nil numbers)
foremost-maybe of_two [] (Some n) = refl
foremost-maybe of_two (m ∷ numbers) (Some n) = ap Some (fold-append of_two m numbers (n ∷ []))

-- the numbers up to a document and the one of that
numbers_of-more : (field : ByteList) (docs : List Doc) (i : ℕ) (doc : Doc) → i < length docs
    → doc ≡ get_or docs i doc
    → numbers_of field (take (i + 1) docs)
    ≡ numbers_of field (take i docs) ++ cons_option (long_in (value_at field doc)) []
numbers_of-more field docs i doc h at =
    ap (numbers_of field) (take_more docs i doc h)
    ∙ filter_map-append (λ d. long_in (value_at field d)) (take i docs) (get_or docs i doc ∷ [])
    ∙ ap (λ d. numbers_of field (take i docs) ++ cons_option (long_in (value_at field d)) [])
    (sym at)

-- so the sum of those
pub sum_on_place : (field : ByteList) (docs : List Doc) (i : ℕ) (doc : Doc) (sum : ℤ)
    → i < length docs → doc ≡ get_or docs i doc
    → sum ≡ wrapped_sum (numbers_of field (take i docs))
    → added sum (long_in (value_at field doc)) ≡ wrapped_sum (numbers_of field (take (i + 1) docs))
sum_on_place field docs i doc sum h at so_far =
    ap (λ s. added s (long_in (value_at field doc))) so_far
    ∙ sym (wrapped_sum-maybe (numbers_of field (take i docs)) (long_in (value_at field doc)))
    ∙ ap wrapped_sum (sym (numbers_of-more field docs i doc h at))

-- and the least or the greatest
pub foremost_on_place : (of_two : ℤ → ℤ → ℤ) (field : ByteList) (docs : List Doc) (i : ℕ)
    (doc : Doc) (best : Option ℤ) → i < length docs → doc ≡ get_or docs i doc
    → best ≡ foremost of_two (numbers_of field (take i docs))
    → nearer of_two best (long_in (value_at field doc))
    ≡ foremost of_two (numbers_of field (take (i + 1) docs))
foremost_on_place of_two field docs i doc best h at so_far =
    ap (λ b. nearer of_two b (long_in (value_at field doc))) so_far
    ∙ sym (foremost-maybe of_two (numbers_of field (take i docs)) (long_in (value_at field doc)))
    ∙ ap (foremost of_two) (sym (numbers_of-more field docs i doc h at))

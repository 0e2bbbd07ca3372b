-- What one more field tells of the length of the body, and one more digit of a number.
use Rattle.std.proofs.Common.{◌≡◌, ℕ, ◌+◌, ◌-◌, ◌<◌, ◌≤◌, ◌^◌, ◌&&◌, Bool, true, false, cond, eqb, List, [], ◌∷◌, ◌++◌, length, map, filter, take, get_or, Some, None, refl, ap, ◌∙◌, arith, append-nil, length-take}
use Rattle.std.specs.Prelude.{codes, nat_lt, nat_le, zero, suc}
use Rattle.std.specs.List.{list_all}
use Rattle.std.specs.Char.{is_ascii_digit, digit_value}
use Rattle.std.specs.Str.{all_ascii_digits}
use Rattle.std.specs.Str.Parse.{digits_value}
use Rattle.std.proofs.lemmas.List.{take_more, map-append}
use Rattle.std.proofs.lemmas.List.Elements.{filter-append}
use Rattle.std.proofs.lemmas.Str.Parse.{IsNumeralModel, numerals_by_value, tells_all_ascii_digits, digits_value_short, digit_from_value}
use Rattle.std.proofs.lemmas.Str.{digit_value_digit}
use Rattle.std.proofs.lemmas.Bool.Decides.{nat_tests}
use Rattle.httparse.specs.Spans.{header_bytes}
use Rattle.httparse.specs.declared.spans.HeaderSpan.{HeaderSpan}
use Rattle.form_request.specs.Fields.{FieldList, fields_at, is_word, is_number, is_alike, number_of, lengths, told, length_of, after_value, after_field}
use Rattle.form_request.specs.declared.fields.Length.TheVariants.{Unclear, Given}

-- a list of tests with one more at its end
list_all-push : (p : List ℕ → Bool) (xs : List (List ℕ)) (x : List ℕ)
    → list_all p (xs ++ x ∷ []) ≡ (list_all p xs && p x)
list_all-push p [] x = and_true (p x)
  where
    and_true : (b : Bool) → (b && true) ≡ (true && b)
    and_true true = refl
    and_true false = refl
list_all-push p (y ∷ xs) x = by_test (p y) (list_all-push p xs x)
  where
    by_test : (b : Bool) → list_all p (xs ++ x ∷ []) ≡ (list_all p xs && p x)
        → (b && list_all p (xs ++ x ∷ [])) ≡ ((b && list_all p xs) && p x)
    by_test true same = same
    by_test false same = refl

eqb-same : (n : ℕ) → eqb n n ≡ true
eqb-same n = grind (arith, nat_tests)

-- what values tell, with one more at their end
pub told-push : (values : List (List ℕ)) (value : List ℕ)
    → told (values ++ value ∷ []) ≡ after_value value (told values)
told-push [] value =
    rw eqb-same (by_test (is_number value))
  where
    by_test : (b : Bool) → cond ((b && true) && true) (Given (digits_value 10 value)) Unclear
        ≡ cond b (Given (digits_value 10 value)) Unclear
    by_test true = refl
    by_test false = refl
told-push (first ∷ values) value =
    rw (list_all-push (is_alike first) (first ∷ values) value)
    (by_test (list_all (is_alike first) (first ∷ values)))
  where
    by_test : (b : Bool)
        → cond (b && is_alike first value) (Given (digits_value 10 first)) Unclear
        ≡ after_value value (cond b (Given (digits_value 10 first)) Unclear)
    by_test true = refl
    by_test false = refl

-- what fields tell, with one more at their end
pub length_of-push : (fields : FieldList) (field : List ℕ × List ℕ)
    → length_of (fields ++ field ∷ []) ≡ after_field field (length_of fields)
length_of-push fields field =
    let test : List ℕ × List ℕ → Bool = λ f. is_word f.0 (codes "content-length") in
    let value : List ℕ × List ℕ → List ℕ = λ f. f.1 in
    ap told (ap (map value) (filter-append test fields (field ∷ []))
    ∙ map-append value (filter test fields) (filter test (field ∷ [])))
    ∙ by_test (test field)
  where
    by_test : (b : Bool)
        → told (lengths fields ++ map (λ f. f.1) (cond b (field ∷ []) []))
        ≡ cond b (after_value field.1 (length_of fields)) (length_of fields)
    by_test true = told-push (lengths fields) field.1
    by_test false = ap told (append-nil (lengths fields))

-- what the fields up to a place tell, with the one at the place
pub length_of-more : (head : List ℕ) (spans : List HeaderSpan) (place : ℕ) (other : HeaderSpan)
    → place < length spans
    → length_of (fields_at head (take (place + 1) spans))
    ≡ after_field (header_bytes head (get_or spans place other)) (length_of (fields_at head (take place spans)))
length_of-more head spans place other inside =
    ap (λ some. length_of (fields_at head some)) (take_more spans place other inside)
    ∙ ap length_of (map-append (header_bytes head) (take place spans) (get_or spans place other ∷ []))
    ∙ length_of-push (fields_at head (take place spans)) (header_bytes head (get_or spans place other))

-- digits with one more at their end are digits
pub all_ascii_digits-push : (digits : List ℕ) (digit : ℕ) → all_ascii_digits digits ≡ true
    → is_ascii_digit digit ≡ true → all_ascii_digits (digits ++ digit ∷ []) ≡ true
all_ascii_digits-push [] digit all is = rw is refl
all_ascii_digits-push (d ∷ digits) digit all is =
    by_test (is_ascii_digit d) (λ rest. all_ascii_digits-push digits digit rest is) all
  where
    by_test : (b : Bool)
        → (all_ascii_digits digits ≡ true → all_ascii_digits (digits ++ digit ∷ []) ≡ true)
        → (b && all_ascii_digits digits) ≡ true
        → (b && all_ascii_digits (digits ++ digit ∷ [])) ≡ true
    by_test true later all = later all
    by_test false later all = all

pub all_ascii_digits-more : (bytes : List ℕ) (place : ℕ) → place < length bytes
    → all_ascii_digits (take place bytes) ≡ true → is_ascii_digit (get_or bytes place 0) ≡ true
    → all_ascii_digits (take (place + 1) bytes) ≡ true
all_ascii_digits-more bytes place inside all is =
    ap all_ascii_digits (take_more bytes place 0 inside)
    ∙ all_ascii_digits-push (take place bytes) (get_or bytes place 0) all is

own : IsNumeralModel (λ ds. all_ascii_digits ds ≡ true) (digits_value 10)
own = numerals_by_value _ tells_all_ascii_digits

-- a number of up to 18 digits is small
pub digits-small : (bytes : List ℕ) (place : ℕ) → place ≤ 18 → all_ascii_digits (take place bytes) ≡ true
    → digits_value 10 (take place bytes) < 10 ^ 18
digits-small bytes place few all =
    digits_value_short own (take place bytes) 18 all (omega (arith, length-take place bytes))

-- a digit's value is what it is above 48
pub digit-value : (c : ℕ) → digit_value c < 10 → (digit_value c ≡ c - 48) × (c - 48 < 10)
digit-value c small =
    let e = digit_value_digit c (digit_from_value c small) in
    (omega arith, omega arith)

-- the span of an array that isn't written yet
abbrev pub no_span : HeaderSpan
no_span = record {
  name = record { start = 0; end = 0 };
  value = record { start = 0; end = 0 };
}

-- a byte that is no digit keeps the bytes from being digits
all_ascii_digits-at : (bytes : List ℕ) (place : ℕ) → place < length bytes
    → is_ascii_digit (get_or bytes place 0) ≡ false → all_ascii_digits bytes ≡ false
all_ascii_digits-at [] place inside other = absurd (omega arith)
all_ascii_digits-at (b ∷ bytes) zero inside other = rw other refl
all_ascii_digits-at (b ∷ bytes) (suc place) inside other =
    by_test (is_ascii_digit b) (all_ascii_digits-at bytes place (omega arith) other)
  where
    by_test : (t : Bool) → all_ascii_digits bytes ≡ false → (t && all_ascii_digits bytes) ≡ false
    by_test true later = later
    by_test false later = refl

-- and from being a number
pub number_of-other : (bytes : List ℕ) (place : ℕ) → place < length bytes
    → is_ascii_digit (get_or bytes place 0) ≡ false → None ≡ number_of bytes
number_of-other bytes place inside other =
    rw (all_ascii_digits-at bytes place inside other)
    (by_test (nat_lt 0 (length bytes)) (nat_le (length bytes) 19))
  where
    by_test : (s t : Bool) → None ≡ cond ((s && t) && false) (Some (digits_value 10 bytes)) None
    by_test true true = refl
    by_test true false = refl
    by_test false t = refl

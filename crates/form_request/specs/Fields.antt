-- What the fields of a head say (RFC 9110, sections 7.6.1, 8.6 and 10.1.1; RFC 9112, section 6.3).
use Rattle.std.specs.Prelude.{ℕ, ◌&&◌, ◌==◌, nat_lt, nat_le, Bool, true, List, [], ◌∷◌, length, map, filter, Option, None, Some, codes, if◌then◌else◌}
use Rattle.std.specs.List.{list_any, list_all, slice_split}
use Rattle.std.specs.Str.{str_eq_ignore_ascii_case, all_ascii_digits}
use Rattle.std.specs.Str.Parse.{digits_value}
use Rattle.httparse.specs.Ascii.{comma}
use Rattle.httparse.specs.Grammar.{trim_ows}
use Rattle.httparse.specs.Spans.{header_bytes}
use Rattle.httparse.specs.declared.spans.HeaderSpan.{HeaderSpan}
use Rattle.form_request.specs.declared.fields.Want.{Want}
use Rattle.form_request.specs.declared.fields.Want.TheVariants.{Anything, Continue, Close}
use Rattle.form_request.specs.declared.fields.Length.{Length}
use Rattle.form_request.specs.declared.fields.Length.TheVariants.{Absent, Unclear, Given}

-- a field is its name and its value
abbrev pub FieldList : Type 0
FieldList = List (List ℕ × List ℕ)

-- the fields that the spans cover
abbrev pub fields_at : List ℕ → List HeaderSpan → FieldList
fields_at head spans = map (header_bytes head) spans

-- two texts differ at most in the case of ASCII letters
abbrev pub is_word : List ℕ → List ℕ → Bool
is_word a b = str_eq_ignore_ascii_case a b

-- an item of the list that commas part is `close`
abbrev pub lists_close : List ℕ → Bool
lists_close value =
    list_any (λ item. is_word (trim_ows item) (codes "close")) (slice_split (λ b. b == comma) value)

-- the value is such a one
abbrev pub meets : Want → List ℕ → Bool
meets Anything value = true
meets Continue value = is_word value (codes "100-continue")
meets Close value = lists_close value

-- there is a field of this name, in any case of letters, with such a value
abbrev pub has : List ℕ → Want → FieldList → Bool
has name want fields = list_any (λ f. is_word f.0 name && meets want f.1) fields

-- 1 to 19 digits
abbrev pub is_number : List ℕ → Bool
is_number value = nat_lt 0 (length value) && nat_le (length value) 19 && all_ascii_digits value

-- the number that is written, if it is one
abbrev pub number_of : List ℕ → Option ℕ
number_of value = if is_number value then Some (digits_value 10 value) else None

-- the value is a number, and the same as the first one's
abbrev pub is_alike : List ℕ → List ℕ → Bool
is_alike first value = is_number value && (digits_value 10 value == digits_value 10 first)

-- the values of the fields that tell the length of the body
abbrev pub lengths : FieldList → List (List ℕ)
lengths fields = map (λ f. f.1) (filter (λ f. is_word f.0 (codes "content-length")) fields)

-- the length that these values tell: none, the number that each of them is, or nothing clear
abbrev pub told : List (List ℕ) → Length
told [] = Absent
told (first ∷ values) =
    if list_all (is_alike first) (first ∷ values) then Given (digits_value 10 first) else Unclear

-- the length of the body, as the fields tell it
abbrev pub length_of : FieldList → Length
length_of fields = told (lengths fields)

-- what is told once one more value is
abbrev pub after_value : List ℕ → Length → Length
after_value value Absent = if is_number value then Given (digits_value 10 value) else Unclear
after_value value Unclear = Unclear
after_value value (Given n) =
    if is_number value && (digits_value 10 value == n) then Given n else Unclear

-- what is told once one more field is read
abbrev pub after_field : List ℕ × List ℕ → Length → Length
after_field field found =
    if is_word field.0 (codes "content-length") then after_value field.1 found else found

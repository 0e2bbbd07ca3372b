-- What a word says, as its parts are read.
use Rattle.std.proofs.Common.{◌≡◌, ℕ, ◌<◌, ◌≤◌, ◌^◌, [], ◌∷◌, length, Bool, true, false}
use Rattle.std.proofs.Common.{Option, Some, None, Err, not, ◌&&◌, ◌==◌, if◌then◌else◌}
use Rattle.std.proofs.Common.{refl, sym, ◌∙◌, ap, arith, rules, inl, inr}
use Rattle.std.specs.Char.{is_ascii_digit}
use Rattle.std.specs.Prelude.{nat_le, nat_lt, option_and_then}
use Rattle.std.specs.List.{list_all, position_or_len, before_first, after_first}
use Rattle.std.specs.Str.Parse.{digits_value, ParsesUnsigned}
use Rattle.std.proofs.lemmas.Str.Parse.{IsNumeralModel, numerals_by_value, parse_digits}
use Rattle.std.proofs.lemmas.Grind.{common_steps}
use Rattle.std.proofs.lemmas.Bool.{cases_lt, cond-true, and_parts, leb-true}
use Rattle.tuple_values.specs.Document.{ByteList}
use Rattle.tuple_values.specs.declared.names.NameShards.{NameShards}
use Rattle.command_words.specs.Words.{is_name, in_range, is_number, number_of, shards_of}
use Rattle.command_words.specs.Words.{collection, named, is_equals, name_of}
use Rattle.command_words.specs.Names.{IsFit}

-- the words of a numeral
pub numeral : IsNumeralModel (λ ds. list_all is_ascii_digit ds ≡ true) (digits_value 10)
numeral = numerals_by_value _ (search rules)

-- too large a number
in_range-none : (least most n : ℕ) → most < n → None ≡ in_range least most n
in_range-none least most n lt = grind (arith, common_steps)

-- digits that write no number of 32 bits
number_large : (least most : ℕ) (bytes : ByteList) → most < 2 ^ 32 → is_number bytes ≡ true
    → ((0 < length bytes) × (digits_value 10 bytes < 2 ^ 32) → ⊥)
    → None ≡ number_of least most bytes
number_large least most [] few are none = refl
number_large least most (b ∷ bytes) few are none =
    let n = digits_value 10 (b ∷ bytes) in
    let large : most < n =
    elim (cases_lt most n) [ inl lt ↦ lt | inr le ↦ absurd (none (omega arith, omega arith)) ] in
    in_range-none least most n large
    ∙ sym (cond-true (is_number (b ∷ bytes)) (in_range least most n) None are)

-- digits that aren't read as a number of 32 bits
pub number_unread : (least most : ℕ) (bytes : ByteList) → most < 2 ^ 32
    → ParsesUnsigned {E = Unit {0}} 32 10 bytes (Err tt)
    → is_number bytes ≡ true → None ≡ number_of least most bytes
number_unread least most bytes few unread are =
    let all = (and_parts (not (length bytes == 0)) (list_all is_ascii_digit bytes) are).1 in
    number_large least most bytes few are
    (parse_digits numeral {E = Unit {0}} 32 bytes (Err tt) unread all)

-- what is given under a condition
pub guard_some : {X : Type 0} (b : Bool) (o : Option X) (x : X)
    → (if b then o else None) ≡ Some x → (b ≡ true) × (o ≡ Some x)
guard_some true o x e = (refl, e)
guard_some false o x e = absurd (cc)

-- what is in a range
in_range_is : (least most n k : ℕ) → in_range least most n ≡ Some k
    → (n ≡ k) × (least ≤ k) × (k ≤ most)
in_range_is least most n k e =
    let given = guard_some (nat_le least n && nat_le n most) (Some n) k e in
    let same : n ≡ k = let found = given.1 in cc in
    let parts = and_parts (nat_le least n) (nat_le n most) given.0 in (
      same,
      omega (arith, same, leb-true least n parts.0),
      omega (arith, same, leb-true n most parts.1),
    )

-- a number that digits write
pub number_is : (least most : ℕ) (bytes : ByteList) (k : ℕ)
    → number_of least most bytes ≡ Some k
    → (list_all is_ascii_digit bytes ≡ true) × (digits_value 10 bytes ≡ k)
    × (least ≤ k) × (k ≤ most)
number_is least most bytes k e =
    let written =
    guard_some (is_number bytes) (in_range least most (digits_value 10 bytes)) k e in
    let all = (and_parts (not (length bytes == 0)) (list_all is_ascii_digit bytes) written.0).1 in
    let range = in_range_is least most (digits_value 10 bytes) k written.1 in
    (all, range.0, range.1, range.2)

-- the parts of a collection that is named
pub named_some : (name : ByteList) (o : Option ℕ) (n : NameShards)
    → option_and_then (named name) o ≡ Some n
    → (o ≡ Some n.shards) × (is_name name ≡ true) × (n.name ≡ name)
named_some name None n e = absurd (cc)
named_some name (Some k) n e =
    let given = guard_some (is_name name) (Some (collection name k)) n e in
    let same : collection name k ≡ n = cc in
    (ap (λ m. Some m.shards) same, given.0, sym (ap (λ m. m.name) same))

-- a collection that a word names may have its shards
pub name_of_fit : (word : ByteList) (n : NameShards) → name_of word ≡ Some n → IsFit n
name_of_fit word n e =
    let split =
    guard_some (nat_lt (position_or_len is_equals word) (length word))
    (option_and_then (named (before_first is_equals word)) (shards_of (after_first is_equals word)))
    n e in
    let parts =
    named_some (before_first is_equals word) (shards_of (after_first is_equals word)) n split.1 in
    let range = number_is 1 8 (after_first is_equals word) n.shards parts.0 in
    (range.2, range.3)

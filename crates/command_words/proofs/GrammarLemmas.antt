-- What a word names by its looks is what is read of it.
use Rattle.std.proofs.Common.{◌≡◌, ℕ, ◌+◌, ◌<◌, ◌≤◌, [], ◌∷◌, ◌++◌, length, take, drop}
use Rattle.std.proofs.Common.{get_or, Bool, true, false, not, ◌&&◌, ◌==◌, if◌then◌else◌, Some, None}
use Rattle.std.proofs.Common.{refl, sym, ◌∙◌, ap, arith, rules}
use Rattle.std.specs.Prelude.{nat_lt, nat_le, option_and_then}
use Rattle.std.specs.Char.{is_ascii_digit}
use Rattle.std.specs.List.{list_all, position_or_len, before_first, after_first}
use Rattle.std.specs.Str.Parse.{digits_value}
use Rattle.std.proofs.lemmas.Bool.{and_parts, and_from, eqb-true, lt-ltb, ltb-true, le-leb}
use Rattle.std.proofs.lemmas.Bool.{cond-true}
use Rattle.std.proofs.lemmas.List.{length-append}
use Rattle.std.proofs.lemmas.List.Sums.{split_at_first, passes_at_first}
use Rattle.std.proofs.Math.Seq.{take-append_seam, drop-append-add}
use Rattle.tuple_values.specs.Document.{ByteList}
use Rattle.tuple_values.specs.declared.names.NameShards.{NameShards}
use Rattle.command_words.specs.Words.{is_later, begins_well, is_name, in_range, is_number}
use Rattle.command_words.specs.Words.{number_of, shards_of}
use Rattle.command_words.specs.Words.{collection, named, is_equals, name_of}
use Rattle.command_words.specs.Grammar.{IsWord}
use Rattle.command_words.proofs.WordLemmas.{guard_some, named_some, name_of_fit, number_is}

-- a byte of a name is no equals sign
later_apart : (b : ℕ) (test : Bool) → (b == 61) ≡ test → is_later b ≡ true → (b == 61) ≡ false
later_apart b false is later = is
later_apart b true is later =
    let same : b ≡ 61 = eqb-true b 61 is in
    let none : is_later b ≡ false = ap is_later same in absurd (cc)

-- a name ends at the equals sign behind it
name_end : (name digits : ByteList) → list_all is_later name ≡ true
    → position_or_len is_equals (name ++ (61 ∷ digits)) ≡ length name
name_end [] digits all = refl
name_end (b ∷ name) digits all =
    let parts = and_parts (is_later b) (list_all is_later name) all in
    let apart : is_equals b ≡ false = later_apart b (b == 61) refl parts.0 in
    let more = name_end name digits parts.1 in
    ap (λ t. if not t then 1 + position_or_len is_equals (name ++ (61 ∷ digits)) else 0) apart
    ∙ omega (arith, more)

-- a number in its range
in_range_some : (least most n : ℕ) → least ≤ n → n ≤ most → in_range least most n ≡ Some n
in_range_some least most n low high =
    cond-true (nat_le least n && nat_le n most) (Some n) None
    (and_from (nat_le least n) (nat_le n most) (le-leb least n low) (le-leb n most high))

-- digits that write one at least are there
digits_there : (digits : ByteList) → list_all is_ascii_digit digits ≡ true
    → 1 ≤ digits_value 10 digits → is_number digits ≡ true
digits_there [] all low = absurd (omega (arith, low))
digits_there (d ∷ digits) all low =
    and_from (not (length (d ∷ digits) == 0)) (list_all is_ascii_digit (d ∷ digits))
    (search rules) all

-- digits write the number that is read
number_read : (least most n : ℕ) (digits : ByteList) → is_number digits ≡ true
    → digits_value 10 digits ≡ n → least ≤ n → n ≤ most
    → number_of least most digits ≡ Some n
number_read least most n digits are counted low high =
    cond-true (is_number digits) (in_range least most (digits_value 10 digits)) None are
    ∙ ap (in_range least most) counted ∙ in_range_some least most n low high

-- what stands before the first equals sign, behind a name
pub name_before : (name digits : ByteList) → list_all is_later name ≡ true
    → before_first is_equals (name ++ (61 ∷ digits)) ≡ name
name_before name digits later =
    ap (λ k. take k (name ++ (61 ∷ digits))) (name_end name digits later)
    ∙ take-append_seam name (61 ∷ digits)

-- a name and digits with an equals sign between them are read so
parts_read : (name digits : ByteList) (n : ℕ) → is_name name ≡ true
    → list_all is_ascii_digit digits ≡ true → digits_value 10 digits ≡ n → 1 ≤ n → n ≤ 8
    → name_of (name ++ (61 ∷ digits)) ≡ Some (collection name n)
parts_read name digits n is_a all counted low high =
    let word = name ++ (61 ∷ digits) in
    let front =
    (and_parts (begins_well name && list_all is_later name) (nat_le (length name) 64) is_a).0 in
    let later = (and_parts (begins_well name) (list_all is_later name) front).1 in
    let end = name_end name digits later in
    let before = name_before name digits later in
    let behind : after_first is_equals word ≡ digits =
    ap (λ k. drop (k + 1) word) end ∙ drop-append-add name (61 ∷ digits) 1 in
    let inside : position_or_len is_equals word < length word =
    omega (arith, end, length-append name (61 ∷ digits)) in
    let some : 1 ≤ digits_value 10 digits = omega (arith, counted) in
    let count = number_read 1 8 n digits (digits_there digits all some) counted low high in
    cond-true (nat_lt (position_or_len is_equals word) (length word))
    (option_and_then (named (before_first is_equals word)) (shards_of (after_first is_equals word)))
    None (lt-ltb (position_or_len is_equals word) (length word) inside)
    ∙ ap (λ l. option_and_then (named l) (shards_of (after_first is_equals word))) before
    ∙ ap (λ l. option_and_then (named name) (shards_of l)) behind
    ∙ ap (option_and_then (named name)) count
    ∙ cond-true (is_name name) (Some (collection name n)) None is_a

-- a word that has an equals sign is what stands before the first one, and after it
pub equals_split : (word : ByteList)
    → nat_lt (position_or_len is_equals word) (length word) ≡ true
    → word ≡ before_first is_equals word ++ (61 ∷ after_first is_equals word)
equals_split word some =
    let digits = after_first is_equals word in
    let name = before_first is_equals word in
    let inside = ltb-true (position_or_len is_equals word) (length word) some in
    let sign : get_or word (position_or_len is_equals word) 0 ≡ 61 =
    eqb-true (get_or word (position_or_len is_equals word) 0) 61
    (passes_at_first is_equals word 0 inside) in
    split_at_first is_equals word 0 inside ∙ ap (λ b. name ++ (b ∷ digits)) sign

-- what the word looks like is read of it
pub word_read : (word : ByteList) (n : NameShards) → IsWord word n → name_of word ≡ Some n
word_read word n w =
    ap name_of w.printed
    ∙ parts_read n.name w.digits n.shards w.named w.written w.counted w.fit.0 w.fit.1

-- what is read of a word it looks like
pub word_looks : (word : ByteList) (n : NameShards) → name_of word ≡ Some n → IsWord word n
word_looks word n e =
    let digits = after_first is_equals word in
    let name = before_first is_equals word in
    let split =
    guard_some (nat_lt (position_or_len is_equals word) (length word))
    (option_and_then (named name) (shards_of digits)) n e in
    let parts = named_some name (shards_of digits) n split.1 in
    let number = number_is 1 8 digits n.shards parts.0 in
    record {
      digits = digits;
      printed = equals_split word split.0 ∙ ap (λ l. l ++ (61 ∷ digits)) (sym parts.2);
      named = ap is_name parts.2 ∙ parts.1;
      written = number.0;
      counted = number.1;
      fit = name_of_fit word n e;
    }

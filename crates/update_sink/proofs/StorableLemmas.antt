-- The writes that an update makes of tuples are such as a shard keeps.
use Rattle.std.proofs.Common.{◌≡◌, ℕ, ◌+◌, List, [], ◌∷◌, Bool, true, false, refl, sym, ap, subst, ◌∙◌, Option, Some, None, Result, Ok, Err, bytes_eq}
use Rattle.std.specs.Prelude.{not, ◌||◌, ℤ, nat_lt, option_and_then, option_map, if◌then◌else◌}
use Rattle.std.specs.List.{AllByRecursion}
use Rattle.std.specs.Fmt.{signed_decimal}
use Rattle.std.proofs.lemmas.Slice.Eq.{bytes_eq-Decides}
use Rattle.tuple_values.specs.Document.{ByteList, Datum, long, text, group, Doc, value_at, is_named}
use Rattle.tuple_values.specs.Kinds.{coerced, is_text_name, is_number_name}
use Rattle.tuple_values.specs.Sizes.{doc_bytes}
use Rattle.tuple_values.specs.Whole.{whole_of}
use Rattle.tuple_values.specs.declared.write.Write.{Write}
use Rattle.tuple_values.specs.declared.write.Write.TheVariants.{Put}
use Rattle.shard_versions.specs.Documents.{id_name, id_of, version_name, origin_names, reserved_names, is_empty, is_group, has_group, is_storable, text_of}
use Rattle.shard_versions.specs.Fitness.{is_storable_kind}
use Rattle.exchange_rules.specs.Puts.{has_id, in_kinds, kept, largest_document, put_of, puts_of, unreserved, with_field, with_put}
use Rattle.exchange_rules.specs.Steps.{AreStorableWrites, kind_of}
use Rattle.exchange_rules.specs.declared.run.RunFault.{RunFault}
use Rattle.exchange_rules.specs.declared.run.RunFault.TheVariants.{BadTuple, TupleTooLarge}

-- a field as a shard keeps it: its name isn't that of the version, and its value is no group
abbrev pub IsKept : ByteList × Datum → Type 0
IsKept f = (bytes_eq f.0 version_name ≡ false) × (is_group f.1 ≡ false)

-- each field of the document is such
abbrev pub AreKept : Doc → Type 0
AreKept doc = AllByRecursion IsKept doc

-- the field's name isn't that of the version
abbrev IsApart : ByteList × Datum → Type 0
IsApart f = bytes_eq f.0 version_name ≡ false

-- texts that differ one way differ the other way
differ : (a b : ByteList) → bytes_eq a b ≡ false → bytes_eq b a ≡ false
differ a b e = go (bytes_eq b a) refl
  where
    go : (x : Bool) → bytes_eq b a ≡ x → x ≡ false
    go true is =
        let same : b ≡ a = (bytes_eq-Decides b a).0 is in
        let back : bytes_eq a b ≡ true = (bytes_eq-Decides a b).1 (sym same) in absurd (cc)
    go false is = refl

-- a name that isn't one of several isn't the first of them
not-first : (a b : Bool) → (a || b) ≡ false → a ≡ false
not-first true b e = absurd (cc)
not-first false b e = refl

-- no field without a reserved name has the version's
unreserved-apart : (doc : Doc) → AllByRecursion IsApart (unreserved doc)
unreserved-apart [] = tt
unreserved-apart (f ∷ doc) = go (is_named f.0 reserved_names) refl (unreserved-apart doc)
  where
    go : (b : Bool) → is_named f.0 reserved_names ≡ b → AllByRecursion IsApart (unreserved doc)
        → AllByRecursion IsApart (if not b then f ∷ unreserved doc else unreserved doc)
    go true is later = later
    go false is later = (
      differ version_name f.0
          (not-first (bytes_eq version_name f.0) (is_named f.0 origin_names) is),
      later,
    )

-- what holds of a document that there may be
abbrev IsWell : (Doc → Type 0) → Result Doc ByteList → Type 0
IsWell P (Ok doc) = P doc
IsWell P (Err name) = Unit {0}

-- a value, where there is one, that is no group
abbrev IsPlain : Option Datum → Type 0
IsPlain None = Unit {0}
IsPlain (Some value) = is_group value ≡ false

-- a value in the kind of its name is no group
plain-coerced : (name : ByteList) (value : Datum) → IsPlain (coerced name value)
plain-coerced name (long n) = go (is_text_name name)
  where
    go : (b : Bool) → IsPlain (Some (if b then text (signed_decimal n) else long n))
    go true = refl
    go false = refl
plain-coerced name (text bytes) = go (is_number_name name) (whole_of bytes)
  where
    go : (b : Bool) (whole : Option ℤ)
        → IsPlain (if b then option_map long whole else Some (text bytes))
    go true None = tt
    go true (Some n) = refl
    go false whole = refl
plain-coerced name (group rows) = tt

-- fields in the kinds of their names are kept
kept-kinds : (doc : Doc) → AllByRecursion IsApart doc → IsWell AreKept (in_kinds doc)
kept-kinds [] a = tt
kept-kinds (f ∷ doc) a =
    go (coerced f.0 f.1) (plain-coerced f.0 f.1) (in_kinds doc) (kept-kinds doc a.1)
  where
    go : (value : Option Datum) → IsPlain value → (others : Result Doc ByteList)
        → IsWell AreKept others → IsWell AreKept (with_field f.0 value others)
    go None plain others later = tt
    go (Some value) plain (Ok others) later = ((a.0, plain), later)
    go (Some value) plain (Err name) later = tt

-- the value under a name is what its kind makes of the one that was there
abbrev IsOfKind : ByteList → Option Datum → Doc → Type 0
IsOfKind name value doc = value_at name doc ≡ option_and_then (coerced name) value

-- fields in the kinds of their names are found under them
value-kinds : (name : ByteList) (doc : Doc)
    → IsWell (IsOfKind name (value_at name doc)) (in_kinds doc)
value-kinds name [] = refl
value-kinds name (f ∷ doc) =
    go (bytes_eq f.0 name) refl (coerced f.0 f.1) refl (in_kinds doc) (value-kinds name doc)
  where
    go : (b : Bool) → bytes_eq f.0 name ≡ b → (value : Option Datum) → coerced f.0 f.1 ≡ value
        → (others : Result Doc ByteList) → IsWell (IsOfKind name (value_at name doc)) others
        → IsWell (IsOfKind name (if b then Some f.1 else value_at name doc))
        (with_field f.0 value others)
    go b e None k others later = tt
    go b e (Some value) k (Err other) later = tt
    go true e (Some value) k (Ok others) later =
        let same : f.0 ≡ name = (bytes_eq-Decides f.0 name).0 e in
        ap (λ x. if x then Some value else value_at name others) e
        ∙ (sym k ∙ ap (λ n. coerced n f.1) same)
    go false e (Some value) k (Ok others) later =
        ap (λ x. if x then Some value else value_at name others) e ∙ later

-- no field holds a group
kept-no_group : (doc : Doc) → AreKept doc → has_group doc ≡ false
kept-no_group [] all = refl
kept-no_group (f ∷ doc) all = rw all.0.1 (kept-no_group doc all.1)

-- no field has the version's name
kept-no_version : (doc : Doc) → AreKept doc → value_at version_name doc ≡ None
kept-no_version [] all = refl
kept-no_version (f ∷ doc) all = rw all.0.0 (kept-no_version doc all.1)

-- a document with an id and such fields is one that a shard keeps
pub kept-storable : (doc : Doc) → not (is_empty (text_of (value_at id_name doc))) ≡ true → AreKept doc
    → is_storable doc ≡ true
unfolding is_storable id_of
kept-storable doc has all =
    rw has (rw (kept-no_group doc all) (rw (kept-no_version doc all) refl))

-- what holds of a write that there may be
abbrev IsKeptWrite : Result Write RunFault → Type 0
IsKeptWrite (Ok write) = is_storable_kind (kind_of write) ≡ true
IsKeptWrite (Err fault) = Unit {0}

-- the write of a tuple
put-kept : (at : ℕ) (doc : Doc) → IsKeptWrite (put_of at doc)
put-kept at doc =
    go (has_id (unreserved doc)) refl (in_kinds (unreserved doc))
    (value-kinds id_name (unreserved doc))
    (kept-kinds (unreserved doc) (unreserved-apart doc))
  where
    size : (new : Doc) → is_storable new ≡ true → (large : Bool)
        → IsKeptWrite (if large then Err (TupleTooLarge at) else Ok (Put new))
    size new is true = tt
    size new is false = is

    go : (b : Bool) → has_id (unreserved doc) ≡ b → (made : Result Doc ByteList)
        → IsWell (IsOfKind id_name (value_at id_name (unreserved doc))) made
        → IsWell AreKept made
        → IsKeptWrite (if b then kept at made else Err (BadTuple at id_name))
    go false has made id all = tt
    go true has (Err field) id all = tt
    go true has (Ok new) id all =
        size new (kept-storable new
        (ap (λ value. not (is_empty (text_of value))) id ∙ has) all)
        (nat_lt largest_document (doc_bytes new))

-- what holds of writes that there may be
abbrev AreKeptWrites : Result (List Write) RunFault → Type 0
AreKeptWrites (Ok writes) = AreStorableWrites writes
AreKeptWrites (Err fault) = Unit {0}

-- the writes of tuples
puts-kept : (at : ℕ) (docs : List Doc) → AreKeptWrites (puts_of at docs)
puts-kept at [] = tt
puts-kept at (doc ∷ docs) =
    go (put_of at doc) (put-kept at doc) (puts_of (at + 1) docs) (puts-kept (at + 1) docs)
  where
    go : (put : Result Write RunFault) → IsKeptWrite put
        → (others : Result (List Write) RunFault) → AreKeptWrites others
        → AreKeptWrites (with_put put others)
    go (Err fault) is others later = tt
    go (Ok write) is (Ok others) later = (is, later)
    go (Ok write) is (Err fault) later = tt

-- so each of the writes can be kept
pub puts-storable : (at : ℕ) (docs : List Doc) (writes : List Write) → Ok writes ≡ puts_of at docs
    → AreStorableWrites writes
puts-storable at docs writes is = subst AreKeptWrites (sym is) (puts-kept at docs)

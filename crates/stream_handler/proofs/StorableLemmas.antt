-- The writes that a body asks for are such as a shard keeps.
use Rattle.std.proofs.Common.{◌≡◌, ℕ, ◌+◌, List, [], ◌∷◌, ◌++◌, Bool, true, false}
use Rattle.std.proofs.Common.{Option, Some, None, Result, Ok, Err, refl, subst, filter_map}
use Rattle.std.specs.Prelude.{not, ◌&&◌, ◌||◌, nat_lt, bytes_eq, codes, if◌then◌else◌}
use Rattle.std.specs.Prelude.{option_map, option_and_then, is_some, find, ℤ}
use Rattle.std.specs.List.{AllByRecursion, cons_option, list_all}
use Rattle.std.specs.Option.{option_map_or}
use Rattle.std.specs.Fmt.{signed_decimal}
use Rattle.std.specs.declared.cmp.Ordering.{Ordering}
use Rattle.std.specs.declared.cmp.Ordering.TheVariants.{Less, Equal, Greater}
use Rattle.serde_json.specs.Data.{Data, null, boolean, number, string, array, object, Members}
use Rattle.serde_json.specs.Find.{as_null, get_member}
use Rattle.tuple_values.specs.Document.{ByteList, bytes_cmp, Datum, long, text, group, Doc}
use Rattle.tuple_values.specs.Document.{value_at, put, put_by, over}
use Rattle.tuple_values.specs.Kinds.{coerced, is_text_name, is_number_name}
use Rattle.tuple_values.specs.Sizes.{doc_bytes}
use Rattle.tuple_values.specs.Whole.{whole_of}
use Rattle.tuple_values.specs.declared.write.Write.{Write}
use Rattle.tuple_values.specs.declared.write.Write.TheVariants.{Put, Del}
use Rattle.shard_versions.specs.Documents.{id_of, version_name, is_empty, is_group}
use Rattle.shard_versions.specs.Documents.{has_group, is_storable, text_of}
use Rattle.shard_versions.specs.Fitness.{is_storable_kind}
use Rattle.exchange_rules.specs.Steps.{AreStorableWrites, kind_of}
use Rattle.json_text.specs.declared.fault.JsonFault.{JsonFault}
use Rattle.json_text.specs.declared.fault.JsonFault.TheVariants.{NotJson, NotADocument, NotWhole}
use Rattle.json_text.specs.declared.fault.JsonFault.TheVariants.{NoId, DocTooLarge}
use Rattle.json_text.specs.declared.update.Update.{Update}
use Rattle.json_text.specs.Documents.{Member, member_list, is_field, is_unfit}
use Rattle.json_text.specs.Documents.{plain_value, field_value, field_of, fields_in, is_id}
use Rattle.json_text.specs.Documents.{largest_document, allowed, document_of}
use Rattle.json_text.specs.Writes as writes
use Rattle.json_text.specs.Writes.{and_then, item_list, Outcome, Reading, put_of, del_of}
use Rattle.json_text.specs.Writes.{each_from, each_of, added, deleted, behind, adds, dels}
use Rattle.json_text.specs.Writes.{command_writes}
use Rattle.json_text.specs.Updates.{is_command, has_command, update_with, commands_of, update_of}
use Rattle.json_text.specs.Updates.{json_in, update_in}

-- ---- the fields of a document

-- a field as a shard keeps it: its name isn't that of the version, and its value is no group
abbrev IsKept : ByteList × Datum → Type 0
IsKept f = (bytes_eq f.0 version_name ≡ false) × (is_group f.1 ≡ false)

-- each field of the document is such
abbrev AreKept : Doc → Type 0
AreKept doc = AllByRecursion IsKept doc

-- a field that is put, and each of the others
kept-put : (name : ByteList) (value : Datum) (doc : Doc)
    → IsKept (name, value) → AreKept doc → AreKept (put name value doc)
kept-put name value [] one all = (one, tt)
kept-put name value (f ∷ doc) one all =
    go (kept-put name value doc one all.1) (bytes_cmp f.0 name)
  where
    go : AreKept (put name value doc) → (o : Ordering)
        → AreKept (put_by o
        (f ∷ put name value doc) ((name, value) ∷ doc) ((name, value) ∷ f ∷ doc))
    go later Less = (all.0, later)
    go later Equal = (one, all.1)
    go later Greater = (one, all)

-- the fields of both
kept-over : (left right : Doc) → AreKept left → AreKept right → AreKept (over left right)
kept-over left [] l r = l
kept-over left (f ∷ right) l r =
    kept-over (put f.0 f.1 left) right (kept-put f.0 f.1 left r.0 l) r.1

-- a value, where there is one, that is no group
abbrev IsPlain : Option Datum → Type 0
IsPlain None = Unit {0}
IsPlain (Some value) = is_group value ≡ false

-- a value in the kind of its name is no group
plain-coerced : (name : ByteList) (value : Datum) → IsPlain (coerced name value)
plain-coerced name (long n) = go (is_text_name name)
  where
    go : (b : Bool) → IsPlain (Some (if b then text (signed_decimal n) else long n))
    go true = refl
    go false = refl
plain-coerced name (text bytes) = go (is_number_name name) (whole_of bytes)
  where
    go : (b : Bool) (whole : Option ℤ)
        → IsPlain (if b then option_map long whole else Some (text bytes))
    go true None = tt
    go true (Some n) = refl
    go false whole = refl
plain-coerced name (group rows) = tt

-- the same of a value that there may be
plain-value : (name : ByteList) (value : Option Datum)
    → IsPlain (option_and_then (coerced name) value)
plain-value name None = tt
plain-value name (Some value) = plain-coerced name value

-- a field, where there is one, that a shard keeps
abbrev IsKeptIf : Option (ByteList × Datum) → Type 0
IsKeptIf None = Unit {0}
IsKeptIf (Some f) = IsKept f

-- the value under a name that isn't the version's
kept-named : (name : ByteList) (value : Option Datum) → bytes_eq name version_name ≡ false
    → IsPlain value → IsKeptIf (option_map (λ v. (name, v)) value)
kept-named name None apart plain = tt
kept-named name (Some value) apart plain = (apart, plain)

-- a name that isn't one of three isn't the first of them
not-first : (a b c d : Bool) → (not (a || b || c) && d) ≡ true → a ≡ false
not-first true b c d is = absurd cc
not-first false b c d is = refl

-- the field that a member becomes
kept-field : (m : Member) → IsKeptIf (field_of m)
kept-field m = go (is_field m) refl
  where
    apart : is_field m ≡ true → bytes_eq m.0 version_name ≡ false
    apart is = not-first (bytes_eq m.0 (codes "_version_")) (bytes_eq m.0 (codes "_src_s"))
        (bytes_eq m.0 (codes "_src_version_l")) (not (is_some (as_null m.1))) is

    go : (b : Bool) → is_field m ≡ b
        → IsKeptIf (if b then option_map (λ value. (m.0, value)) (field_value m) else None)
    go true is = kept-named m.0 (field_value m) (apart is) (plain-value m.0 (plain_value m.1))
    go false is = tt

-- a field that there may be, before others
kept-cons : (f : Option (ByteList × Datum)) (doc : Doc)
    → IsKeptIf f → AreKept doc → AreKept (cons_option f doc)
kept-cons None doc one all = all
kept-cons (Some f) doc one all = (one, all)

-- the fields that members become
kept-each : (members : List Member) → AreKept (filter_map field_of members)
kept-each [] = tt
kept-each (m ∷ members) =
    kept-cons (field_of m) (filter_map field_of members) (kept-field m) (kept-each members)

-- the document of members
kept-fields : (members : List Member) → AreKept (fields_in members)
kept-fields members = kept-over [] (filter_map field_of members) tt (kept-each members)

-- ---- the document

-- no field holds a group
kept-no_group : (doc : Doc) → AreKept doc → has_group doc ≡ false
kept-no_group [] all = refl
kept-no_group (f ∷ doc) all = rw all.0.1 (kept-no_group doc all.1)

-- no field has the version's name
kept-no_version : (doc : Doc) → AreKept doc → value_at version_name doc ≡ None
kept-no_version [] all = refl
kept-no_version (f ∷ doc) all = rw all.0.0 (kept-no_version doc all.1)

-- a value that can name a document is a text with a byte
id-not_empty : (value : Option Datum) → is_id value ≡ true → is_empty (text_of value) ≡ false
id-not_empty None is = absurd cc
id-not_empty (Some (long n)) is = absurd cc
id-not_empty (Some (text [])) is = absurd cc
id-not_empty (Some (text (byte ∷ bytes))) is = refl
id-not_empty (Some (group rows)) is = absurd cc

-- a document with an id and such fields is one that a shard keeps
kept-storable : (doc : Doc) → is_id (value_at (codes "id") doc) ≡ true → AreKept doc
    → is_storable doc ≡ true
unfolding is_storable id_of
kept-storable doc has all =
    rw (id-not_empty (value_at (codes "id") doc) has)
    (rw (kept-no_group doc all) (rw (kept-no_version doc all) refl))

-- ---- what answers come to

-- what holds of the value of an answer that is no fault
abbrev IsWell : {A : Type 0} → (A → Type 0) → Result A JsonFault → Type 0
IsWell P (Ok value) = P value
IsWell P (Err fault) = Unit {0}

-- what follows from an answer
well-then : {A B : Type 0} (P : A → Type 0) (Q : B → Type 0) (next : A → Result B JsonFault)
    (answer : Result A JsonFault) → ((value : A) → P value → IsWell Q (next value))
    → IsWell P answer → IsWell Q (and_then next answer)
well-then P Q next (Ok value) step well = step value well
well-then P Q next (Err fault) step well = tt

-- the document that a shard keeps
abbrev IsStorable : Doc → Type 0
IsStorable doc = is_storable doc ≡ true

-- the write that a shard keeps
abbrev IsStorableWrite : Write → Type 0
IsStorableWrite w = is_storable_kind (kind_of w) ≡ true

-- a document that is allowed
well-allowed : (at : ℕ) (doc : Doc) → AreKept doc → IsWell IsStorable (allowed at doc)
well-allowed at doc all =
    go (is_id (value_at (codes "id") doc)) refl (nat_lt largest_document (doc_bytes doc))
  where
    go : (b : Bool) → is_id (value_at (codes "id") doc) ≡ b → (large : Bool)
        → IsWell IsStorable (if b
        then (if large then Err (DocTooLarge at) else Ok doc) else Err (NoId at))
    go true has true = tt
    go true has false = kept-storable doc has all
    go false has large = tt

-- the document that a value is
well-document : (at : ℕ) (value : Data) → IsWell IsStorable (document_of at value)
well-document at null = tt
well-document at (boolean b) = tt
well-document at (number n) = tt
well-document at (string bytes) = tt
well-document at (array items) = tt
well-document at (object members) = go (find is_unfit (member_list members))
  where
    go : (unfit : Option Member) → IsWell IsStorable
        (option_map_or (λ m. Err (NotWhole at m.0)) unfit
        (allowed at (fields_in (member_list members))))
    go None = well-allowed at (fields_in (member_list members)) (kept-fields (member_list members))
    go (Some m) = tt

-- ---- the writes

-- the write of a document
well-put : (at : ℕ) (value : Data) → IsWell IsStorableWrite (put_of at value)
well-put at value =
    well-then IsStorable IsStorableWrite (λ doc. Ok (Put doc)) (document_of at value)
    (λ doc is. is) (well-document at value)

-- the write of a deletion
well-del : (at : ℕ) (value : Data) → IsWell IsStorableWrite (del_of at value)
well-del at value = go (writes.id_of value)
  where
    go : (id : Option ByteList)
        → IsWell IsStorableWrite (option_map_or (λ id. Ok (Del id)) id (Err (NotADocument at)))
    go None = tt
    go (Some id) = refl

-- what each item of a list may ask for
abbrev IsSound : Reading → Type 0
IsSound write = (at : ℕ) (value : Data) → IsWell IsStorableWrite (write at value)

-- the writes of a list's items
well-each : (write : Reading) (at : ℕ) (values : List Data) → IsSound write
    → IsWell AreStorableWrites (each_from write at values)
well-each write at [] sound = tt
well-each write at (value ∷ values) sound =
    well-then IsStorableWrite AreStorableWrites _ (write at value)
    (λ first one. well-then AreStorableWrites AreStorableWrites (λ rest. Ok (first ∷ rest))
    (each_from write (at + 1) values) (λ rest all. (one, all))
    (well-each write (at + 1) values sound)) (sound at value)

-- the writes of a list that there may be
well-each_of : (write : Reading) (values : Option (List Data)) → IsSound write
    → IsWell AreStorableWrites (each_of write values)
well-each_of write None sound = tt
well-each_of write (Some values) sound = well-each write 0 values sound

-- the writes of the command `add`
well-adds : (add : Option Data) → IsWell AreStorableWrites (adds add)
well-adds None = tt
well-adds (Some value) = well-each_of put_of (added value) well-put

-- the writes of the command `delete`
well-dels : (delete : Option Data) → IsWell AreStorableWrites (dels delete)
well-dels None = tt
well-dels (Some value) = well-each_of del_of (deleted value) well-del

-- writes, and then others
storable-append : (puts rest : List Write) → AreStorableWrites puts → AreStorableWrites rest
    → AreStorableWrites (puts ++ rest)
storable-append [] rest p r = r
storable-append (w ∷ puts) rest p r = (p.0, storable-append puts rest p.1 r)

-- the writes of both commands
well-commands : (add delete : Option Data) → IsWell AreStorableWrites (command_writes add delete)
well-commands add delete =
    well-then AreStorableWrites AreStorableWrites (λ puts. behind puts (dels delete)) (adds add)
    (λ puts p. well-then AreStorableWrites AreStorableWrites (λ rest. Ok (puts ++ rest))
    (dels delete) (λ rest r. storable-append puts rest p r) (well-dels delete)) (well-adds add)

-- ---- the update

-- an update whose writes a shard keeps
abbrev IsStorableUpdate : Update → Type 0
IsStorableUpdate update = AreStorableWrites update.writes

-- an update with such writes
well-with : (commits : Bool) (writes : Outcome) → IsWell AreStorableWrites writes
    → IsWell IsStorableUpdate (update_with commits writes)
well-with commits (Ok done) well = well
well-with commits (Err fault) well = tt

-- the update that an object of commands is
well-commands_of : (members : Members) → IsWell IsStorableUpdate (commands_of members)
well-commands_of members =
    go (has_command members) (list_all (λ m. is_command m.0) (member_list members))
  where
    go : (has alone : Bool) → IsWell IsStorableUpdate (if has
        then (if alone
        then update_with (is_some (get_member (codes "commit") members))
        (command_writes (get_member (codes "add") members)
        (get_member (codes "delete") members))
        else Err (NotADocument 0))
        else Err (NoId 0))
    go true true =
        well-with (is_some (get_member (codes "commit") members))
        (command_writes (get_member (codes "add") members)
        (get_member (codes "delete") members))
        (well-commands (get_member (codes "add") members)
        (get_member (codes "delete") members))
    go true false = tt
    go false alone = tt

-- the update that a value is
well-update : (value : Data) → IsWell IsStorableUpdate (update_of value)
well-update null = tt
well-update (boolean b) = tt
well-update (number n) = tt
well-update (string bytes) = tt
well-update (array items) =
    well-with false (each_from put_of 0 (item_list items))
    (well-each put_of 0 (item_list items) well-put)
well-update (object members) = go (is_some (get_member (codes "id") members))
  where
    go : (has : Bool) → IsWell IsStorableUpdate (if has
        then update_with false (each_from put_of 0 (object members ∷ []))
        else commands_of members)
    go true =
        well-with false (each_from put_of 0 (object members ∷ []))
        (well-each put_of 0 (object members ∷ []) well-put)
    go false = well-commands_of members

-- the update that a value is, where there is one
well-json : (value : Option Data)
    → IsWell IsStorableUpdate (option_map_or update_of value (Err NotJson))
well-json None = tt
well-json (Some value) = well-update value

-- the update that a body is
well-body : (bytes : List ℕ) → IsWell IsStorableUpdate (update_in bytes)
well-body [] = tt
well-body (byte ∷ bytes) = well-json (json_in (byte ∷ bytes))

-- each write that a body asks for is one that a shard keeps
pub writes_storable : (bytes : List ℕ) (update : Update)
    → update_in bytes ≡ Ok update → AreStorableWrites update.writes
writes_storable bytes update is = subst (IsWell IsStorableUpdate) is (well-body bytes)

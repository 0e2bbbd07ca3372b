-- What is read straight from tokens is what the value of the tokens asks for.
use Rattle.std.proofs.Common.{◌≡◌, ℕ, ◌+◌, ◌-◌, ◌<◌, ◌≤◌, List, [], ◌∷◌, length, false}
use Rattle.std.proofs.Common.{Option, Some, None, option_map, option_and_then, Ok}
use Rattle.std.proofs.Common.{refl, sym, ap, ◌∙◌}
use Rattle.std.proofs.Common.{arith, subst, Result, Err, IfOk, is_some}
use Rattle.std.specs.Option.{IfSome}
use Rattle.std.specs.Str.{IsUtf8}
use Rattle.json.specs.Token.{Token}
use Rattle.json.specs.Lex.{lex, punctuate, tokens}
use Rattle.json.specs.Json as json
use Rattle.json.specs.Json.{after_end_array, read_key, items, members, value, parse_map}
use Rattle.json.proofs.Grammar.{value_is, value-begin_array, value-begin_object, read_key_is}
use Rattle.json.proofs.Grammar.{items_end, items_more, members_end, members_more}
use Rattle.json.proofs.Grammar.{left, skip_value-shorter}
use Rattle.serde_json.specs.Data.{Data, null, boolean, number, string, array, object}
use Rattle.serde_json.specs.Data.{Items, no_items, item, Members, no_members, put}
use Rattle.serde_json.specs.Find.{as_null}
use Rattle.serde_json.specs.Read.{of_json, of_items, of_members, read}
use Rattle.tuple_values.specs.Document.{ByteList, Datum, Doc, Rises}
use Rattle.tuple_values.specs.Document as tuple
use Rattle.tuple_values.specs.declared.write.Write.{Write}
use Rattle.tuple_values.specs.declared.write.Write.TheVariants.{Put}
use Rattle.tuple_values.proofs.DocumentLemmas.{put_rises}
use Rattle.tuple_values.specs.Kinds.{coerced}
use Rattle.tuple_values.specs.Views.{datum_of}
use Rattle.tuple_values.specs.declared.memory.Memory.{Memory}
use Rattle.tuple_values.specs.declared.value.Value.{Value}
use Rattle.json_text.specs.Documents.{allowed, is_reserved, plain_value}
use Rattle.json_text.specs.Writes.{put_of, each_from, item_list}
use Rattle.json_text.specs.Updates.{update_in}
use Rattle.json_text.specs.Flat.{data_of, token_field, flat_rest, Asks, AreWrites}
use Rattle.json_text.proofs.FlatFieldsLemmas.{AreFields, fields_named, fields_ask}
use Rattle.json_text.proofs.UpdatesLemmas.{json_in-text}

-- what an answer that goes on began with
went_on : {A B : Type 0} (next : A → Option B) (o : Option A) (b : B)
    → option_and_then next o ≡ Some b → (a : A) × (o ≡ Some a) × (next a ≡ Some b)
went_on next None b is = absurd (cc)
went_on next (Some a) b is = (a, refl, is)

-- what two answers that are the same hold
same_pair : {A B : Type 0} (p q : A × B) → Some p ≡ Some q → p ≡ q
same_pair p q is = cc

-- ---- one token

-- the value that a token reads as
abbrev Reads : ℕ → Token → List Token → Data → Type 0
Reads depth t ts d = (j : json.Json) × (value depth (t ∷ ts) ≡ Some (j, ts)) × (of_json j ≡ Some d)

-- a token that is a value is read as it
value_one : (depth : ℕ) (t : Token) (ts : List Token) (d : Data) → data_of t ≡ Some d
    → Reads depth t ts d
value_one depth Token.begin_object ts d is = absurd (cc)
value_one depth Token.end_object ts d is = absurd (cc)
value_one depth Token.begin_array ts d is = absurd (cc)
value_one depth Token.end_array ts d is = absurd (cc)
value_one depth (Token.key s) ts d is = absurd (cc)
value_one depth (Token.string s) ts d is = (json.string s, value_is depth _, is)
value_one depth (Token.number s) ts d is = (json.number s, value_is depth _, is)
value_one depth (Token.boolean b) ts d is = (json.boolean b, value_is depth _, is)
value_one depth Token.null ts d is = (json.null, value_is depth _, is)
value_one depth Token.bad ts d is = absurd (cc)

-- a value that isn't null
not_null : (d : Data) (p : Datum) → plain_value d ≡ Some p → is_some (as_null d) ≡ false
not_null null p is = absurd (cc)
not_null (boolean b) p is = refl
not_null (number n) p is = refl
not_null (string bytes) p is = refl
not_null (array items) p is = refl
not_null (object fields) p is = refl

-- a token with a value in the kind of a name becomes its field
token_is_field : (name : ByteList) (t : Token) (p v : Datum) → is_reserved name ≡ false
    → option_and_then plain_value (data_of t) ≡ Some p → coerced name p ≡ Some v
    → token_field name t ≡ Some (name, v)
token_is_field name t p v free is fits =
    let read = went_on plain_value (data_of t) p is in
    rw (read.1, free, not_null read.0 p read.2, read.2, fits)

-- the same of a call that answers the value
pub token_read : (r : Result (Option Value) Memory) (name : ByteList) (t : Token) (p : Datum)
    (old new : List Token) → old ≡ t ∷ new → is_reserved name ≡ false
    → option_and_then plain_value (data_of t) ≡ Some p
    → IfOk r (λ v. option_map datum_of v ≡ coerced name p)
    → IfOk r (λ found. IfSome found (λ v. (token : Token) × (old ≡ token ∷ new)
    × (token_field name token ≡ Some (name, datum_of v))))
token_read (Err e) name t p old new first free is fits = tt
token_read (Ok None) name t p old new first free is fits = tt
token_read (Ok (Some v)) name t p old new first free is fits =
    (t, first, token_is_field name t p (datum_of v) free is (sym fits))

-- ---- the members of an object

-- one member and the rest
pub flat_member : (doc : Doc) (ts s r : List Token) (name : ByteList) (token : Token)
    (v : Datum) → read_key ts ≡ Some (Some name, s) → s ≡ token ∷ r
    → token_field name token ≡ Some (name, v)
    → flat_rest (tuple.put name v doc) r ≡ flat_rest doc ts
flat_member doc ts s r name token v key is field =
    rw (read_key_is ts (Some name) s key, is) (rw field)

-- the end of an object
pub flat_end : (doc : Doc) (ts r : List Token) → read_key ts ≡ Some (None, r)
    → flat_rest doc ts ≡ Some (doc, r)
flat_end doc ts r key = rw (read_key_is ts None r key)

-- the members that are read, beside the document of their fields
abbrev Found : Members → ℕ → List Token → Doc → List Token → Type 0
Found found n ts whole rest =
    (written : json.Members) × (members (value 125) n ts ≡ Some (written, rest))
    × (all : Members) × (of_members written found ≡ Some all)
    × AreFields all whole × Rises whole

-- the end of an object ends what is found
found_end : (ts rest : List Token) (found : Members) (n : ℕ) (doc whole : Doc)
    → length (Token.end_object ∷ ts) ≤ n → AreFields found doc → Rises doc
    → flat_rest doc (Token.end_object ∷ ts) ≡ Some (whole, rest)
    → Found found n (Token.end_object ∷ ts) whole rest
found_end ts rest found n doc whole enough fields rises is =
    let P : Doc × List Token → Type 0 = λ p. Found found n (Token.end_object ∷ ts) p.0 p.1 in
    subst P (same_pair (doc, ts) (whole, rest) is) (
      json.no_members,
      members_end (value 125) n (Token.end_object ∷ ts) ts enough refl,
      found,
      refl,
      fields,
      rises,
    )

-- a member goes before what is found behind it
found_more : (name : ByteList) (token : Token) (ts rest : List Token) (found : Members) (n : ℕ)
    (d : Data) (whole : Doc) → length (Token.key name ∷ token ∷ ts) ≤ n → data_of token ≡ Some d
    → Found (put name d found) (n - 1) ts whole rest
    → Found found n (Token.key name ∷ token ∷ ts) whole rest
found_more name token ts rest found n d whole enough is later =
    let one = value_one 125 token ts d is in
    let all = members_more (value 125) n name (Token.key name ∷ token ∷ ts) (token ∷ ts) ts one.0
    (omega arith) refl one.1 in (
      json.member name one.0 later.0,
      all ∙ ap (parse_map (json.member name one.0)) later.1,
      later.2,
      rw one.2 later.3,
      later.4,
      later.5,
    )

-- the rest of an object that is read flat
flat_found : (ts : List Token) (found : Members) (n : ℕ) (doc whole : Doc) (rest : List Token)
    → length ts ≤ n → AreFields found doc → Rises doc → flat_rest doc ts ≡ Some (whole, rest)
    → Found found n ts whole rest
flat_found [] found n doc whole rest enough fields rises is = absurd (cc)
flat_found (Token.begin_object ∷ ts) found n doc whole rest enough fields rises is = absurd (cc)
flat_found (Token.end_object ∷ ts) found n doc whole rest enough fields rises is =
    found_end ts rest found n doc whole enough fields rises is
flat_found (Token.begin_array ∷ ts) found n doc whole rest enough fields rises is = absurd (cc)
flat_found (Token.end_array ∷ ts) found n doc whole rest enough fields rises is = absurd (cc)
flat_found (Token.key name ∷ []) found n doc whole rest enough fields rises is = absurd (cc)
flat_found (Token.key name ∷ token ∷ ts) found n doc whole rest enough fields rises is =
    let field = went_on _ (token_field name token) (whole, rest) is in
    let read = went_on _ (data_of token) field.0 field.1 in
    let f = field.0 in
    found_more name token ts rest found n read.0 whole enough read.1
    (flat_found ts (put name read.0 found) (n - 1) (tuple.put f.0 f.1 doc) whole rest (omega arith)
    (fields_named name read.0 f found doc read.2 fields) (put_rises f.0 f.1 doc rises) field.2)
flat_found (Token.string s ∷ ts) found n doc whole rest enough fields rises is = absurd (cc)
flat_found (Token.number s ∷ ts) found n doc whole rest enough fields rises is = absurd (cc)
flat_found (Token.boolean b ∷ ts) found n doc whole rest enough fields rises is = absurd (cc)
flat_found (Token.null ∷ ts) found n doc whole rest enough fields rises is = absurd (cc)
flat_found (Token.bad ∷ ts) found n doc whole rest enough fields rises is = absurd (cc)

-- an object that is read flat asks for the write of its document
pub flat_asks : (ts inside rest : List Token) (doc final : Doc)
    → ts ≡ Token.begin_object ∷ inside → flat_rest [] inside ≡ Some (doc, rest)
    → allowed 0 doc ≡ Ok final → Asks ts (Put final) rest
flat_asks ts inside rest doc final begins is fits =
    let all = flat_found inside no_members (length inside) [] doc rest (omega arith) tt tt is in
    record {
      inside = inside;
      begins = begins;
      written = all.0;
      is_read = all.1;
      found = all.2;
      means = all.3;
      asks = λ at. fields_ask all.2 doc final at all.4 all.5 fits;
    }

-- ---- the items of a list

-- the value of an item that asks for a write
asks_value : (ts rest : List Token) (write : Write) (asks : Asks ts write rest)
    → value 126 ts ≡ Some (json.object asks.written, rest)
asks_value ts rest write asks =
    ap (value 126) asks.begins ∙ value-begin_object 126 asks.inside (omega arith)
    ∙ ap (parse_map json.object) asks.is_read

-- such an item takes tokens
pub asks_shorter : (ts rest : List Token) (write : Write) → Asks ts write rest
    → length rest < length ts
asks_shorter ts rest write asks =
    skip_value-shorter 126 ts rest (ap left (asks_value ts rest write asks))

-- the items that are read, which ask for the writes
abbrev Listed : ℕ → ℕ → List Token → List Write → List Token → Type 0
Listed n at ts writes rest =
    (written : json.Items) × (items (value 126) n ts ≡ Some (written, rest))
    × (all : Items) × (of_items written ≡ Some all)
    × (each_from put_of at (item_list all) ≡ Ok writes)

-- no array ends where an object begins
goes_on : (ts inside : List Token) → ts ≡ Token.begin_object ∷ inside → after_end_array ts ≡ None
goes_on ts inside begins = ap after_end_array begins

-- the rest of a list
flat_listed : (writes : List Write) (ts rest : List Token) (n at : ℕ) → length ts ≤ n
    → AreWrites ts writes rest → Listed n at ts writes rest
flat_listed [] ts rest n at enough ends =
    (json.no_items, items_end (value 126) n ts rest enough ends, no_items, refl, refl)
flat_listed (write ∷ writes) ts rest n at enough (between, asks, more) =
    let shorter = asks_shorter ts between write asks in
    let later = flat_listed writes between rest (n - 1) (at + 1) (omega arith) more in
    let one = json.object asks.written in
    let all = items_more (value 126) n ts between one (omega arith)
    (goes_on ts asks.inside asks.begins) (asks_value ts between write asks) in (
      json.item one later.0,
      all ∙ ap (parse_map (json.item one)) later.1,
      item (object asks.found) later.2,
      rw (asks.means, later.3),
      rw (asks.asks at, later.4),
    )

-- ---- the body

-- the value of the tokens of a list
list_value : (text inside : List Token) (writes : List Write)
    → text ≡ Token.begin_array ∷ inside → (all : Listed (length inside) 0 inside writes [])
    → value 127 text ≡ Some (json.array all.0, [])
list_value text inside writes begins all =
    ap (value 127) begins ∙ value-begin_array 127 inside (omega arith)
    ∙ ap (parse_map json.array) all.1

-- a body that is a list of such items is the update of their writes
pub flat_update : (bytes : List ℕ) (inside : List Token) (writes : List Write) → IsUtf8 bytes
    → tokens bytes ≡ Token.begin_array ∷ inside → AreWrites inside writes []
    → update_in bytes ≡ Ok (record { writes = writes; commit = false })
unfolding lex punctuate
flat_update [] inside writes text begins are = absurd (cc)
flat_update (byte ∷ bytes) inside writes text begins are =
    let all = flat_listed writes inside [] (length inside) 0 (omega arith) are in
    let is : read (byte ∷ bytes) ≡ Some (array all.2) =
    rw (list_value (tokens (byte ∷ bytes)) inside writes begins all) (rw all.3) in
    rw (json_in-text (byte ∷ bytes) (array all.2) text is, all.4)

-- the same of a call that answers the writes
pub read_update : (r : Result (Option (List Write)) Memory) (bytes : List ℕ) (old : List Token)
    → IsUtf8 bytes → old ≡ tokens bytes
    → IfOk r (λ found. IfSome found (λ all. (inside : List Token)
    × (old ≡ Token.begin_array ∷ inside) × AreWrites inside all []))
    → IfOk r (λ found. IfSome found (λ all.
    update_in bytes ≡ Ok (record { writes = all; commit = false })))
read_update (Err e) bytes old text is reads = tt
read_update (Ok None) bytes old text is reads = tt
read_update (Ok (Some all)) bytes old text is (inside, begins, are) =
    flat_update bytes inside all text (sym is ∙ begins) are

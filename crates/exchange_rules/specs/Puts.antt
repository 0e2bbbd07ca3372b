-- The document that an update writes of a tuple (Solr Reference Guide, "Stream Decorator Reference",
-- update; the reserved names, the kinds and the limits are own).
use Rattle.std.specs.Prelude.{ℕ, ◌+◌, Bool, not, List, [], ◌∷◌, filter, nat_lt, Option, Some, None, option_and_then, Result, Ok, Err, if◌then◌else◌}
use Rattle.tuple_values.specs.Document.{ByteList, Datum, Doc, value_at, is_named}
use Rattle.tuple_values.specs.Kinds.{coerced}
use Rattle.tuple_values.specs.Sizes.{doc_bytes}
use Rattle.tuple_values.specs.declared.write.Write.{Write}
use Rattle.tuple_values.specs.declared.write.Write.TheVariants.{Put}
use Rattle.shard_versions.specs.Documents.{id_name, reserved_names, text_of, is_empty}
use Rattle.exchange_rules.specs.declared.run.RunFault.{RunFault}
use Rattle.exchange_rules.specs.declared.run.RunFault.TheVariants.{BadTuple, TupleTooLarge}

-- the largest size of a document
abbrev pub largest_document : ℕ
largest_document = 1048576

-- the document without the fields whose names are reserved
abbrev pub unreserved : Doc → Doc
unreserved doc = filter (λ f. not (is_named f.0 reserved_names)) doc

-- a field before the others, or its name where its value has no form in the kind of its name
abbrev pub with_field : ByteList → Option Datum → Result Doc ByteList → Result Doc ByteList
with_field name None others = Err name
with_field name (Some value) (Ok doc) = Ok ((name, value) ∷ doc)
with_field name (Some value) (Err other) = Err other

-- the document with each value in the kind of its name, or the first name whose value has no such
-- form
abbrev pub in_kinds : Doc → Result Doc ByteList
in_kinds [] = Ok []
in_kinds (f ∷ doc) = with_field f.0 (coerced f.0 f.1) (in_kinds doc)

-- whether the document has an id that isn't empty
abbrev pub has_id : Doc → Bool
has_id doc = not (is_empty (text_of (option_and_then (coerced id_name) (value_at id_name doc))))

-- the write of a document, unless it is too large
abbrev pub sized : ℕ → Doc → Result Write RunFault
sized at doc =
    if nat_lt largest_document (doc_bytes doc) then Err (TupleTooLarge at) else Ok (Put doc)

-- the same of one whose values could be given their kinds
abbrev pub kept : ℕ → Result Doc ByteList → Result Write RunFault
kept at (Ok doc) = sized at doc
kept at (Err field) = Err (BadTuple at field)

-- the write that the tuple at this place asks for, or why there is none
abbrev pub put_of : ℕ → Doc → Result Write RunFault
put_of at doc =
    if has_id (unreserved doc) then kept at (in_kinds (unreserved doc))
    else Err (BadTuple at id_name)

-- a write before the others, or the first fault
abbrev pub with_put : Result Write RunFault → Result (List Write) RunFault
    → Result (List Write) RunFault
with_put (Err fault) others = Err fault
with_put (Ok write) (Ok writes) = Ok (write ∷ writes)
with_put (Ok write) (Err fault) = Err fault

-- the writes that tuples from this place on ask for, or the fault of the first that asks for none
abbrev pub puts_of : ℕ → List Doc → Result (List Write) RunFault
puts_of at [] = Ok []
puts_of at (doc ∷ docs) = with_put (put_of at doc) (puts_of (at + 1) docs)

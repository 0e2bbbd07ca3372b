-- The writes that lists and commands ask for, in order, or their first fault (own rule, after the
-- Solr Reference Guide, "Indexing with Update Handlers").
use Rattle.std.specs.Prelude.{ℕ, ◌+◌, ◌==◌, List, [], ◌∷◌, ◌++◌, length, Bool, ◌||◌, bytes_eq}
use Rattle.std.specs.Prelude.{codes}
use Rattle.std.specs.Prelude.{if◌then◌else◌, Option, Some, None, option_map, Result, Ok, Err}
use Rattle.std.specs.List.{list_all}
use Rattle.std.specs.Option.{option_map_or}
use Rattle.std.specs.Fmt.{signed_decimal}
use Rattle.serde_json.specs.Data.{Data, null, boolean, number, string, array, object}
use Rattle.serde_json.specs.Data.{Items, no_items, item}
use Rattle.serde_json.specs.Find.{as_i64, get_member}
use Rattle.tuple_values.specs.Document.{ByteList}
use Rattle.tuple_values.specs.declared.write.Write.{Write}
use Rattle.tuple_values.specs.declared.write.Write.TheVariants.{Put, Del}
use Rattle.json_text.specs.declared.fault.JsonFault.{JsonFault}
use Rattle.json_text.specs.declared.fault.JsonFault.TheVariants.{NotADocument}
use Rattle.json_text.specs.Documents.{member_list, document_of}

-- what follows from an answer, unless it is a fault
abbrev pub and_then : {A B : Type 0}
    → (A → Result B JsonFault) → Result A JsonFault → Result B JsonFault
and_then next (Ok value) = next value
and_then next (Err fault) = Err fault

-- the items of an array
abbrev pub item_list : Items → List Data
item_list no_items = []
item_list (item value items) = value ∷ item_list items

-- the writes of a list, or its first fault
abbrev pub Outcome : Type 0
Outcome = Result (List Write) JsonFault

-- what a list's item asks for at its place
abbrev pub Reading : Type 0
Reading = ℕ → Data → Result Write JsonFault

-- the write of a document at its place in its list
abbrev pub put_of : Reading
put_of at value = and_then (λ doc. Ok (Put doc)) (document_of at value)

-- the id that a value is: a text, or a whole number of 64 bits in decimal
abbrev pub id_of : Data → Option ByteList
id_of null = None
id_of (boolean b) = None
id_of (number n) = option_map signed_decimal (as_i64 n)
id_of (string bytes) = Some bytes
id_of (array items) = None
id_of (object fields) = None

-- the deletion of the id at its place in its list
abbrev pub del_of : Reading
del_of at value = option_map_or (λ id. Ok (Del id)) (id_of value) (Err (NotADocument at))

-- the writes of the items of a list from a place on, or the first fault among them
abbrev pub each_from : Reading → ℕ → List Data → Outcome
each_from write at [] = Ok []
each_from write at (value ∷ values) =
    and_then (λ first. and_then (λ rest. Ok (first ∷ rest)) (each_from write (at + 1) values))
    (write at value)

-- the writes of a list, if there is one
abbrev pub each_of : Reading → Option (List Data) → Outcome
each_of write None = Err (NotADocument 0)
each_of write (Some values) = each_from write 0 values

-- a key of the command `add`
abbrev pub is_add_key : ByteList → Bool
is_add_key name = bytes_eq name (codes "doc") || bytes_eq name (codes "commitWithin")

-- the document of the command `add`: an object with `doc`, and at most `commitWithin` beside it
abbrev pub added : Data → Option (List Data)
added null = None
added (boolean b) = None
added (number n) = None
added (string bytes) = None
added (array items) = None
added (object members) =
    if list_all (λ m. is_add_key m.0) (member_list members)
    then option_map (λ value. value ∷ []) (get_member (codes "doc") members) else None

-- the ids of the command `delete`: a list of them, an object whose one key is `id`, or one alone
abbrev pub deleted : Data → Option (List Data)
deleted null = Some (null ∷ [])
deleted (boolean b) = Some (boolean b ∷ [])
deleted (number n) = Some (number n ∷ [])
deleted (string bytes) = Some (string bytes ∷ [])
deleted (array items) = Some (item_list items)
deleted (object members) =
    if length (member_list members) == 1
    then option_map (λ value. value ∷ []) (get_member (codes "id") members) else None

-- the writes that are there, and those of an answer behind them
abbrev pub behind : List Write → Outcome → Outcome
behind writes more = and_then (λ rest. Ok (writes ++ rest)) more

-- the writes of the command `add`, if it is given
abbrev pub adds : Option Data → Outcome
adds None = Ok []
adds (Some value) = each_of put_of (added value)

-- the writes of the command `delete`, if it is given
abbrev pub dels : Option Data → Outcome
dels None = Ok []
dels (Some value) = each_of del_of (deleted value)

-- the writes of `add`, and then those of `delete`
abbrev pub command_writes : Option Data → Option Data → Outcome
command_writes add delete = and_then (λ puts. behind puts (dels delete)) (adds add)

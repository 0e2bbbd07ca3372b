-- What update a body is: its writes and whether they are committed, or its first fault (own rule,
-- after the Solr Reference Guide, "Indexing with Update Handlers").
use Rattle.std.specs.Prelude.{ℕ, List, [], ◌∷◌, Bool, false, ◌||◌, bytes_eq, codes, if◌then◌else◌}
use Rattle.std.specs.Prelude.{Option, None, is_some, Result, Ok, Err}
use Rattle.std.specs.List.{list_all}
use Rattle.std.specs.Option.{option_map_or}
use Rattle.std.specs.Str.{is_utf8}
use Rattle.serde_json.specs.Data.{Data, null, boolean, number, string, array, object, Members}
use Rattle.serde_json.specs.Find.{get_member}
use Rattle.serde_json.specs.Read.{read}
use Rattle.tuple_values.specs.Document.{ByteList}
use Rattle.json_text.specs.declared.fault.JsonFault.{JsonFault}
use Rattle.json_text.specs.declared.fault.JsonFault.TheVariants.{NotJson, NotADocument, NoId}
use Rattle.json_text.specs.declared.update.Update.{Update}
use Rattle.json_text.specs.Documents.{member_list}
use Rattle.json_text.specs.Writes.{and_then, Outcome, item_list, put_of, each_from, command_writes}

-- a key of an object of commands
abbrev pub is_command : ByteList → Bool
is_command name =
    bytes_eq name (codes "add") || bytes_eq name (codes "delete")
    || bytes_eq name (codes "commit")

-- an update with these writes
abbrev pub update_with : Bool → Outcome → Result Update JsonFault
update_with commits writes =
    and_then (λ done. Ok (record { writes = done; commit = commits })) writes

-- whether a command is given
abbrev pub has_command : Members → Bool
has_command members =
    is_some (get_member (codes "add") members) || is_some (get_member (codes "delete") members)
    || is_some (get_member (codes "commit") members)

-- an object of commands: it has one or more of their keys, and no other
abbrev pub commands_of : Members → Result Update JsonFault
commands_of members =
    if has_command members
    then (if list_all (λ m. is_command m.0) (member_list members)
    then update_with (is_some (get_member (codes "commit") members))
    (command_writes (get_member (codes "add") members) (get_member (codes "delete") members))
    else Err (NotADocument 0))
    else Err (NoId 0)

-- a list of documents, one document, which has an id, or commands
abbrev pub update_of : Data → Result Update JsonFault
update_of null = Err (NotADocument 0)
update_of (boolean b) = Err (NotADocument 0)
update_of (number n) = Err (NotADocument 0)
update_of (string bytes) = Err (NotADocument 0)
update_of (array items) = update_with false (each_from put_of 0 (item_list items))
update_of (object members) =
    if is_some (get_member (codes "id") members)
    then update_with false (each_from put_of 0 (object members ∷ []))
    else commands_of members

-- the JSON value that bytes are, by serde_json
abbrev pub json_in : List ℕ → Option Data
json_in bytes = if is_utf8 bytes then read bytes else None

-- the update that a body is: a body of no byte is an update without writes
abbrev pub update_in : List ℕ → Result Update JsonFault
update_in [] = Ok (record { writes = []; commit = false })
update_in (byte ∷ bytes) = option_map_or update_of (json_in (byte ∷ bytes)) (Err NotJson)

-- What holds of every body: the members of an object are in order, so that the first is the first
-- by bytes; a document has under each name what the member of the name becomes; in a list the
-- first fault is told; and the pieces of a result set are its bytes (own).
use Rattle.std.specs.Prelude.{◌≡◌, List, [], ◌∷◌, bytes_eq, Option, option_map, option_and_then, ℕ}
use Rattle.std.specs.Prelude.{◌+◌, ◌++◌, length, Ok, Err}
use Rattle.std.specs.Prelude.{find}
use Rattle.std.specs.declared.cmp.Ordering.TheVariants.{Less}
use Rattle.std.specs.List.{AllByRecursion, concat}
use Rattle.serde_json.specs.Data.{Data, Members, put}
use Rattle.tuple_values.specs.Document.{ByteList, Datum, Doc, bytes_cmp, value_at}
use Rattle.tuple_values.specs.declared.write.Write.{Write}
use Rattle.json_text.specs.declared.fault.JsonFault.{JsonFault}
use Rattle.json_text.specs.Documents.{Member, member_list, field_of, fields_in}
use Rattle.json_text.specs.Writes.{Reading, each_from}
use Rattle.json_text.specs.Replies.{body}
use Rattle.json_text.specs.Pieces.{pieces_of}

-- the name is below the name of each member
abbrev pub IsUnder : ByteList → List Member → Type 0
IsUnder name members = AllByRecursion (λ m. bytes_cmp name m.0 ≡ Less) members

-- each name is below those after it, so no name comes twice
abbrev pub Ascend : List Member → Type 0
Ascend [] = Unit {0}
Ascend (m ∷ members) = IsUnder m.0 members × Ascend members

-- members that are put one after another, as serde_json puts those that it reads, ascend
abbrev pub PutsAscend : Type 0
PutsAscend =
    (name : ByteList) (value : Data) (members : Members) → Ascend (member_list members)
    → Ascend (member_list (put name value members))

-- the value that the member of a name becomes
abbrev pub field_at : ByteList → List Member → Option Datum
field_at name members =
    option_map (λ f. f.1) (option_and_then field_of (find (λ m. bytes_eq m.0 name) members))

-- a document has under each name what the member of the name becomes
abbrev pub DocumentsHaveMembers : Type 0
DocumentsHaveMembers =
    (name : ByteList) (members : List Member) → Ascend members
    → value_at name (fields_in members) ≡ field_at name members

-- in a list the fault of the first item that has one is told, by its place
abbrev pub FirstFaultIsTold : Type 0
FirstFaultIsTold =
    (write : Reading) (at place : ℕ) (before after : List Data) (value : Data)
    (writes : List Write) (fault : JsonFault)
    → each_from write at before ≡ Ok writes → place ≡ at + length before
    → write place value ≡ Err fault
    → each_from write at (before ++ value ∷ after) ≡ Err fault

-- joined, the pieces of a result set are its body
abbrev pub PiecesAreTheBody : Type 0
PiecesAreTheBody =
    (docs : List Doc) (exception : Option ByteList) (millis : ℕ)
    → concat (pieces_of docs exception millis) ≡ body docs exception millis

-- Lists of flat documents, by their tokens; for private clauses (own).
use Rattle.std.specs.Prelude.{◌≡◌, ℕ, List, [], ◌∷◌, length, Option, Some, None, option_map}
use Rattle.std.specs.Prelude.{option_and_then, Ok}
use Rattle.json.specs.Token.{Token}
use Rattle.json.specs.Json as json
use Rattle.json.specs.Json.{after_end_array, members, value}
use Rattle.serde_json.specs.Data.{Data, null, boolean, number, string, object, Members, no_members}
use Rattle.serde_json.specs.Read.{number_of, of_members}
use Rattle.tuple_values.specs.Document.{ByteList, Datum, Doc, put}
use Rattle.tuple_values.specs.declared.write.Write.{Write}
use Rattle.json_text.specs.Documents.{field_of}
use Rattle.json_text.specs.Writes.{put_of}

-- the value that one token is
abbrev pub data_of : Token → Option Data
data_of Token.begin_object = None
data_of Token.end_object = None
data_of Token.begin_array = None
data_of Token.end_array = None
data_of (Token.key name) = None
data_of (Token.string bytes) = Some (string bytes)
data_of (Token.number digits) = option_map number (number_of digits)
data_of (Token.boolean b) = Some (boolean b)
data_of Token.null = Some null
data_of Token.bad = None

-- the field that a name and the token behind it become
abbrev pub token_field : ByteList → Token → Option (ByteList × Datum)
token_field name token = option_and_then (λ member. field_of (name, member)) (data_of token)

-- the document with the fields that the rest of an object adds, and the tokens behind the object:
-- each member is one token, and becomes a field
abbrev pub flat_rest : Doc → List Token → Option (Doc × List Token)
flat_rest doc [] = None
flat_rest doc (Token.begin_object ∷ tokens) = None
flat_rest doc (Token.end_object ∷ tokens) = Some (doc, tokens)
flat_rest doc (Token.begin_array ∷ tokens) = None
flat_rest doc (Token.end_array ∷ tokens) = None
flat_rest doc (Token.key name ∷ []) = None
flat_rest doc (Token.key name ∷ token ∷ tokens) =
    option_and_then (λ f. flat_rest (put f.0 f.1 doc) tokens) (token_field name token)
flat_rest doc (Token.string bytes ∷ tokens) = None
flat_rest doc (Token.number digits ∷ tokens) = None
flat_rest doc (Token.boolean b ∷ tokens) = None
flat_rest doc (Token.null ∷ tokens) = None
flat_rest doc (Token.bad ∷ tokens) = None

-- the tokens begin with an object whose write is this one, and have this rest
pub record Asks (tokens : List Token) (write : Write) (rest : List Token) : Type 0 where
  pub inside : List Token
  pub begins : tokens ≡ Token.begin_object ∷ inside
  pub written : json.Members
  pub is_read : members (value 125) (length inside) inside ≡ Some (written, rest)
  pub found : Members
  pub means : of_members written no_members ≡ Some found
  pub asks : (at : ℕ) → put_of at (object found) ≡ Ok write

-- the tokens are the rest of a list, whose items ask for these writes, and have this rest
abbrev pub AreWrites : List Token → List Write → List Token → Type 0
AreWrites tokens [] rest = after_end_array tokens ≡ Some rest
AreWrites tokens (write ∷ writes) rest =
    (between : List Token) × Asks tokens write between × AreWrites between writes rest

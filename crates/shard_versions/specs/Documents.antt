-- Documents as a shard holds them: their ids, the reserved names, and what a delivery holds (own;
-- `id` and `_version_` are Solr's names).
use Rattle.std.specs.Prelude.{◌≡◌, ℕ, pos, Bool, true, false, not, ◌&&◌, ◌||◌, List, [], ◌∷◌, Option, Some, None, is_some, codes}
use Rattle.std.specs.List.{AllByRecursion}
use Rattle.tuple_values.specs.Document.{ByteList, Datum, long, text, group, Doc, value_at, put, is_named}

-- the name of the field with a document's id
abbrev pub id_name : ByteList
id_name = codes "id"

-- the name of the field with the version in which a document is read
abbrev pub version_name : ByteList
version_name = codes "_version_"

-- the name of the field with a delivery's source
abbrev pub source_name : ByteList
source_name = codes "_src_s"

-- the name of the field with the version that it had there
abbrev pub source_version_name : ByteList
source_version_name = codes "_src_version_l"

-- the names of the two fields by which a delivery tells where it comes from
abbrev pub origin_names : List ByteList
origin_names = source_name ∷ source_version_name ∷ []

-- the names of the fields that a delivery doesn't take over from its source
abbrev pub reserved_names : List ByteList
reserved_names = version_name ∷ origin_names

-- the text that a field holds, and the empty text where it holds none
abbrev pub text_of : Option Datum → ByteList
text_of None = []
text_of (Some (long n)) = []
text_of (Some (text bytes)) = bytes
text_of (Some (group rows)) = []

-- the document's id, and the empty text where it has none
unfoldable pub id_of : Doc → ByteList
id_of doc = text_of (value_at id_name doc)

-- the document as it is read in this version
unfoldable pub with_version : ℕ → Doc → Doc
with_version version doc = put version_name (long (pos version)) doc

-- whether the value is a group
abbrev pub is_group : Datum → Bool
is_group (long n) = false
is_group (text bytes) = false
is_group (group rows) = true

-- whether one of the fields holds a group
abbrev pub has_group : Doc → Bool
has_group [] = false
has_group (f ∷ doc) = is_group f.1 || has_group doc

-- whether the text is empty
abbrev pub is_empty : ByteList → Bool
is_empty [] = true
is_empty (byte ∷ bytes) = false

-- whether a shard takes the document: it has an id, no group and no version of its own
unfoldable pub is_storable : Doc → Bool
is_storable doc =
    not (is_empty (id_of doc)) && not (has_group doc) && not (is_some (value_at version_name doc))

-- the field is one of the two that tell the origin, or it isn't reserved and is a field of the
-- document
abbrev pub IsCarried : Doc → ByteList × Datum → Type 0
IsCarried doc f =
    is_named f.0 origin_names ≡ false
    → (is_named f.0 reserved_names ≡ false) × (value_at f.0 doc ≡ Some f.1)

-- the delivered document is one of the source's document in this version
pub record IsFromDocument (delivered : Doc) (src : ByteList) (version : ℕ) (doc : Doc)
    : Type 0 where
  pub same_id : id_of delivered ≡ id_of doc
  pub source : value_at source_name delivered ≡ Some (text src)
  pub source_version : value_at source_version_name delivered ≡ Some (long (pos version))
  pub others : AllByRecursion (IsCarried doc) delivered

-- the same behind one name, which facts about histories cite
unfoldable pub IsFrom : Doc → ByteList → ℕ → Doc → Type 0
IsFrom delivered src version doc = IsFromDocument delivered src version doc

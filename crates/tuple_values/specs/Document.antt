-- Values and documents as a contract sees them: a tuple is its fields in order of their names (own).
use Rattle.std.specs.Prelude.{◌≡◌, ℕ, zero, suc, ℤ, ◌+◌, List, [], ◌∷◌, Option, Some, None, Bool, false, ◌||◌, bytes_eq, if◌then◌else◌}
use Rattle.std.specs.Ordering.{nat_cmp}
use Rattle.std.specs.Cmp.Lexicographic.{slice_cmp}
use Rattle.std.specs.declared.cmp.Ordering.{Ordering}
use Rattle.std.specs.declared.cmp.Ordering.TheVariants.{Less, Equal, Greater}
use Rattle.std.specs.List.{AllByRecursion}

-- a text is its bytes
abbrev pub ByteList : Type 0
ByteList = List ℕ

-- texts in the order of their bytes
abbrev pub bytes_cmp : ByteList → ByteList → Ordering
bytes_cmp = slice_cmp nat_cmp

mutual
  -- a value is a 64-bit number, a text or a group of tuples
  pub data Datum : Type 0 where
    long : ℤ → Datum
    text : ByteList → Datum
    group : Rows → Datum

  -- a group is a list of tuples
  pub data Rows : Type 0 where
    no_rows : Rows
    row : Fields → Rows → Rows

  -- a tuple in a group is a list of names with their values
  pub data Fields : Type 0 where
    no_fields : Fields
    field : ByteList → Datum → Fields → Fields

-- a document is the list of its fields, each a name with its value
abbrev pub Doc : Type 0
Doc = List (ByteList × Datum)

-- the name is below the name of each field
abbrev pub IsBelow : ByteList → Doc → Type 0
IsBelow name doc = AllByRecursion (λ f. bytes_cmp name f.0 ≡ Less) doc

-- each name is below those after it, so no name comes twice
abbrev pub Rises : Doc → Type 0
Rises [] = Unit {0}
Rises (f ∷ doc) = IsBelow f.0 doc × Rises doc

-- the named field's value, where the document has it
abbrev pub value_at : ByteList → Doc → Option Datum
value_at name [] = None
value_at name (f ∷ doc) = if bytes_eq f.0 name then Some f.1 else value_at name doc

-- which of three documents, by how the first field's name compares with a name
abbrev pub put_by : Ordering → Doc → Doc → Doc → Doc
put_by Less behind here before = behind
put_by Equal behind here before = here
put_by Greater behind here before = before

-- the document with the value under the name, in place of the one that is there
abbrev pub put : ByteList → Datum → Doc → Doc
put name value [] = (name, value) ∷ []
put name value (f ∷ doc) =
    put_by (bytes_cmp f.0 name)
    (f ∷ put name value doc) ((name, value) ∷ doc) ((name, value) ∷ f ∷ doc)

-- the document without the named field
abbrev pub without : ByteList → Doc → Doc
without name [] = []
without name (f ∷ doc) =
    put_by (bytes_cmp f.0 name) (f ∷ without name doc) doc (f ∷ without name doc)

-- the fields of both, and the right one's value where names meet
abbrev pub over : Doc → Doc → Doc
over left [] = left
over left (f ∷ right) = over (put f.0 f.1 left) right

-- whether the name is in the list
abbrev pub is_named : ByteList → List ByteList → Bool
is_named name [] = false
is_named name (other ∷ names) = bytes_eq other name || is_named name names

-- the field at the place has the name, and those before it have names below
abbrev pub IsAt : ByteList → ℕ → Doc → Type 0
IsAt name place [] = ⊥
IsAt name zero (f ∷ doc) = bytes_cmp f.0 name ≡ Equal
IsAt name (suc place) (f ∷ doc) = (bytes_cmp f.0 name ≡ Less) × IsAt name place doc

-- the name isn't there, and would stand at the place
abbrev pub IsGap : ByteList → ℕ → Doc → Type 0
IsGap name zero doc = IsBelow name doc
IsGap name (suc place) [] = ⊥
IsGap name (suc place) (f ∷ doc) = (bytes_cmp f.0 name ≡ Less) × IsGap name place doc

-- the document as a tuple in a group
abbrev pub fields_of : Doc → Fields
fields_of [] = no_fields
fields_of (f ∷ doc) = field f.0 f.1 (fields_of doc)

-- the documents as a group
abbrev pub rows_of : List Doc → Rows
rows_of [] = no_rows
rows_of (doc ∷ docs) = row (fields_of doc) (rows_of docs)

-- how much there is to go down in a value: a number that falls at each part
abbrev mutual
  pub datum_depth : Datum → ℕ
  datum_depth (long n) = 0
  datum_depth (text bytes) = 0
  datum_depth (group rows) = rows_depth rows + 1

  pub rows_depth : Rows → ℕ
  rows_depth no_rows = 1
  rows_depth (row fields rows) = fields_depth fields + rows_depth rows + 1

  pub fields_depth : Fields → ℕ
  fields_depth no_fields = 1
  fields_depth (field name value fields) = datum_depth value + fields_depth fields + 1

-- the same of a document and of a list of documents
abbrev pub doc_depth : Doc → ℕ
doc_depth doc = fields_depth (fields_of doc)

abbrev pub docs_depth : List Doc → ℕ
docs_depth docs = rows_depth (rows_of docs)

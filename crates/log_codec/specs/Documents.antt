-- How values and documents are spelled (own).
use Rattle.std.specs.Prelude.{ℕ, ◌≡◌, [], ◌∷◌, ◌++◌, FitsSigned}
use Rattle.std.specs.Int.{w64, cast_unsigned}
use Rattle.std.specs.List.{AllByRecursion}
use Rattle.std.specs.declared.cmp.Ordering.TheVariants.{Less}
use Rattle.tuple_values.specs.Document.{ByteList, bytes_cmp, Datum, long, text, group, Doc, Rises}
use Rattle.log_codec.specs.Codes.{spelled_number, spelled_text, spelled_list, AreCounted, AreSoMany, IsAtFront, IsText}

-- 1 and a number in two's complement, or 2 and a text; a group has no spelling
abbrev pub spelled_value : Datum → ByteList
spelled_value (long number) = 1 ∷ spelled_number (cast_unsigned w64 number)
spelled_value (text bytes) = 2 ∷ spelled_text bytes
spelled_value (group rows) = []

-- a number of 64 bits, or a text
abbrev pub IsSpellableValue : Datum → Type 0
IsSpellableValue (long number) = FitsSigned w64 number
IsSpellableValue (text bytes) = IsText bytes
IsSpellableValue (group rows) = ⊥

-- a name and a value
abbrev pub spelled_field : ByteList × Datum → ByteList
spelled_field field = spelled_text field.0 ++ spelled_value field.1

-- a text and a value that has a spelling
abbrev pub IsSpellableField : ByteList × Datum → Type 0
IsSpellableField field = IsText field.0 × IsSpellableValue field.1

-- the fields in order of their names, behind their number
abbrev pub spelled_document : Doc → ByteList
spelled_document document = spelled_list spelled_field document

-- fields that have a spelling, each with its name above those before it
pub record IsSpellableDocument (document : Doc) : Type 0 where
  pub fields : AreCounted IsSpellableField document
  pub rises : Rises document

-- each name of the document is below the name
abbrev pub AreBelow : Doc → ByteList → Type 0
AreBelow document name = AllByRecursion (λ field. bytes_cmp field.0 name ≡ Less) document

-- a text above each name of the document
abbrev pub IsNextName : Doc → ByteList → Type 0
IsNextName document name = IsText name × AreBelow document name

-- a field that may follow those of the document
abbrev pub IsNextField : Doc → ByteList × Datum → Type 0
IsNextField document field = IsNextName document field.0 × IsSpellableValue field.1

-- the field at the front of the bytes was added, and the rest follows it
pub record TakesField (old new : Doc) (bytes rest : ByteList) : Type 0 where
  pub field : ByteList × Datum
  pub front : IsAtFront (IsNextField old) spelled_field bytes field rest
  pub added : new ≡ old ++ field ∷ []

-- so many fields that have a spelling, each with its name above those before it
pub record AreFields (count : ℕ) (document : Doc) : Type 0 where
  pub fields : AreSoMany IsSpellableField count document
  pub rises : Rises document

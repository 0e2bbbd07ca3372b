-- Which items choose a field (own).
use Rattle.std.specs.Prelude.{List, [], ◌∷◌, Bool, false, ◌||◌, bytes_eq}
use Rattle.tuple_values.specs.Document.{ByteList}
use Rattle.expr_types.specs.declared.item.Item.{Item}
use Rattle.expr_types.specs.declared.item.Item.TheVariants.{Field, Replace, Concat}

-- whether an item chooses the field
abbrev pub chooses : ByteList → Item → Bool
chooses name (Field field to) = bytes_eq name field
chooses name (Replace field old new) = false
chooses name (Concat fields into delim) = false

-- whether one of several does
abbrev pub is_chosen : ByteList → List Item → Bool
is_chosen name [] = false
is_chosen name (item ∷ items) = chooses name item || is_chosen name items

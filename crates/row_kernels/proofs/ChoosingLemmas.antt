-- A field that no item chooses is no matter for what they choose.
use Rattle.std.proofs.Common.{◌≡◌, List, [], ◌∷◌, Bool, true, false, ◌||◌, if◌then◌else◌}
use Rattle.std.proofs.Common.{Option, Some, None, refl, sym, ap, ◌∙◌}
use Rattle.std.specs.Prelude.{option_map, bytes_eq}
use Rattle.std.specs.List.{filter_map, cons_option}
use Rattle.std.specs.declared.cmp.Ordering.{Ordering}
use Rattle.std.specs.declared.cmp.Ordering.TheVariants.{Less, Equal, Greater}
use Rattle.tuple_values.specs.Document.{ByteList, Datum, Doc, bytes_cmp, value_at, without, put_by}
use Rattle.tuple_values.proofs.MapLemmas.{bytes_same}
use Rattle.expr_types.specs.Rows.{chosen}
use Rattle.expr_types.specs.declared.item.Item.{Item}
use Rattle.expr_types.specs.declared.item.Item.TheVariants.{Field, Replace, Concat}
use Rattle.row_kernels.specs.Choosing.{chooses, is_chosen}

-- what a lookup sees past a first field of another name
past_other : (name : ByteList) (f : ByteList × Datum) (doc : Doc) → bytes_eq f.0 name ≡ false
    → value_at name (f ∷ doc) ≡ value_at name doc
past_other name f doc e = rw e refl

-- a field of another name that is taken away isn't seen
value_without-other : (name other : ByteList) (doc : Doc) → bytes_eq other name ≡ false
    → value_at name (without other doc) ≡ value_at name doc
value_without-other name other [] e = refl
value_without-other name other (f ∷ doc) e =
    go (bytes_cmp f.0 other) refl (value_without-other name other doc e)
  where
    go : (o : Ordering) → bytes_cmp f.0 other ≡ o
        → value_at name (without other doc) ≡ value_at name doc
        → value_at name (put_by o (f ∷ without other doc) doc (f ∷ without other doc))
        ≡ value_at name (f ∷ doc)
    go Less i later = ap (λ (r : Option Datum). if bytes_eq f.0 name then Some f.1 else r) later
    go Greater i later = ap (λ (r : Option Datum). if bytes_eq f.0 name then Some f.1 else r) later
    go Equal i later =
        sym
        (past_other name f doc
        (ap (λ (m : ByteList). bytes_eq m name) (bytes_same f.0 other i) ∙ e))

-- neither of two tests passes
first_false : (b c : Bool) → (b || c) ≡ false → b ≡ false
first_false true c e = absurd (cc)
first_false false c e = refl

second_false : (b c : Bool) → (b || c) ≡ false → c ≡ false
second_false true c e = absurd (cc)
second_false false c e = e

-- what an item chooses that doesn't choose the field
chosen_same : (name : ByteList) (doc : Doc) (item : Item) → chooses name item ≡ false
    → chosen (without name doc) item ≡ chosen doc item
chosen_same name doc (Field field to) e =
    ap (option_map (λ value. (to, value))) (value_without-other field name doc e)
chosen_same name doc (Replace field old new) e = refl
chosen_same name doc (Concat fields into delim) e = refl

-- and what several do
pub chosen_still : (name : ByteList) (doc : Doc) (items : List Item) → is_chosen name items ≡ false
    → filter_map (chosen (without name doc)) items ≡ filter_map (chosen doc) items
chosen_still name doc [] e = refl
chosen_still name doc (item ∷ items) e =
    let here = chosen_same name doc item
    (first_false (chooses name item) (is_chosen name items) e) in
    let later = chosen_still name doc items
    (second_false (chooses name item) (is_chosen name items) e) in
    ap (λ o. cons_option o (filter_map (chosen (without name doc)) items)) here
    ∙ ap (λ rest. cons_option (chosen doc item) rest) later

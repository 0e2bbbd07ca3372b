-- What select makes of a field that it keeps.
use Rattle.std.proofs.Common.{◌≡◌, List, [], ◌∷◌, ◌++◌, Bool, true, false, not, ◌&&◌, Option, Some}
use Rattle.std.proofs.Common.{None}
use Rattle.std.proofs.Common.{fold, if◌then◌else◌, refl, sym, ◌∙◌, ap}
use Rattle.std.specs.Prelude.{bytes_eq, option_map}
use Rattle.std.specs.List.{filter_map, cons_option}
use Rattle.std.specs.Option.{option_cmp, option_or}
use Rattle.std.specs.Ordering.{is_eq}
use Rattle.tuple_values.specs.Document.{ByteList, Datum, text, Doc, value_at, put, over}
use Rattle.tuple_values.specs.Order.{datum_cmp}
use Rattle.tuple_values.specs.Views.{datum_of}
use Rattle.tuple_values.proofs.MapLemmas.{value_put}
use Rattle.sort_spec.specs.declared.term.SortTerm.{SortTerm}
use Rattle.expr_types.specs.Rows.{chosen, with_value, with_text, joined_texts, texts_of, changed}
use Rattle.expr_types.specs.Rows.{selected}
use Rattle.expr_types.specs.declared.item.Item.{Item}
use Rattle.expr_types.specs.declared.item.Item.TheVariants.{Field, Replace, Concat}
use Rattle.expr_check.specs.Orders.{touches, is_untouched, is_touched_once, name_in}
use Rattle.expr_check.specs.Orders.{new_name}
use Rattle.expr_check.specs.Orders.{kept_term, kept_terms}
use Rattle.expr_check.proofs.NeedLemmas.{and_first, and_second, same_bytes, itself_bytes}
use Rattle.expr_check.proofs.AgreeLemmas.{Agrees, value_put-other, value_without-other}

-- what isn't so
not_so : (b : Bool) → not b ≡ true → b ≡ false
not_so true e = absurd (cc)
not_so false e = refl

-- the first field, where it is there, is put before the others
over_chosen : (acc : Doc) (f : Option (ByteList × Datum)) (fields : Doc)
    → over acc (cons_option f fields) ≡ over (over acc (cons_option f [])) fields
over_chosen acc None fields = refl
over_chosen acc (Some f) fields = refl

-- a value that is put in another field, or a field that is taken away
with_value-other : (name other : ByteList) (v : Option Datum) (doc : Doc)
    → bytes_eq other name ≡ false
    → value_at name (with_value other v doc) ≡ value_at name doc
with_value-other name other None doc e = value_without-other name other doc e
with_value-other name other (Some v) doc e = value_put-other name other v doc e

-- or a text
with_text-other : (name other : ByteList) (t : Option ByteList) (doc : Doc)
    → bytes_eq other name ≡ false → value_at name (with_text other t doc) ≡ value_at name doc
with_text-other name other None doc e = refl
with_text-other name other (Some t) doc e = value_put-other name other (text t) doc e

-- a choice of two documents that have the same value
either_same : (name : ByteList) (b : Bool) (d doc : Doc) → value_at name d ≡ value_at name doc
    → value_at name (if b then d else doc) ≡ value_at name doc
either_same name true d doc e = e
either_same name false d doc e = refl

-- a change by an item that doesn't touch the name
pub changed-other : (name : ByteList) (doc : Doc) (item : Item) → touches name item ≡ false
    → value_at name (changed doc item) ≡ value_at name doc
changed-other name doc (Field field to) e = refl
changed-other name doc (Replace field old new) e =
    either_same name (is_eq (option_cmp datum_cmp (value_at field doc) (option_map datum_of old)))
    (with_value field (option_map datum_of new) doc) doc
    (with_value-other name field (option_map datum_of new) doc e)
changed-other name doc (Concat fields into delim) e =
    with_text-other name into (joined_texts delim (texts_of doc fields)) doc e

-- the value of a field that is put, where it is there
put_chosen-other : (name to : ByteList) (v : Option Datum) (acc : Doc) → bytes_eq to name ≡ false
    → value_at name (over acc (cons_option (option_map (λ w. (to, w)) v) [])) ≡ value_at name acc
put_chosen-other name to None acc e = refl
put_chosen-other name to (Some v) acc e = value_put-other name to v acc e

-- a choice by an item that doesn't touch the name
chosen-other : (name : ByteList) (doc acc : Doc) (item : Item) → touches name item ≡ false
    → value_at name (over acc (cons_option (chosen doc item) [])) ≡ value_at name acc
chosen-other name doc acc (Field field to) e = put_chosen-other name to (value_at field doc) acc e
chosen-other name doc acc (Replace field old new) e = refl
chosen-other name doc acc (Concat fields into delim) e = refl

-- changes by items that don't touch the name
pub changes-untouched : (name : ByteList) (doc : Doc) (items : List Item)
    → is_untouched name items ≡ true → value_at name (fold changed doc items) ≡ value_at name doc
changes-untouched name doc [] e = refl
changes-untouched name doc (item ∷ items) e =
    changes-untouched name (changed doc item) items (and_second (not (touches name item)) _ e)
    ∙ changed-other name doc item
    (not_so (touches name item) (and_first (not (touches name item)) _ e))

-- choices by items that don't touch the name
pub choices-untouched : (name : ByteList) (doc acc : Doc) (items : List Item)
    → is_untouched name items ≡ true
    → value_at name (over acc (filter_map (chosen doc) items)) ≡ value_at name acc
choices-untouched name doc acc [] e = refl
choices-untouched name doc acc (item ∷ items) e =
    ap (value_at name) (over_chosen acc (chosen doc item) (filter_map (chosen doc) items))
    ∙ choices-untouched name doc (over acc (cons_option (chosen doc item) [])) items
    (and_second (not (touches name item)) _ e)
    ∙ chosen-other name doc acc item
    (not_so (touches name item) (and_first (not (touches name item)) _ e))

-- an item that chooses the field under the name is just that
pub field_in : (field name : ByteList) (item : Item) → name_in field item ≡ Some name
    → item ≡ Field field name
field_in field name (Field other to) e = go (bytes_eq other field) refl e where
  go : (b : Bool) → bytes_eq other field ≡ b → (if b then Some to else None) ≡ Some name
      → Field other to ≡ Field field name
  go true t i =
      let same : to ≡ name = cc in
      ap (λ (f : ByteList). Field f to) (same_bytes other field t)
      ∙ ap (λ (n : ByteList). Field field n) same
  go false t i = absurd (cc)
field_in field name (Replace other old new) e = absurd (cc)
field_in field name (Concat fields into delim) e = absurd (cc)

-- and touches the name
touches_in : (field name : ByteList) (item : Item) → name_in field item ≡ Some name
    → touches name item ≡ true
touches_in field name item e = ap (touches name) (field_in field name item e) ∙ itself_bytes name

-- a name that isn't touched is no new name
new_name-touched : (field name : ByteList) (items : List Item) → is_untouched name items ≡ true
    → new_name field items ≡ Some name → ⊥
new_name-touched field name [] e n = absurd (cc)
new_name-touched field name (item ∷ items) e n =
    go (new_name-touched field name items (and_second (not (touches name item)) _ e))
    (name_in field item) refl n where
      go : (new_name field items ≡ Some name → ⊥) → (o : Option ByteList) → name_in field item ≡ o
          → option_or o (new_name field items) ≡ Some name → ⊥
      go later None i m = later m
      go later (Some to) i m =
          let t = touches_in field name item (i ∙ m) in
          let f = not_so (touches name item) (and_first (not (touches name item)) _ e) in
          absurd (cc)

-- the one item that touches a name chooses the field under it
pub record IsSplit (field name : ByteList) (items : List Item) : Type 0 where
  pub before : List Item
  pub behind : List Item
  pub split : items ≡ before ++ (Field field name ∷ behind)
  pub clear_before : is_untouched name before ≡ true
  pub clear_behind : is_untouched name behind ≡ true

-- one more item before it
longer_split : (field name : ByteList) (item : Item) (items : List Item) → touches name item ≡ false
    → IsSplit field name items → IsSplit field name (item ∷ items)
longer_split field name item items e s = record {
  before = item ∷ s.before;
  behind = s.behind;
  split = ap (λ (l : List Item). item ∷ l) s.split;
  clear_before = ap (λ (b : Bool). not b && is_untouched name s.before) e ∙ s.clear_before;
  clear_behind = s.clear_behind;
}

-- so it is where the name is the new name of the field and touched once
pub split_items : (field name : ByteList) (items : List Item) → new_name field items ≡ Some name
    → is_touched_once name items ≡ true → IsSplit field name items
split_items field name [] n e = absurd (cc)
split_items field name (item ∷ items) n e =
    go (split_items field name items) (name_in field item) refl (touches name item) refl n e
  where
    go : (new_name field items ≡ Some name → is_touched_once name items ≡ true
        → IsSplit field name items)
        → (o : Option ByteList) → name_in field item ≡ o → (b : Bool) → touches name item ≡ b
        → option_or o (new_name field items) ≡ Some name
        → (if b then is_untouched name items else is_touched_once name items) ≡ true
        → IsSplit field name (item ∷ items)
    go later (Some to) i true t m e = record {
      before = [];
      behind = items;
      split = ap (λ (x : Item). x ∷ items) (field_in field name item (i ∙ m));
      clear_before = refl;
      clear_behind = e;
    }
    go later (Some to) i false t m e = let u = touches_in field name item (i ∙ m) in absurd (cc)
    go later None i true t m e = absurd (new_name-touched field name items e m)
    go later None i false t m e = longer_split field name item items t (later m e)

-- the changes leave the value of that name
changes-split : (field name : ByteList) (doc : Doc) (before behind : List Item)
    → is_untouched name before ≡ true → is_untouched name behind ≡ true
    → value_at name (fold changed doc (before ++ (Field field name ∷ behind)))
    ≡ value_at name doc
changes-split field name doc [] behind e f = changes-untouched name doc behind f
changes-split field name doc (item ∷ before) behind e f =
    changes-split field name (changed doc item) before behind
    (and_second (not (touches name item)) _ e) f
    ∙ changed-other name doc item
    (not_so (touches name item) (and_first (not (touches name item)) _ e))

-- a field that is put under the name, where it is there
put_chosen : (name : ByteList) (doc acc : Doc) (v : Option Datum) (items : List Item)
    → is_untouched name items ≡ true → value_at name acc ≡ None
    → value_at name
    (over acc (cons_option (option_map (λ w. (name, w)) v) (filter_map (chosen doc) items))) ≡ v
put_chosen name doc acc None items e none = choices-untouched name doc acc items e ∙ none
put_chosen name doc acc (Some w) items e none =
    choices-untouched name doc (put name w acc) items e ∙ value_put name w acc

-- the choices give the name the value of the field
choices-split : (field name : ByteList) (doc acc : Doc) (before behind : List Item)
    → is_untouched name before ≡ true → is_untouched name behind ≡ true
    → value_at name acc ≡ None
    → value_at name
    (over acc (filter_map (chosen doc) (before ++ (Field field name ∷ behind))))
    ≡ value_at field doc
choices-split field name doc acc [] behind e f none =
    put_chosen name doc acc (value_at field doc) behind f none
choices-split field name doc acc (item ∷ before) behind e f none =
    ap (value_at name)
    (over_chosen acc (chosen doc item)
    (filter_map (chosen doc) (before ++ (Field field name ∷ behind))))
    ∙ choices-split field name doc (over acc (cons_option (chosen doc item) [])) before behind
    (and_second (not (touches name item)) _ e) f
    (chosen-other name doc acc item
    (not_so (touches name item) (and_first (not (touches name item)) _ e)) ∙ none)

-- so a document has the field's value under the new name
selected-split : (field name : ByteList) (doc : Doc) (before behind : List Item)
    → is_untouched name before ≡ true → is_untouched name behind ≡ true
    → value_at name (selected (before ++ (Field field name ∷ behind)) doc) ≡ value_at field doc
selected-split field name doc before behind e f =
    changes-split field name
    (over [] (filter_map (chosen doc) (before ++ (Field field name ∷ behind)))) before behind e f
    ∙ choices-split field name doc [] before behind e f refl

-- for the new name of a field that is touched once
pub selected-once : (field name : ByteList) (doc : Doc) (items : List Item)
    → new_name field items ≡ Some name → is_touched_once name items ≡ true
    → value_at name (selected items doc) ≡ value_at field doc
selected-once field name doc items n e =
    let s = split_items field name items n e in
    ap (λ (l : List Item). value_at name (selected l doc)) s.split
    ∙ selected-split field name doc s.before s.behind s.clear_before s.clear_behind

-- the terms that are kept are the first ones under other names, and the values are the same
pub record IsKept (items : List Item) (terms kept : List SortTerm) : Type 0 where
  pub first : List SortTerm
  pub more : List SortTerm
  pub parted : terms ≡ first ++ more
  pub agrees : (doc : Doc) → Agrees first kept doc (selected items doc)

-- none is kept
none_kept : (items : List Item) (terms : List SortTerm) → IsKept items terms []
none_kept items terms = record {
  first = [];
  more = terms;
  parted = refl;
  agrees = λ doc. tt;
}

-- one more is kept
one_kept : (items : List Item) (term : SortTerm) (terms kept : List SortTerm) (name : ByteList)
    → new_name term.field items ≡ Some name → is_touched_once name items ≡ true
    → IsKept items terms kept
    → IsKept items (term ∷ terms) (record { field = name; descending = term.descending } ∷ kept)
one_kept items term terms kept name n e k = record {
  first = term ∷ k.first;
  more = k.more;
  parted = ap (λ (l : List SortTerm). term ∷ l) k.parted;
  agrees = λ doc. (refl, sym (selected-once term.field name doc items n e), k.agrees doc);
}

-- by which name it has
kept_by : (items : List Item) (term : SortTerm) (terms kept : List SortTerm)
    (name : Option ByteList) → new_name term.field items ≡ name → IsKept items terms kept
    → IsKept items (term ∷ terms) (kept_term items term name kept)
kept_by items term terms kept None n k = none_kept items (term ∷ terms)
kept_by items term terms kept (Some name) n k = go (is_touched_once name items) refl where
  go : (b : Bool) → is_touched_once name items ≡ b
      → IsKept items (term ∷ terms)
      (if b then record { field = name; descending = term.descending } ∷ kept else [])
  go true e = one_kept items term terms kept name n e k
  go false e = none_kept items (term ∷ terms)

-- for all terms
pub kept_terms-are : (items : List Item) (terms : List SortTerm)
    → IsKept items terms (kept_terms items terms)
kept_terms-are items [] = none_kept items []
kept_terms-are items (term ∷ terms) =
    kept_by items term terms (kept_terms items terms) (new_name term.field items) refl
    (kept_terms-are items terms)

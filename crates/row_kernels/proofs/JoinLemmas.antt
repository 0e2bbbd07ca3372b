-- Texts joined one by one are the texts joined.
use Rattle.std.proofs.Common.{◌≡◌, List, [], ◌∷◌, ◌++◌, Option, Some, None, sym, ◌∙◌, ap}
use Rattle.std.proofs.Common.{append_assoc, ℕ, ◌+◌, ◌<◌, length, take, get_or}
use Rattle.std.specs.Prelude.{option_and_then}
use Rattle.std.specs.List.{cons_option, flat_map}
use Rattle.std.proofs.lemmas.List.{append-nil, take_more}
use Rattle.std.proofs.lemmas.List.Elements.{filter_map-append}
use Rattle.tuple_values.specs.Document.{ByteList, Datum, Doc, value_at}
use Rattle.expr_types.specs.Conditions.{datum_text}
use Rattle.expr_types.specs.Rows.{joined_texts, texts_of}
use Rattle.row_kernels.specs.Joining.{joined_on, joined_maybe}

-- each text behind a delimiter, and one more
behind-append : (delim : ByteList) (texts : List ByteList) (bytes : ByteList)
    → flat_map (λ t. delim ++ t) (texts ++ bytes ∷ [])
    ≡ flat_map (λ t. delim ++ t) texts ++ (delim ++ bytes)
behind-append delim [] bytes = append-nil (delim ++ bytes)
behind-append delim (t ∷ texts) bytes =
    ap (λ w. (delim ++ t) ++ w) (behind-append delim texts bytes)
    ∙ sym (append_assoc (delim ++ t) (flat_map (λ t. delim ++ t) texts) (delim ++ bytes))

-- a text goes behind those that are joined
joined_texts-append : (delim : ByteList) (texts : List ByteList) (bytes : ByteList)
    → joined_texts delim (texts ++ bytes ∷ [])
    ≡ Some (joined_on delim (joined_texts delim texts) bytes)
joined_texts-append delim [] bytes = ap Some (append-nil bytes)
joined_texts-append delim (t ∷ texts) bytes =
    ap Some (ap (λ w. t ++ w) (behind-append delim texts bytes)
    ∙ sym (append_assoc t (flat_map (λ t. delim ++ t) texts) (delim ++ bytes))
    ∙ sym (append_assoc (t ++ flat_map (λ t. delim ++ t) texts) delim bytes))

-- also where there may be none
joined_texts-maybe : (delim : ByteList) (texts : List ByteList) (more : Option ByteList)
    → joined_texts delim (texts ++ cons_option more [])
    ≡ joined_maybe delim (joined_texts delim texts) more
joined_texts-maybe delim texts None = ap (joined_texts delim) (append-nil texts)
joined_texts-maybe delim texts (Some bytes) = joined_texts-append delim texts bytes

-- the text of one more field
pub joined_more : (delim : ByteList) (doc : Doc) (names : List ByteList) (name : ByteList)
    → joined_texts delim (texts_of doc (names ++ name ∷ []))
    ≡ joined_maybe delim (joined_texts delim (texts_of doc names))
    (option_and_then datum_text (value_at name doc))
joined_more delim doc names name =
    let text_at = λ (n : ByteList). option_and_then datum_text (value_at n doc) in
    ap (joined_texts delim) (filter_map-append text_at names (name ∷ []))
    ∙ joined_texts-maybe delim (texts_of doc names) (text_at name)

-- what is joined after the field at a place
pub joined_on_place : (delim : ByteList) (doc : Doc) (names : List ByteList) (i : ℕ)
    (name : ByteList) (before after : Option ByteList) (value : Option Datum)
    → i < length names → name ≡ get_or names i name → value ≡ value_at name doc
    → before ≡ joined_texts delim (texts_of doc (take i names))
    → after ≡ joined_maybe delim before (option_and_then datum_text value)
    → after ≡ joined_texts delim (texts_of doc (take (i + 1) names))
joined_on_place delim doc names i name before after value h at found so_far now =
    let joined = λ (ns : List ByteList). joined_texts delim (texts_of doc ns) in
    now
    ∙ ap (λ w. joined_maybe delim w (option_and_then datum_text value)) so_far
    ∙ ap (λ w. joined_maybe delim (joined (take i names)) (option_and_then datum_text w)) found
    ∙ sym (joined_more delim doc (take i names) name)
    ∙ ap (λ w. joined (take i names ++ w ∷ [])) at
    ∙ ap joined (sym (take_more names i name h))

-- The key of a document is made of the values under the names alone.
use Rattle.std.proofs.Common.{◌≡◌, List, [], ◌∷◌, ◌++◌, map, refl, ap, sym, ◌∙◌}
use Rattle.std.specs.List.{flat_map}
use Rattle.tuple_values.specs.Document.{ByteList, Doc, value_at}
use Rattle.tuple_values.specs.Keys.{key_part, key_text}

-- it is the parts of these values, in order
key_text-values : (doc : Doc) (names : List ByteList)
    → key_text doc names ≡ flat_map key_part (map (λ name. value_at name doc) names)
key_text-values doc [] = refl
key_text-values doc (name ∷ names) =
    ap (λ rest. key_part (value_at name doc) ++ rest) (key_text-values doc names)

-- equal values give equal keys
pub key_text-equal : (left right : Doc) (lefts rights : List ByteList)
    → map (λ name. value_at name left) lefts ≡ map (λ name. value_at name right) rights
    → key_text left lefts ≡ key_text right rights
key_text-equal left right lefts rights same =
    key_text-values left lefts ∙ ap (flat_map key_part) same ∙ sym (key_text-values right rights)

use Rattle.std.proofs.Common.{◌≡◌, ℕ, zero, suc, ◌+◌, ◌<◌, [], ◌∷◌, ◌++◌, length, get_or, drop}
use Rattle.std.proofs.Common.{arith, append_assoc, add-one, Bool, true, codes, nat_lt}
use Rattle.std.proofs.lemmas.Bool.{lt-ltb}
use Rattle.serde_json.specs.Written.{comma_if}
use Rattle.tuple_values.specs.Document.{ByteList, Datum, Doc, fields_of}
use Rattle.json_text.specs.Replies.{string_text, datum_text, fields_text}

-- the fields from a place on are the one there, and then the others
fields_text-drop_suc : (doc : Doc) (k : ℕ) (later : Bool) (name : ByteList) (value : Datum)
    → k < length doc
    → ((d : ByteList × Datum) → name ≡ (get_or doc k d).0)
    → ((d : ByteList × Datum) → value ≡ (get_or doc k d).1)
    → fields_text later (fields_of (drop k doc))
    ≡ comma_if later ++ (string_text name
    ++ (codes ":" ++ (datum_text value ++ fields_text true (fields_of (drop (suc k) doc)))))
fields_text-drop_suc [] k later name value within named valued = absurd (omega arith)
fields_text-drop_suc (f ∷ doc) zero later name value within named valued = rw (named f, valued f)
fields_text-drop_suc (f ∷ doc) (suc k) later name value within named valued =
    fields_text-drop_suc doc k later name value (omega arith) named valued

-- what is written so far, the field at a place and the text of the fields after it
pub fields_text-drop : (out : ByteList) (doc : Doc) (k : ℕ) (name : ByteList) (value : Datum)
    → k < length doc
    → ((d : ByteList × Datum) → name ≡ (get_or doc k d).0)
    → ((d : ByteList × Datum) → value ≡ (get_or doc k d).1)
    → (out ++ (comma_if (nat_lt 0 k) ++ (string_text name ++ codes ":")) ++ datum_text value)
    ++ fields_text (nat_lt 0 (k + 1)) (fields_of (drop (k + 1) doc))
    ≡ out ++ fields_text (nat_lt 0 k) (fields_of (drop k doc))
fields_text-drop out doc k name value within named valued =
    let later : nat_lt 0 (k + 1) ≡ true = lt-ltb _ _ (omega arith) in
    rw (later, add-one, fields_text-drop_suc doc k (nat_lt 0 k) name value within named valued)
    (simp append_assoc)

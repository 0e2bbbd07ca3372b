use Rattle.std.proofs.Common.{◌≡◌, ◌≢◌, ◌==◌, suc, List, [], ◌∷◌, length, Bool, true, false, cond}
use Rattle.std.proofs.Common.{Option, Some, None, option_map, is_some, string_bytes, nat_cmp}
use Rattle.std.proofs.Common.{bytes_eq, refl, sym, ap, ◌∙◌}
use Rattle.std.proofs.lemmas.Bool.{false≢true, ne_eqb}
use Rattle.std.proofs.lemmas.Map.Text.{is_eq-slice_cmp}
use Rattle.std.proofs.lemmas.Slice.Eq.{bytes_eq-Decides}
use Rattle.std.specs.Cmp.Lexicographic.{slice_cmp}
use Rattle.std.specs.Map.{lookup, remove_entry}
use Rattle.std.specs.Ordering.{match_ordering}
use Rattle.std.specs.BTreeMap.{is_at}
use Rattle.serde_json.specs.Data.{Data}
use Rattle.serde_json.specs.declared.value.Value.{Value}
use Rattle.serde_json.specs.Find.{get_member}
use Rattle.serde_json.specs.View.{view, members_view}
use Rattle.serde_json.proofs.Views.{Entry, view-lookup, member_later}
use Rattle.tuple_values.specs.Document.{ByteList}
use Rattle.json_text.specs.Documents.{member_list}

-- an object has as many members as its map has entries
pub length-member_list : (es : List Entry) → length (member_list (members_view es)) ≡ length es
length-member_list [] = refl
length-member_list (e ∷ es) = ap suc (length-member_list es)

-- a map of an option keeps whether there is a value
is_some-option_map : {A B : Type 0} (f : A → B) (o : Option A)
    → is_some o ≡ is_some (option_map f o)
is_some-option_map f None = refl
is_some-option_map f (Some x) = refl

-- a name that the map finds is a member
pub is_some-lookup : (name : ByteList) (es : List Entry)
    → is_some (lookup (is_at (λ k. slice_cmp nat_cmp name (string_bytes k))) es)
    ≡ is_some (get_member name (members_view es))
is_some-lookup name es = is_some-option_map view _ ∙ ap is_some (view-lookup name es)

-- a name that differs from another differs from each name that is that other
apart : (name other key : ByteList) → bytes_eq other name ≡ false → name ≡ key → other ≡ key → ⊥
apart name other key differ is same =
    false≢true (sym differ ∙ (bytes_eq-Decides other name).1 (same ∙ sym is))

-- what stays at a name where an entry of another name is dropped, by the entry
removed_by : (name other : ByteList) (e : Entry) (es rest : List Entry) (b : Bool)
    → bytes_eq name (string_bytes e.0) ≡ b → bytes_eq other name ≡ false
    → get_member other (members_view rest) ≡ get_member other (members_view es)
    → get_member other (members_view (cond b es (e ∷ rest)))
    ≡ get_member other (members_view (e ∷ es))
removed_by name other e es rest true is differ later =
    sym (member_later other e es (apart name other _ differ ((bytes_eq-Decides name _).0 is)))
removed_by name other e es rest false is differ later =
    let order = slice_cmp nat_cmp other (string_bytes e.0) in
    ap (λ r. match_ordering order r (Some (view e.1)) r) later

-- the other members stay where one is taken out
pub get_member-remove_entry : (name other : ByteList) (es : List Entry)
    → bytes_eq other name ≡ false
    → get_member other (members_view
    (remove_entry (is_at (λ k. slice_cmp nat_cmp name (string_bytes k))) es))
    ≡ get_member other (members_view es)
get_member-remove_entry name other [] differ = refl
get_member-remove_entry name other (e ∷ es) differ =
    removed_by name other e es _ _ (sym (is_eq-slice_cmp name (string_bytes e.0))) differ
    (get_member-remove_entry name other es differ)

-- whether there is one member alone
pub one_member : (es : List Entry) → length es ≡ 1
    → (length (member_list (members_view es)) == 1) ≡ true
one_member es one = rw (length-member_list es, one)

-- and where there are more or none
pub not_one_member : (es : List Entry) → length es ≢ 1
    → (length (member_list (members_view es)) == 1) ≡ false
not_one_member es other = rw (length-member_list es) (ne_eqb _ _ other)

-- what was taken out, as a list
pub option_map-listed : (taken : Option Value) (value : Option Data) → option_map view taken ≡ value
    → option_map (λ json. view json ∷ []) taken ≡ option_map (λ v. v ∷ []) value
option_map-listed None value is = rw (← is)
option_map-listed (Some json) value is = rw (← is)

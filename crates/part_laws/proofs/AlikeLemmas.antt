-- Documents with the same values under keys are of one part.
use Rattle.std.proofs.Common.{◌≡◌, ℕ, ◌%◌, ◌==◌, List, [], ◌∷◌, ◌++◌, Bool, true, false, not, ◌&&◌}
use Rattle.std.proofs.Common.{◌||◌, Option, Some, None, if◌then◌else◌, refl, sym, ◌∙◌, ap, subst}
use Rattle.std.specs.Prelude.{bytes_eq}
use Rattle.std.specs.Option.{option_or}
use Rattle.tuple_values.specs.Document.{ByteList, Datum, Doc, value_at, is_named}
use Rattle.tuple_values.specs.Keys.{key_part, key_text, hash_of}
use Rattle.sort_spec.specs.declared.pair.OnPair.{OnPair}
use Rattle.expr_types.specs.Groups.{same_key}
use Rattle.expr_types.specs.Joins.{is_met, matches, joined}
use Rattle.expr_types.specs.Rows.{selected}
use Rattle.expr_types.specs.declared.item.Item.{Item}
use Rattle.expr_types.proofs.JoinLemmas.{value_joined}
use Rattle.expr_check.specs.Fields.{HasOnly}
use Rattle.expr_check.specs.Orders.{new_name, is_touched_once}
use Rattle.expr_check.specs.Partitions.{are_among, kept_name, with_first, renamed, each_pair, is_pair}
use Rattle.expr_check.specs.Partitions.{is_kept_pair}
use Rattle.expr_check.proofs.AgreeLemmas.{equal_of, option_same, same_key-same}
use Rattle.expr_check.proofs.ChosenLemmas.{selected-once}
use Rattle.expr_check.proofs.NeedLemmas.{and_first, and_second, same_bytes}
use Rattle.source_streams.specs.Parts.{is_of_part}

-- the values of one document under names are those of another under other names
abbrev pub AreAlike : List ByteList → List ByteList → Doc → Doc → Type 0
AreAlike [] [] a b = Unit {0}
AreAlike [] (other ∷ others) a b = ⊥
AreAlike (name ∷ names) [] a b = ⊥
AreAlike (name ∷ names) (other ∷ others) a b =
    (value_at name a ≡ value_at other b) × AreAlike names others a b

-- then so are their keys
key_text-alike : (names others : List ByteList) (a b : Doc) → AreAlike names others a b
    → key_text a names ≡ key_text b others
key_text-alike [] [] a b s = refl
key_text-alike [] (other ∷ others) a b s = absurd s
key_text-alike (name ∷ names) [] a b s = absurd s
key_text-alike (name ∷ names) (other ∷ others) a b s =
    ap (λ (v : Option Datum). key_part v ++ key_text a names) s.0
    ∙ ap (λ w. key_part (value_at other b) ++ w) (key_text-alike names others a b s.1)

-- and they are of one part
pub same_part : (index parts : ℕ) (names others : List ByteList) (a b : Doc)
    → AreAlike names others a b
    → is_of_part index parts names a ≡ is_of_part index parts others b
same_part index parts names others a b s =
    ap (λ w. (hash_of w % parts) == index) (key_text-alike names others a b s)

-- keys that are among names under which two documents have the same values
pub alike_among : (names keys : List ByteList) (a b : Doc) → are_among names keys ≡ true
    → ((name : ByteList) → is_named name names ≡ true → value_at name a ≡ value_at name b)
    → AreAlike keys keys a b
alike_among names [] a b e same = tt
alike_among names (key ∷ keys) a b e same = (
  same key (and_first (is_named key names) (are_among names keys) e),
  alike_among names keys a b (and_second (is_named key names) (are_among names keys) e) same,
)

-- documents of one group have the same values under keys that are among its fields
pub grouped_alike : (names keys : List ByteList) (a b : Doc) → are_among names keys ≡ true
    → same_key names a b ≡ true → AreAlike keys keys a b
grouped_alike names keys a b e same = alike_among names keys a b e (same_key-same names a b same)

-- what a select gives has under new names the values of the document under the old ones
pub selected_alike : (items : List Item) (doc : Doc) (keys news : List ByteList)
    → renamed items keys ≡ Some news → AreAlike news keys (selected items doc) doc
selected_alike items doc [] [] e = tt
selected_alike items doc [] (new ∷ news) e = absurd (cc)
selected_alike items doc (key ∷ keys) news e =
    go (new_name key items) refl (renamed items keys) refl (selected_alike items doc keys) e
  where
    one : (name : ByteList) → new_name key items ≡ Some name → (b : Bool)
        → is_touched_once name items ≡ b → (rest : Option (List ByteList))
        → renamed items keys ≡ rest
        → ((news : List ByteList) → renamed items keys ≡ Some news
        → AreAlike news keys (selected items doc) doc)
        → with_first (if b then Some name else None) rest ≡ Some news
        → AreAlike news (key ∷ keys) (selected items doc) doc
    one name n false t rest r later m = absurd (cc)
    one name n true t None r later m = absurd (cc)
    one name n true t (Some others) r later m =
        let same : (name ∷ others) ≡ news = cc in
        subst (λ (l : List ByteList). AreAlike l (key ∷ keys) (selected items doc) doc) same
        (selected-once key name doc items n t, later others r)

    go : (name : Option ByteList) → new_name key items ≡ name → (rest : Option (List ByteList))
        → renamed items keys ≡ rest
        → ((news : List ByteList) → renamed items keys ≡ Some news
        → AreAlike news keys (selected items doc) doc)
        → with_first (kept_name items name) rest ≡ Some news
        → AreAlike news (key ∷ keys) (selected items doc) doc
    go None n rest r later m = absurd (cc)
    go (Some name) n rest r later m =
        one name n (is_touched_once name items) refl rest r later m

-- documents that match have one value under the two names of a pair
pub met_same : (on : List OnPair) (one other : ByteList) (left right : Doc)
    → is_pair on one other ≡ true → matches on left right ≡ true
    → value_at one left ≡ value_at other right
met_same [] one other left right named met = absurd (cc)
met_same (pair ∷ on) one other left right named met =
    go (bytes_eq pair.left one && bytes_eq pair.right other) refl named
    (λ later. met_same on one other left right later (and_second (is_met pair left right) _ met))
  where
    go : (b : Bool) → (bytes_eq pair.left one && bytes_eq pair.right other) ≡ b
        → (b || is_pair on one other) ≡ true
        → (is_pair on one other ≡ true → value_at one left ≡ value_at other right)
        → value_at one left ≡ value_at other right
    go true e named later =
        let l = same_bytes pair.left one (and_first (bytes_eq pair.left one) _ e) in
        let r = same_bytes pair.right other (and_second (bytes_eq pair.left one) _ e) in
        ap (λ (name : ByteList). value_at name left) (sym l)
        ∙ option_same (value_at pair.left left) (value_at pair.right right)
        (equal_of _ (and_first (is_met pair left right) _ met))
        ∙ ap (λ (name : ByteList). value_at name right) r
    go false e named later = later named

-- and under keys that are paired
pub matched_alike : (on : List OnPair) (allows : ByteList → ByteList → Bool)
    → ((one other : ByteList) → allows one other ≡ true → is_pair on one other ≡ true)
    → (lefts rights : List ByteList) (left right : Doc)
    → each_pair allows lefts rights ≡ true → matches on left right ≡ true
    → AreAlike lefts rights left right
matched_alike on allows pairs [] [] left right e met = tt
matched_alike on allows pairs [] (other ∷ rights) left right e met = absurd (cc)
matched_alike on allows pairs (one ∷ lefts) [] left right e met = absurd (cc)
matched_alike on allows pairs (one ∷ lefts) (other ∷ rights) left right e met = (
  met_same on one other left right (pairs one other (and_first (allows one other) _ e)) met,
  matched_alike on allows pairs lefts rights left right (and_second (allows one other) _ e) met,
)

-- a value that both may have is the first that there is
same_first : (a b : Option Datum) → a ≡ b → option_or b a ≡ a
same_first a None e = refl
same_first a (Some v) e = sym e

-- a left key that keeps its value has it in what is joined
kept_value : (on : List OnPair) (names : List ByteList) (one other : ByteList) (left right : Doc)
    → is_kept_pair on names one other ≡ true → HasOnly names right → matches on left right ≡ true
    → value_at one (joined left right) ≡ value_at one left
kept_value on names one other left right keeps only met =
    value_joined one left right
    ∙ go (is_named one names) refl
    (and_first (not (is_named one names) || bytes_eq one other) (is_pair on one other) keeps)
  where
    go : (b : Bool) → is_named one names ≡ b → (not b || bytes_eq one other) ≡ true
        → option_or (value_at one right) (value_at one left) ≡ value_at one left
    go true e same =
        same_first (value_at one left) (value_at one right)
        (met_same on one other left right
        (and_second (not (is_named one names) || bytes_eq one other) (is_pair on one other) keeps) met
        ∙ ap (λ (name : ByteList). value_at name right) (sym (same_bytes one other same)))
    go false e same = ap (λ (v : Option Datum). option_or v (value_at one left)) (only one e)

-- so what is joined has the left document's values under such keys
pub joined_alike : (on : List OnPair) (names lefts rights : List ByteList) (left right : Doc)
    → each_pair (is_kept_pair on names) lefts rights ≡ true → HasOnly names right
    → matches on left right ≡ true → AreAlike lefts lefts (joined left right) left
joined_alike on names [] [] left right e only met = tt
joined_alike on names [] (other ∷ rights) left right e only met = absurd (cc)
joined_alike on names (one ∷ lefts) [] left right e only met = absurd (cc)
joined_alike on names (one ∷ lefts) (other ∷ rights) left right e only met = (
  kept_value on names one other left right (and_first (is_kept_pair on names one other) _ e) only met,
  joined_alike on names lefts rights left right (and_second (is_kept_pair on names one other) _ e)
      only met,
)

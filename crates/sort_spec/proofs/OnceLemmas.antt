-- One more name of a list in which each counts once.
use Rattle.std.proofs.Common.{◌≡◌, List, [], ◌∷◌, ◌++◌, filter, Bool, true, false, not, ◌||◌}
use Rattle.std.proofs.Common.{if◌then◌else◌, refl, sym, ◌∙◌, ap}
use Rattle.std.specs.Prelude.{bytes_eq}
use Rattle.std.proofs.lemmas.List.Elements.{filter-append}
use Rattle.std.proofs.lemmas.List.{append-nil}
use Rattle.std.proofs.lemmas.Slice.Eq.{bytes_eq-Decides}
use Rattle.tuple_values.specs.Document.{ByteList, is_named}
use Rattle.sort_spec.specs.Texts.{once}

-- names other than this one
abbrev others : ByteList → List ByteList → List ByteList
others name names = filter (λ other. not (bytes_eq other name)) names

-- texts are the same whichever comes first
same_again : (a b : ByteList) (t : Bool) → bytes_eq a b ≡ t → bytes_eq b a ≡ t
same_again a b true is = (bytes_eq-Decides b a).1 (sym ((bytes_eq-Decides a b).0 is))
same_again a b false is = by_other (bytes_eq b a) refl where
  by_other : (t : Bool) → bytes_eq b a ≡ t → bytes_eq b a ≡ false
  by_other false e = e
  by_other true e =
      let same : bytes_eq a b ≡ true =
      (bytes_eq-Decides a b).1 (sym ((bytes_eq-Decides b a).0 e)) in
      absurd (cc)

-- another name is as much among the others
is_named-others_by : (name word first : ByteList) (names : List ByteList) (t : Bool)
    → bytes_eq first name ≡ t → bytes_eq word name ≡ false
    → is_named word (others name names) ≡ is_named word names
    → is_named word (if not t then first ∷ others name names else others name names)
    ≡ (bytes_eq first word || is_named word names)
is_named-others_by name word first names false is other later =
    ap (λ (r : Bool). bytes_eq first word || r) later
is_named-others_by name word first names true is other later =
    let apart : bytes_eq first word ≡ false =
    same_again word first false
    (ap (bytes_eq word) ((bytes_eq-Decides first name).0 is) ∙ other) in
    rw apart later

-- so a name is among the others where it is among all
is_named-others : (name word : ByteList) (names : List ByteList) → bytes_eq word name ≡ false
    → is_named word (others name names) ≡ is_named word names
is_named-others name word [] other = refl
is_named-others name word (first ∷ names) other =
    is_named-others_by name word first names (bytes_eq first name) refl other
    (is_named-others name word names other)

-- the names with one more, where it isn't there
abbrev pub with_name : List ByteList → ByteList → List ByteList
with_name names word = if is_named word names then names else names ++ (word ∷ [])

-- one more name behind a first one and others
once_push_by : (name word : ByteList) (names : List ByteList) (t n : Bool)
    → bytes_eq name word ≡ t → is_named word names ≡ n
    → name ∷ others name (if n then names else names ++ (word ∷ []))
    ≡ (if t || is_named word (others name names) then name ∷ others name names
    else (name ∷ others name names) ++ (word ∷ []))
once_push_by name word names true true is named = refl
once_push_by name word names true false is named =
    let same : bytes_eq word name ≡ true = same_again name word true is in
    ap (λ l. name ∷ l)
    (filter-append (λ other. not (bytes_eq other name)) names (word ∷ [])
    ∙ ap (λ (b : Bool). others name names ++ (if not b then word ∷ [] else [])) same
    ∙ append-nil (others name names))
once_push_by name word names false n is named =
    let other : bytes_eq word name ≡ false = same_again name word false is in
    by_named n (is_named-others name word names other ∙ named) where
      by_named : (n : Bool) → is_named word (others name names) ≡ n
          → name ∷ others name (if n then names else names ++ (word ∷ []))
          ≡ (if is_named word (others name names) then name ∷ others name names
          else (name ∷ others name names) ++ (word ∷ []))
      by_named true e = rw e refl
      by_named false e =
          let other : bytes_eq word name ≡ false = same_again name word false is in
          rw e
          (ap (λ l. name ∷ l)
          (filter-append (λ o. not (bytes_eq o name)) names (word ∷ [])
          ∙ ap (λ (b : Bool). others name names ++ (if not b then word ∷ [] else [])) other))

-- one more name
pub once_push : (written : List ByteList) (word : ByteList)
    → once (written ++ (word ∷ [])) ≡ with_name (once written) word
once_push [] word = refl
once_push (name ∷ written) word =
    ap (λ l. name ∷ others name l) (once_push written word)
    ∙ once_push_by name word (once written) (bytes_eq name word) (is_named word (once written)) refl
    refl

-- a name that is there changes nothing, and another one goes to the end
pub once_known : (written names : List ByteList) (word : ByteList) → names ≡ once written
    → is_named word names ≡ true → names ≡ once (written ++ (word ∷ []))
once_known written names word is named =
    sym (ap (λ (t : Bool). if t then names else names ++ (word ∷ [])) named)
    ∙ ap (λ l. with_name l word) is
    ∙ sym (once_push written word)

-- another one goes to the end
pub once_new : (written names : List ByteList) (word : ByteList) → names ≡ once written
    → is_named word names ≡ false → names ++ (word ∷ []) ≡ once (written ++ (word ∷ []))
once_new written names word is named =
    sym (ap (λ (t : Bool). if t then names else names ++ (word ∷ [])) named)
    ∙ ap (λ l. with_name l word) is
    ∙ sym (once_push written word)

-- what a loop that keeps each name once needs
pub ruleset once_steps = (once_known, once_new)

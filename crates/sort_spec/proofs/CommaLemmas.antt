-- No item holds a comma.
use Rattle.std.proofs.Common.{◌≡◌, ℕ, [], ◌∷◌, ◌++◌, Bool, true, false, ◌==◌, refl, sym, ◌∙◌, ap}
use Rattle.std.proofs.Common.{subst}
use Rattle.std.specs.Char.{to_ascii_lowercase}
use Rattle.std.specs.Str.{str_to_ascii_lowercase}
use Rattle.std.proofs.lemmas.Bool.{eqb-true}
use Rattle.tuple_values.specs.Document.{ByteList}
use Rattle.sort_spec.specs.Grammar.{is_blank, AreAll}
use Rattle.sort_spec.specs.Texts.{direction_word, IsTerm, PairLayout, one, two, pair_print}
use Rattle.sort_spec.specs.Texts.{pair_says, IsPair, IsName}
use Rattle.sort_spec.specs.declared.term.SortTerm.{SortTerm}
use Rattle.sort_spec.specs.declared.pair.OnPair.{OnPair}
use Rattle.sort_spec.proofs.ByteLemmas.{blank_no_comma, field_byte_no_comma, side_byte_no_comma}
use Rattle.sort_spec.proofs.ListRightLemmas.{NoComma}
use Rattle.sort_spec.proofs.SortLemmas.{each_append, each_weaker}

-- bytes that follow one another
joined_clean : (bytes more : ByteList) → NoComma bytes → NoComma more → NoComma (bytes ++ more)
joined_clean bytes more a b = each_append (λ x. (x == 44) ≡ false) bytes more a b

-- blanks hold none
blanks_clean : (bytes : ByteList) → AreAll is_blank bytes → NoComma bytes
blanks_clean bytes all =
    each_weaker (λ b. is_blank b ≡ true) (λ b. (b == 44) ≡ false) bytes blank_no_comma all

-- a word in any case holds none where it holds none in small letters
letter_clean : (c letter : ℕ) (test : Bool) → (c == 44) ≡ test → to_ascii_lowercase c ≡ letter
    → (letter == 44) ≡ false → (c == 44) ≡ false
letter_clean c letter false is same none = is
letter_clean c letter true is same none =
    let comma : c ≡ 44 = eqb-true c 44 is in
    let small : letter ≡ 44 = sym same ∙ ap to_ascii_lowercase comma in
    let test : (letter == 44) ≡ true = ap (λ b. b == 44) small in absurd (cc)

-- the letters of a word that holds none
word_clean : (written word : ByteList) → str_to_ascii_lowercase written ≡ word → NoComma word
    → NoComma written
word_clean [] word same none = tt
word_clean (c ∷ written) [] same none = absurd (cc)
word_clean (c ∷ written) (letter ∷ word) same none =
    let low : to_ascii_lowercase c ≡ letter = cc in
    let later : str_to_ascii_lowercase written ≡ word = cc in
    (letter_clean c letter (c == 44) refl low none.0, word_clean written word later none.1)

-- the words of directions hold none
direction_clean : (descending : Bool) → NoComma (direction_word descending)
direction_clean false = (refl, (refl, (refl, tt)))
direction_clean true = (refl, (refl, (refl, (refl, tt))))

-- a term holds none
pub term_no_comma : (bytes : ByteList) (term : SortTerm) → IsTerm bytes term → NoComma bytes
term_no_comma bytes term t =
    let word =
    word_clean t.direction (direction_word term.descending) t.directed
    (direction_clean term.descending) in
    let end = joined_clean t.direction t.behind word (blanks_clean t.behind t.blank_behind) in
    let gap =
    joined_clean t.between (t.direction ++ t.behind) (blanks_clean t.between t.blank_between.1)
    end in
    let field =
    joined_clean term.field (t.between ++ (t.direction ++ t.behind))
    (each_weaker _ (λ b. (b == 44) ≡ false) term.field field_byte_no_comma t.named.1) gap in
    let P : ByteList → Type 0 = λ text. NoComma text in
    subst P (sym t.printed)
    (joined_clean t.before (term.field ++ (t.between ++ (t.direction ++ t.behind)))
    (blanks_clean t.before t.blank_before) field)

-- what is printed of names that hold none
layout_clean : (layout : PairLayout) → NoComma (pair_says layout).left
    → NoComma (pair_says layout).right → NoComma (pair_print layout)
layout_clean (one name) left right = left
layout_clean (two name other) left right = joined_clean name (61 ∷ other) left (refl, right)

-- a pair holds none
pub pair_no_comma : (bytes : ByteList) (pair : OnPair) → IsPair bytes pair → NoComma bytes
pair_no_comma bytes pair p =
    let L : OnPair → Type 0 = λ v. NoComma v.left in
    let R : OnPair → Type 0 = λ v. NoComma v.right in
    let left =
    each_weaker _ (λ b. (b == 44) ≡ false) pair.left side_byte_no_comma p.named_left.1 in
    let right =
    each_weaker _ (λ b. (b == 44) ≡ false) pair.right side_byte_no_comma p.named_right.1 in
    let printed = layout_clean p.layout (subst L p.says left) (subst R p.says right) in
    let end =
    joined_clean (pair_print p.layout) p.behind printed (blanks_clean p.behind p.blank_behind) in
    let P : ByteList → Type 0 = λ text. NoComma text in
    subst P (sym p.printed)
    (joined_clean p.before (pair_print p.layout ++ p.behind) (blanks_clean p.before p.blank_before)
    end)

-- a name holds none
pub name_no_comma : (bytes name : ByteList) → IsName bytes name → NoComma bytes
name_no_comma bytes name n =
    let named =
    each_weaker _ (λ b. (b == 44) ≡ false) name field_byte_no_comma n.named.1 in
    let end = joined_clean name n.behind named (blanks_clean n.behind n.blank_behind) in
    let P : ByteList → Type 0 = λ text. NoComma text in
    subst P (sym n.printed)
    (joined_clean n.before (name ++ n.behind) (blanks_clean n.before n.blank_before) end)

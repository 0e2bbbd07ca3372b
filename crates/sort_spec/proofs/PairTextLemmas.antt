-- The readings of a pair and of a name are right.
use Rattle.std.proofs.Common.{◌≡◌, ℕ, [], ◌∷◌, ◌++◌, drop, take, append_assoc}
use Rattle.std.proofs.Common.{Bool, true, false, ◌==◌, if◌then◌else◌, refl, sym, ◌∙◌, ap, subst}
use Rattle.std.specs.List.{prefix_len}
use Rattle.std.proofs.lemmas.Bool.{eqb-true}
use Rattle.tuple_values.specs.Document.{ByteList}
use Rattle.sort_spec.specs.Grammar.{is_blank, is_field_byte, is_side_byte, AreAll, AreSome}
use Rattle.sort_spec.specs.Texts.{PairLayout, one, two, pair_print, pair_says, IsPair, IsName}
use Rattle.sort_spec.specs.Reading.{behind, closed, past_some, begins_with_equals, second}
use Rattle.sort_spec.specs.Reading.{pair_of, name_of}
use Rattle.sort_spec.specs.declared.pair.OnPair.{OnPair}
use Rattle.sort_spec.proofs.ByteLemmas.{blank_no_field_byte, field_byte_no_blank}
use Rattle.sort_spec.proofs.ByteLemmas.{blank_no_side_byte, side_byte_no_blank, blank_no_equals}
use Rattle.sort_spec.proofs.RightLemmas.{IsRight, Alike, behind_right, alike_right}
use Rattle.sort_spec.proofs.PartLemmas.{Apart, Past, PastSome, Closed, past_right}
use Rattle.sort_spec.proofs.PartLemmas.{past_some_right, closed_right, all_apart, some_apart}

-- the pair of two names
abbrev pair : ByteList → ByteList → OnPair
pair left right = record { left = left; right = right }

-- a right name and blanks
abbrev Right : ByteList → ByteList → OnPair → Type 0
Right left = PastSome is_side_byte (λ right. Closed (pair left right))

-- what stands behind a left name: an equals sign and a right name, or nothing but blanks
abbrev SecondBy : ByteList → Bool → ByteList → OnPair → Type 0
SecondBy left false bytes value = Closed (pair left left) bytes value
SecondBy left true bytes value =
    (rest : ByteList) × (bytes ≡ 61 ∷ rest) × Right left rest value

-- with a sign or without
abbrev Second : ByteList → ByteList → OnPair → Type 0
Second left bytes value = (signed : Bool) × SecondBy left signed bytes value

-- a left name before it
abbrev Sides : ByteList → OnPair → Type 0
Sides = PastSome is_side_byte Second

-- the first byte tells whether there is a sign
blank_sign : (bytes : ByteList) → AreAll is_blank bytes → begins_with_equals bytes ≡ false
blank_sign [] all = refl
blank_sign (b ∷ bytes) all = blank_no_equals b all.0

-- so does what stands there
sign_tells : (left : ByteList) (signed : Bool) (bytes : ByteList) (value : OnPair)
    → SecondBy left signed bytes value → begins_with_equals bytes ≡ signed
sign_tells left false bytes value says = blank_sign bytes says.0
sign_tells left true bytes value (rest, is, says) = ap begins_with_equals is

-- bytes that begin alike tell the same
alike_sign : (bytes text : ByteList) → Alike bytes text
    → begins_with_equals text ≡ begins_with_equals bytes
alike_sign [] [] alike = refl
alike_sign [] (c ∷ text) alike = absurd alike
alike_sign (b ∷ bytes) [] alike = absurd alike
alike_sign (b ∷ bytes) (c ∷ text) alike = ap (λ x. x == 61) (sym alike)

-- neither blanks nor the sign are of a name
second_apart_by : (left : ByteList) (signed : Bool) (rest : ByteList) (value : OnPair)
    → SecondBy left signed rest value → Apart is_side_byte rest
second_apart_by left false rest value says =
    all_apart is_blank is_side_byte blank_no_side_byte rest says.0
second_apart_by left true rest value (more, is, says) =
    let P : ByteList → Type 0 = λ bytes. Apart is_side_byte bytes in subst P (sym is) refl

-- blanks to the end are apart from names
closed_apart : (other : ℕ → Bool) → ((b : ℕ) → is_blank b ≡ true → other b ≡ false)
    → {V : Type 0} (value : V) (rest : ByteList) (said : V) → Closed value rest said
    → Apart other rest
closed_apart other contrary value rest said says =
    all_apart is_blank other contrary rest says.0

-- the reading of a right name is right
right_right : (left bytes : ByteList)
    → IsRight (Right left) bytes (past_some is_side_byte (λ right. closed (pair left right)) bytes)
right_right left bytes =
    let n = prefix_len is_side_byte bytes in
    past_some_right is_side_byte (λ right. Closed (pair left right))
    (λ right rest value says.
    closed_apart is_side_byte blank_no_side_byte (pair left right) rest value says) (
      97 ∷ [],
      pair left (97 ∷ []),
      record {
        front = 97 ∷ [];
        rest = [];
        passing = (refl, tt);
        printed = refl;
        says = (λ none. cc, (tt, refl));
      },
    )
    (λ right. closed (pair left right)) bytes
    (closed_right (pair left (take n bytes)) (drop n bytes))

-- so is that behind the sign
signed_right : (left rest : ByteList)
    → IsRight (SecondBy left true) (61 ∷ rest)
    (behind 1 (past_some is_side_byte (λ right. closed (pair left right)) rest))
signed_right left rest =
    behind_right (SecondBy left true) (Right left) (61 ∷ []) rest
    (λ tail value alike says.
    let (more, is, it) = says in
    let same : more ≡ tail = cc in
    let P : ByteList → Type 0 = λ bytes. Right left bytes value in subst P same it)
    (λ tail value says. (tail, refl, says))
    (past_some is_side_byte (λ right. closed (pair left right)) rest) (right_right left rest)

-- and that where the sign is told
second_right_by : (left bytes : ByteList) (signed : Bool) → begins_with_equals bytes ≡ signed
    → IsRight (SecondBy left signed) bytes
    (if signed
    then behind 1 (past_some is_side_byte (λ right. closed (pair left right)) (drop 1 bytes))
    else closed (pair left left) bytes)
second_right_by left bytes false is = closed_right (pair left left) bytes
second_right_by left [] true is = absurd (cc)
second_right_by left (b ∷ rest) true is =
    let sign : 61 ≡ b = sym (eqb-true b 61 is) in
    let P : ℕ → Type 0 =
    λ x. IsRight (SecondBy left true) (x ∷ rest)
    (behind 1 (past_some is_side_byte (λ right. closed (pair left right)) rest)) in
    subst P sign (signed_right left rest)

-- the reading behind a left name is right
second_right : (left bytes : ByteList) → IsRight (Second left) bytes (second left bytes)
second_right left bytes =
    let signed = begins_with_equals bytes in
    alike_right (Second left) (SecondBy left signed) bytes
    (λ text value alike says.
    let (other, it) = says in
    let told : other ≡ signed =
    sym (sign_tells left other text value it) ∙ alike_sign bytes text alike in
    let P : Bool → Type 0 = λ s. SecondBy left s text value in subst P told it)
    (λ text value says. (signed, says)) (second left bytes)
    (second_right_by left bytes signed refl)

-- the reading of both names is right
sides_right : (bytes : ByteList) → IsRight Sides bytes (past_some is_side_byte second bytes)
sides_right bytes =
    let n = prefix_len is_side_byte bytes in
    past_some_right is_side_byte Second
    (λ left rest value says. second_apart_by left says.0 rest value says.1) (
      97 ∷ [],
      pair (97 ∷ []) (97 ∷ []),
      record {
        front = 97 ∷ [];
        rest = [];
        passing = (refl, tt);
        printed = refl;
        says = (λ none. cc, (false, (tt, refl)));
      },
    )
    second bytes (second_right (take n bytes) (drop n bytes))

-- the parts of a pair, and a pair of parts
sides_of : (text before behind_it : ByteList) (layout : PairLayout) → AreAll is_blank before
    → AreSome is_side_byte (pair_says layout).left → AreSome is_side_byte (pair_says layout).right
    → AreAll is_blank behind_it → text ≡ before ++ (pair_print layout ++ behind_it)
    → Past is_blank (λ blanks. Sides) text (pair_says layout)
sides_of text before behind_it (one name) blank left right closing printed = record {
  front = before;
  rest = name ++ behind_it;
  passing = blank;
  printed = printed;
  says = record {
    front = name;
    rest = behind_it;
    passing = left.1;
    printed = refl;
    says = (left.0, (false, (closing, refl)));
  };
}
sides_of text before behind_it (two left right) blank named other closing printed = record {
  front = before;
  rest = (left ++ (61 ∷ right)) ++ behind_it;
  passing = blank;
  printed = printed;
  says = record {
    front = left;
    rest = 61 ∷ (right ++ behind_it);
    passing = named.1;
    printed = append_assoc left (61 ∷ right) behind_it;
    says = (
      named.0,
      (
        true,
        (
          right ++ behind_it,
          refl,
          record {
            front = right;
            rest = behind_it;
            passing = other.1;
            printed = refl;
            says = (other.0, (closing, refl));
          },
        ),
      ),
    );
  };
}

-- a pair has these parts
pair_parts : (text : ByteList) (value : OnPair) → IsPair text value
    → Past is_blank (λ blanks. Sides) text value
pair_parts text value p =
    let L : OnPair → Type 0 = λ v. AreSome is_side_byte v.left in
    let R : OnPair → Type 0 = λ v. AreSome is_side_byte v.right in
    let P : OnPair → Type 0 = λ v. Past is_blank (λ blanks. Sides) text v in
    subst P (sym p.says)
    (sides_of text p.before p.behind p.layout p.blank_before (subst L p.says p.named_left)
    (subst R p.says p.named_right) p.blank_behind p.printed)

-- a pair of names and what stands behind the left one
pair_of_second : (text before left rest : ByteList) (signed : Bool) (value : OnPair)
    → AreAll is_blank before → AreSome is_side_byte left → text ≡ before ++ (left ++ rest)
    → SecondBy left signed rest value → IsPair text value
pair_of_second text before left rest false value blank named printed (closing, is) =
    let P : OnPair → Type 0 = λ v. IsPair text v in
    subst P (sym is) (record {
      before = before;
      layout = one left;
      behind = rest;
      blank_before = blank;
      named_left = named;
      named_right = named;
      blank_behind = closing;
      printed = printed;
      says = refl;
    })
pair_of_second text before left rest true value blank named printed (more, sign, it) =
    let P : OnPair → Type 0 = λ v. IsPair text v in
    subst P (sym it.says.1.1) (record {
      before = before;
      layout = two left it.front;
      behind = it.rest;
      blank_before = blank;
      named_left = named;
      named_right = (it.says.0, it.passing);
      blank_behind = it.says.1.0;
      printed =
          printed
          ∙ ap (λ r. before ++ r)
          (ap (λ r. left ++ r) (sign ∙ ap (λ r. 61 ∷ r) it.printed)
          ∙ sym (append_assoc left (61 ∷ it.front) it.rest));
      says = refl;
    })

-- and these parts are a pair
pair_of_parts : (text : ByteList) (value : OnPair) → Past is_blank (λ blanks. Sides) text value
    → IsPair text value
pair_of_parts text value p =
    let side = p.says in
    let (signed, it) = side.says.1 in
    pair_of_second text p.front side.front side.rest signed value p.passing
    (side.says.0, side.passing) (p.printed ∙ ap (λ r. p.front ++ r) side.printed) it

-- the reading of a pair is right
pub pair_right : (bytes : ByteList) → IsRight IsPair bytes (pair_of bytes)
pair_right bytes =
    alike_right IsPair (Past is_blank (λ blanks. Sides)) bytes
    (λ text value alike says. pair_parts text value says) pair_of_parts (pair_of bytes)
    (past_right is_blank (λ blanks. Sides)
    (λ blanks rest value says.
    some_apart is_side_byte is_blank side_byte_no_blank Second rest value says)
    (λ blanks. past_some is_side_byte second) bytes
    (sides_right (drop (prefix_len is_blank bytes) bytes)))

-- a name and blanks
abbrev Word : ByteList → ByteList → Type 0
Word = PastSome is_field_byte Closed

-- the reading of a name and blanks is right
word_right : (bytes : ByteList) → IsRight Word bytes (past_some is_field_byte closed bytes)
word_right bytes =
    let n = prefix_len is_field_byte bytes in
    past_some_right is_field_byte Closed
    (λ name rest value says. closed_apart is_field_byte blank_no_field_byte name rest value says) (
      97 ∷ [],
      97 ∷ [],
      record {
        front = 97 ∷ [];
        rest = [];
        passing = (refl, tt);
        printed = refl;
        says = (λ none. cc, (tt, refl));
      },
    )
    closed bytes (closed_right (take n bytes) (drop n bytes))

-- the parts of a name with blanks round it
name_parts : (text name : ByteList) → IsName text name → Past is_blank (λ blanks. Word) text name
name_parts text name n = record {
  front = n.before;
  rest = name ++ n.behind;
  passing = n.blank_before;
  printed = n.printed;
  says = record {
    front = name;
    rest = n.behind;
    passing = n.named.1;
    printed = refl;
    says = (n.named.0, (n.blank_behind, refl));
  };
}

-- and a name of parts
name_of_parts : (text name : ByteList) → Past is_blank (λ blanks. Word) text name → IsName text name
name_of_parts text name p =
    let word = p.says in
    let P : ByteList → Type 0 = λ n. IsName text n in
    subst P (sym word.says.1.1) (record {
      before = p.front;
      behind = word.rest;
      blank_before = p.passing;
      named = (word.says.0, word.passing);
      blank_behind = word.says.1.0;
      printed = p.printed ∙ ap (λ r. p.front ++ r) word.printed;
    })

-- the reading of a name is right
pub name_right : (bytes : ByteList) → IsRight IsName bytes (name_of bytes)
name_right bytes =
    alike_right IsName (Past is_blank (λ blanks. Word)) bytes
    (λ text name alike says. name_parts text name says) name_of_parts (name_of bytes)
    (past_right is_blank (λ blanks. Word)
    (λ blanks rest name says.
    some_apart is_field_byte is_blank field_byte_no_blank Closed rest name says)
    (λ blanks. past_some is_field_byte closed) bytes
    (word_right (drop (prefix_len is_blank bytes) bytes)))

-- The reading of a list is right where that of an item is, and no item holds a comma.
use Rattle.std.proofs.Common.{◌≡◌, ◌≢◌, ℕ, zero, suc, ◌+◌, ◌<◌, ◌≤◌, List, [], ◌∷◌, ◌++◌}
use Rattle.std.proofs.Common.{length, take}
use Rattle.std.proofs.Common.{Bool, true, false, ◌==◌, if◌then◌else◌, refl, sym, ◌∙◌, ap, subst}
use Rattle.std.proofs.Common.{append_assoc, length-append, arith, inl, inr}
use Rattle.std.specs.List.{AllByRecursion, slice_split, onto_first, join_with_byte}
use Rattle.std.proofs.lemmas.Bool.{cases_lt}
use Rattle.std.proofs.Math.Seq.{take-append-add}
use Rattle.std.proofs.lemmas.List.{take-append-le, append-nil}
use Rattle.std.proofs.lemmas.List.Splits.{join_with_byte-slice_split}
use Rattle.tuple_values.specs.Document.{ByteList}
use Rattle.sort_spec.specs.Grammar.{GoesOn, IsPlace, IsList, Say}
use Rattle.sort_spec.specs.Reading.{Reading, said, stuck, behind, mapped, joined, pieces_read}
use Rattle.sort_spec.specs.Reading.{listed}
use Rattle.sort_spec.proofs.RightLemmas.{IsRight, Alike, alike_right, behind_right, mapped_right}

-- the pieces between commas
abbrev pieces : ByteList → List ByteList
pieces bytes = slice_split (λ b. b == 44) bytes

-- no byte is a comma
abbrev pub NoComma : ByteList → Type 0
NoComma bytes = AllByRecursion (λ b. (b == 44) ≡ false) bytes

-- bytes before the first of some pieces
abbrev onto : ByteList → List ByteList → List ByteList
onto front [] = front ∷ []
onto front (piece ∷ more) = (front ++ piece) ∷ more

-- there is a first piece
pieces_some : (bytes : ByteList)
    → (piece : ByteList) × (more : List ByteList) × (pieces bytes ≡ piece ∷ more)
pieces_some [] = ([], [], refl)
pieces_some (b ∷ bytes) = by_test (b == 44) (pieces_some bytes) where
  by_test : (test : Bool)
      → (piece : ByteList) × (more : List ByteList) × (pieces bytes ≡ piece ∷ more)
      → (piece : ByteList) × (more : List ByteList)
      × ((if test then [] ∷ pieces bytes else onto_first b (pieces bytes)) ≡ piece ∷ more)
  by_test true later = ([], pieces bytes, refl)
  by_test false (piece, more, is) = (b ∷ piece, more, ap (onto_first b) is)

-- bytes that hold no comma go before the first piece
pieces_onto : (front bytes : ByteList) → NoComma front
    → pieces (front ++ bytes) ≡ onto front (pieces bytes)
pieces_onto [] bytes none = let (piece, more, is) = pieces_some bytes in is ∙ ap (onto []) (sym is)
pieces_onto (b ∷ front) bytes none =
    let (piece, more, is) = pieces_some bytes in
    ap (λ (t : Bool).
    if t then [] ∷ pieces (front ++ bytes) else onto_first b (pieces (front ++ bytes))) none.0
    ∙ ap (onto_first b) (pieces_onto front bytes none.1 ∙ ap (onto front) is)
    ∙ ap (onto (b ∷ front)) (sym is)

-- and a comma ends them
pieces_cut : (front bytes : ByteList) → NoComma front
    → pieces (front ++ (44 ∷ bytes)) ≡ front ∷ pieces bytes
pieces_cut front bytes none =
    pieces_onto front (44 ∷ bytes) none ∙ ap (λ f. f ∷ pieces bytes) (append-nil front)

-- bytes without one are one piece
pieces_one : (bytes : ByteList) → NoComma bytes → pieces bytes ≡ bytes ∷ []
pieces_one bytes none =
    ap pieces (sym (append-nil bytes))
    ∙ pieces_onto bytes [] none ∙ ap (λ f. f ∷ []) (append-nil bytes)

-- no piece holds one
pieces_clean : (bytes : ByteList) → AllByRecursion NoComma (pieces bytes)
pieces_clean [] = (tt, tt)
pieces_clean (b ∷ bytes) = by_test (b == 44) refl (pieces_clean bytes) where
  onto_clean : (more : List ByteList) → (b == 44) ≡ false → AllByRecursion NoComma more
      → AllByRecursion NoComma (onto_first b more)
  onto_clean [] is clean = ((is, tt), tt)
  onto_clean (piece ∷ more) is clean = ((is, clean.0), clean.1)

  by_test : (test : Bool) → (b == 44) ≡ test → AllByRecursion NoComma (pieces bytes)
      → AllByRecursion NoComma (if test then [] ∷ pieces bytes else onto_first b (pieces bytes))
  by_test true is later = (tt, later)
  by_test false is later = onto_clean (pieces bytes) is later

-- pieces that hold none are those of what is printed of them
pieces_join : (piece : ByteList) (more : List ByteList) → AllByRecursion NoComma (piece ∷ more)
    → pieces (join_with_byte 44 (piece ∷ more)) ≡ piece ∷ more
pieces_join piece [] clean = pieces_one piece clean.0
pieces_join piece (next ∷ more) clean =
    pieces_cut piece (join_with_byte 44 (next ∷ more)) clean.0
    ∙ ap (λ l. piece ∷ l) (pieces_join next more clean.1)

-- a front of bytes without one
no_comma_take : (n : ℕ) (bytes : ByteList) → NoComma bytes → NoComma (take n bytes)
no_comma_take zero bytes none = tt
no_comma_take (suc n) [] none = tt
no_comma_take (suc n) (b ∷ bytes) none = (none.0, no_comma_take n bytes none.1)

module _ {V : Type 0} (IsItem : ByteList → V → Type 0)
    (no_comma : (bytes : ByteList) (value : V) → IsItem bytes value → NoComma bytes) where
  -- the pieces of the bytes say the values
  abbrev Said : ByteList → List V → Type 0
  Said bytes values = Say IsItem (pieces bytes) values

  -- a first piece says a first value
  say_first : (piece : ByteList) (more : List ByteList) (values : List V)
      → Say IsItem (piece ∷ more) values
      → (value : V) × IsItem piece value
      × ((rest : List V) × Say IsItem more rest × (values ≡ value ∷ rest))
  say_first piece more [] say = absurd say
  say_first piece more (value ∷ values) say = (value, say.0, (values, say.1, refl))

  -- the first item goes on from a front without a comma
  said_first : (front bytes : ByteList) (values : List V) → NoComma front
      → Said (front ++ bytes) values → GoesOn IsItem front
  said_first front bytes values none told =
      let (piece, more, is) = pieces_some bytes in
      let P : List ByteList → Type 0 = λ ps. Say IsItem ps values in
      let (value, first, rest) =
      say_first (front ++ piece) more values
      (subst P (pieces_onto front bytes none ∙ ap (onto front) is) told) in (piece, value, first)

  -- what stands before a comma is the first item
  said_cut : (front bytes : ByteList) (values : List V) → NoComma front
      → Said (front ++ (44 ∷ bytes)) values
      → (value : V) × IsItem front value
      × ((rest : List V) × Said bytes rest × (values ≡ value ∷ rest))
  said_cut front bytes values none told =
      let P : List ByteList → Type 0 = λ ps. Say IsItem ps values in
      say_first front (pieces bytes) values (subst P (pieces_cut front bytes none) told)

  -- and a first item is what stands before a comma
  cut_said : (front bytes : ByteList) (value : V) (rest : List V) → NoComma front
      → IsItem front value → Said bytes rest → Said (front ++ (44 ∷ bytes)) (value ∷ rest)
  cut_said front bytes value rest none first told =
      let P : List ByteList → Type 0 = λ ps. Say IsItem ps (value ∷ rest) in
      subst P (sym (pieces_cut front bytes none)) (first, told)

  -- bytes without one are one item
  one_said : (bytes : ByteList) (value : V) → IsItem bytes value → Said bytes (value ∷ [])
  one_said bytes value is =
      let P : List ByteList → Type 0 = λ ps. Say IsItem ps (value ∷ []) in
      subst P (sym (pieces_one bytes (no_comma bytes value is))) (is, tt)

  -- no piece says no value
  none_more : (values : List V) → Say IsItem [] values → values ≡ []
  none_more [] say = refl
  none_more (value ∷ values) say = absurd say

  -- and they say no more
  said_one : (bytes : ByteList) (values : List V) → NoComma bytes → Said bytes values
      → (value : V) × IsItem bytes value × (values ≡ value ∷ [])
  said_one bytes values none told =
      let P : List ByteList → Type 0 = λ ps. Say IsItem ps values in
      let (value, is, (rest, say, same)) =
      say_first bytes [] values (subst P (pieces_one bytes none) told) in
      (value, is, same ∙ ap (λ l. value ∷ l) (none_more rest say))

  -- a list goes on where an item does
  list_goes : (front : ByteList) → GoesOn IsItem front → GoesOn Said front
  list_goes front (more, value, is) = (more, value ∷ [], one_said (front ++ more) value is)

  -- and only there
  item_goes : (front : ByteList) → NoComma front → GoesOn Said front → GoesOn IsItem front
  item_goes front none (more, values, told) = said_first front more values none told

  -- the last item
  last_right : (piece : ByteList) → NoComma piece → (n : ℕ) (reading : Reading V)
      → IsRight IsItem piece reading → IsRight Said piece (joined reading n (said []))
  last_right piece none n (said value) right = (
    one_said piece value right.0,
    λ values s.
        let (other, is, same) = said_one piece values none s in
        same ∙ ap (λ v. v ∷ []) (right.1 other is),
  )
  last_right piece none n (stuck at) right = (
    λ values s. let (other, is, same) = said_one piece values none s in right.0 other is,
    record {
      within = right.1.within;
      front = list_goes (take at piece) right.1.front;
      longest = λ lt goes.
          right.1.longest lt
          (item_goes (take (at + 1) piece) (no_comma_take (at + 1) piece none) goes);
    },
  )

  -- an item that sticks before a comma
  module _ (piece bytes : ByteList) (none : NoComma piece) (at : ℕ)
      (unsaid : (value : V) → ¬ (IsItem piece value)) (place : IsPlace IsItem piece at) where
    -- its place is within the list
    within_list : at ≤ length (piece ++ (44 ∷ bytes))
    within_list = omega (arith, place.within, length-append piece (44 ∷ bytes))

    -- no list goes on with the comma
    past_comma : at ≡ length piece → ¬ (GoesOn Said (take (at + 1) (piece ++ (44 ∷ bytes))))
    past_comma is (more, values, told) =
        let P : ByteList → Type 0 = λ text. Said text values in
        let whole =
        ap (λ n. take (n + 1) (piece ++ (44 ∷ bytes)) ++ more) is
        ∙ ap (λ text. text ++ more) (take-append-add piece (44 ∷ bytes) 1)
        ∙ append_assoc piece (44 ∷ []) more in
        let (value, it, rest) = said_cut piece more values none (subst P whole told) in
        unsaid value it

    -- nor with a byte before it
    before_comma : at < length piece → ¬ (GoesOn Said (take (at + 1) (piece ++ (44 ∷ bytes))))
    before_comma lt goes =
        let P : ByteList → Type 0 = λ text. GoesOn Said text in
        place.longest lt
        (item_goes (take (at + 1) piece) (no_comma_take (at + 1) piece none)
        (subst P (take-append-le (at + 1) piece (44 ∷ bytes) (omega arith)) goes))

    -- so the list sticks where the item does
    stuck_before : IsRight Said (piece ++ (44 ∷ bytes)) (stuck at)
    stuck_before =
        let P : ByteList → Type 0 = λ text. GoesOn Said text in (
          λ values s.
              let (value, it, rest) = said_cut piece bytes values none s in unsaid value it,
          record {
            within = within_list;
            front = subst P (sym (take-append-le at piece (44 ∷ bytes) place.within))
                (list_goes (take at piece) place.front);
            longest = λ lt.
                elim (cases_lt at (length piece)) [
                  | inl less ↦ before_comma less
                  | inr more ↦ past_comma (let w = place.within in omega arith)
                ];
          },
        )

  -- an item before a comma, and then a list
  module _ (piece bytes : ByteList) (none : NoComma piece) (value : V) (is : IsItem piece value)
      (only : (other : V) → IsItem piece other → other ≡ value) where
    -- what says the values behind the first
    abbrev Later : ByteList → List V → Type 0
    Later text values = (rest : List V) × Said text rest × (values ≡ value ∷ rest)

    -- a list behind the item says its value first
    later_of : (text : ByteList) (values : List V) → Alike bytes text
        → Said ((piece ++ (44 ∷ [])) ++ text) values → Later text values
    later_of text values alike told =
        let P : ByteList → Type 0 = λ t. Said t values in
        let (other, it, (rest, say, same)) =
        said_cut piece text values none (subst P (append_assoc piece (44 ∷ []) text) told) in
        (rest, say, same ∙ ap (λ v. v ∷ rest) (only other it))

    -- and every list goes on from the item
    of_later : (text : ByteList) (values : List V) → Later text values
        → Said ((piece ++ (44 ∷ [])) ++ text) values
    of_later text values (rest, say, same) =
        let P : ByteList → Type 0 = λ t. Said t values in
        let Q : List V → Type 0 = λ l. Said (piece ++ (44 ∷ text)) l in
        subst P (sym (append_assoc piece (44 ∷ []) text))
        (subst Q (sym same) (cut_said piece text value rest none is say))

    -- the two ways to say that a reading stands behind the item
    joined_is : (n : ℕ) (rest : Reading (List V))
        → behind n (mapped (λ values. value ∷ values) rest) ≡ joined (said value) n rest
    joined_is n (said values) = refl
    joined_is n (stuck at) = refl

    -- so the list is read as its item and the rest
    said_before : (rest : Reading (List V)) → IsRight Said bytes rest
        → IsRight Said (piece ++ (44 ∷ bytes)) (joined (said value) (length piece + 1) rest)
    said_before rest right =
        let front = piece ++ (44 ∷ []) in
        let reading = mapped (λ values. value ∷ values) rest in
        let P : ByteList → Type 0 =
        λ text. IsRight Said text (joined (said value) (length piece + 1) rest) in
        let Q : Reading (List V) → Type 0 = λ r. IsRight Said (front ++ bytes) r in
        subst P (append_assoc piece (44 ∷ []) bytes)
        (subst Q
        (ap (λ n. behind n reading) (length-append piece (44 ∷ []))
        ∙ joined_is (length piece + 1) rest)
        (behind_right Said Later front bytes later_of of_later reading
        (mapped_right Later Said (λ values. value ∷ values) (λ text values s. s)
        (λ text other s. (other, s, refl)) bytes rest right)))

  -- an item before a comma, read or not
  more_right : (piece bytes : ByteList) → NoComma piece → (reading : Reading V)
      (rest : Reading (List V)) → IsRight IsItem piece reading → IsRight Said bytes rest
      → IsRight Said (piece ++ (44 ∷ bytes)) (joined reading (length piece + 1) rest)
  more_right piece bytes none (said value) rest right later =
      said_before piece bytes none value right.0 right.1 rest later
  more_right piece bytes none (stuck at) rest right later =
      stuck_before piece bytes none at right.0 right.1

  -- the bytes are items between commas as their pieces are items
  say_clean : (ps : List ByteList) (values : List V) → Say IsItem ps values
      → AllByRecursion NoComma ps
  say_clean [] values say = tt
  say_clean (piece ∷ more) [] say = absurd say
  say_clean (piece ∷ more) (value ∷ values) say =
      (no_comma piece value say.0, say_clean more values say.1)

  -- what is printed of pieces has them as its pieces
  said_join : (ps : List ByteList) (values : List V) → ps ≢ [] → Say IsItem ps values
      → Said (join_with_byte 44 ps) values
  said_join [] values some say = absurd (some refl)
  said_join (piece ∷ more) values some say =
      let P : List ByteList → Type 0 = λ l. Say IsItem l values in
      subst P (sym (pieces_join piece more (say_clean (piece ∷ more) values say))) say

  -- a list is what its pieces say
  list_pieces : (bytes : ByteList) (values : List V) → IsList IsItem bytes values
      → Said bytes values
  list_pieces bytes values list =
      let P : ByteList → Type 0 = λ text. Said text values in
      subst P (sym list.printed) (said_join list.pieces values list.some list.say)

  -- and what its pieces say is a list
  list_of_pieces : (bytes : ByteList) (values : List V) → Said bytes values
      → IsList IsItem bytes values
  list_of_pieces bytes values told =
      let (piece, more, is) = pieces_some bytes in
      record {
        pieces = pieces bytes;
        some = λ none. cc;
        printed = sym (join_with_byte-slice_split 44 bytes);
        say = told;
      }

  module _ (item : ByteList → Reading V)
      (right : (bytes : ByteList) → IsRight IsItem bytes (item bytes)) where
    -- the reading of pieces is right
    all_right : (piece : ByteList) (more : List ByteList) → AllByRecursion NoComma (piece ∷ more)
        → IsRight Said (join_with_byte 44 (piece ∷ more)) (pieces_read item (piece ∷ more))
    all_right piece [] clean =
        last_right piece clean.0 (length piece + 1) (item piece) (right piece)
    all_right piece (next ∷ more) clean =
        more_right piece (join_with_byte 44 (next ∷ more)) clean.0 (item piece)
        (pieces_read item (next ∷ more)) (right piece) (all_right next more clean.1)

    -- so is that of the pieces of the bytes
    said_right : (bytes : ByteList) → IsRight Said bytes (listed item bytes)
    said_right bytes =
        let (piece, more, is) = pieces_some bytes in
        let C : List ByteList → Type 0 = λ ps. AllByRecursion NoComma ps in
        let P : List ByteList → Type 0 =
        λ ps. IsRight Said (join_with_byte 44 ps) (pieces_read item ps) in
        let Q : ByteList → Type 0 = λ text. IsRight Said text (listed item bytes) in
        subst Q (join_with_byte-slice_split 44 bytes)
        (subst P (sym is) (all_right piece more (subst C is (pieces_clean bytes))))

    -- the reading of a list is right
    pub list_right : (bytes : ByteList) → IsRight (IsList IsItem) bytes (listed item bytes)
    list_right bytes =
        alike_right (IsList IsItem) Said bytes
        (λ text values alike list. list_pieces text values list) list_of_pieces (listed item bytes)
        (said_right bytes)

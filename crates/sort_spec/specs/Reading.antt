-- The readings of texts as functions of their bytes (own).
use Rattle.std.specs.Prelude.{ℕ, ◌+◌, length, take, drop, List, [], ◌∷◌, Bool, false, ◌==◌}
use Rattle.std.specs.Prelude.{if◌then◌else◌}
use Rattle.std.specs.Char.{to_ascii_lowercase}
use Rattle.std.specs.List.{prefix_len, slice_split}
use Rattle.tuple_values.specs.Document.{ByteList}
use Rattle.sort_spec.specs.Grammar.{is_blank, is_field_byte, is_side_byte}
use Rattle.sort_spec.specs.Texts.{direction_word, once}
use Rattle.sort_spec.specs.declared.term.SortTerm.{SortTerm}
use Rattle.sort_spec.specs.declared.pair.OnPair.{OnPair}

-- what bytes say, or the place where they stick
pub data Reading (V : Type 0) : Type 0 where
  said : V → Reading V
  stuck : ℕ → Reading V

-- the reading of what stands behind so many bytes
abbrev pub behind : {V : Type 0} → ℕ → Reading V → Reading V
behind n (said value) = said value
behind n (stuck at) = stuck (n + at)

-- what is made of a value that is said
abbrev pub mapped : {V W : Type 0} → (V → W) → Reading V → Reading W
mapped f (said value) = said (f value)
mapped f (stuck at) = stuck at

-- as many bytes as pass, and then what is read of them and of the rest
abbrev pub past : {V : Type 0} → (ℕ → Bool) → (ByteList → ByteList → Reading V)
    → ByteList → Reading V
past test next bytes =
    let n = prefix_len test bytes in behind n (next (take n bytes) (drop n bytes))

-- the reading, but where the bytes are none
abbrev pub unless_none : {V : Type 0} → ByteList → Reading V → Reading V
unless_none [] reading = stuck 0
unless_none (b ∷ bytes) reading = reading

-- the same where at least one has to pass
abbrev pub past_some : {V : Type 0} → (ℕ → Bool) → (ByteList → ByteList → Reading V)
    → ByteList → Reading V
past_some test next = past test (λ front rest. unless_none front (next front rest))

-- nothing more
abbrev pub ended : {V : Type 0} → V → ByteList → Reading V
ended value [] = said value
ended value (b ∷ bytes) = stuck 0

-- blanks, and nothing more
abbrev pub closed : {V : Type 0} → V → ByteList → Reading V
closed value = past is_blank (λ blanks rest. ended value rest)

-- the letters of a word in any case, and then the rest
abbrev pub letters : {V : Type 0} → ByteList → (ByteList → Reading V) → ByteList → Reading V
letters [] next bytes = next bytes
letters (letter ∷ word) next [] = stuck 0
letters (letter ∷ word) next (b ∷ bytes) =
    if to_ascii_lowercase b == letter then behind 1 (letters word next bytes) else stuck 0

-- a name
abbrev pub name_of : ByteList → Reading ByteList
name_of = past is_blank (λ blanks. past_some is_field_byte closed)

-- whether a `d` of any case comes first
abbrev pub begins_with_d : ByteList → Bool
begins_with_d [] = false
begins_with_d (b ∷ bytes) = to_ascii_lowercase b == 100

-- the direction of a term, and then blanks
abbrev pub directed : ByteList → Bool → ByteList → Reading SortTerm
directed field descending =
    letters (direction_word descending) (closed (record { field = field; descending = descending }))

-- a term
abbrev pub term_of : ByteList → Reading SortTerm
term_of =
    past is_blank (λ blanks. past_some is_field_byte (λ field. past_some is_blank (λ between rest.
    directed field (begins_with_d rest) rest)))

-- whether an equals sign comes first
abbrev pub begins_with_equals : ByteList → Bool
begins_with_equals [] = false
begins_with_equals (b ∷ bytes) = b == 61

-- what may follow the left name of a pair
abbrev pub second : ByteList → ByteList → Reading OnPair
second left rest =
    if begins_with_equals rest then behind 1 (past_some is_side_byte
    (λ right. closed (record { left = left; right = right })) (drop 1 rest))
    else closed (record { left = left; right = left }) rest

-- a pair
abbrev pub pair_of : ByteList → Reading OnPair
pair_of = past is_blank (λ blanks. past_some is_side_byte second)

-- a first item, behind which the rest begins at a place
abbrev pub joined : {V : Type 0} → Reading V → ℕ → Reading (List V) → Reading (List V)
joined (stuck at) n rest = stuck at
joined (said value) n (said values) = said (value ∷ values)
joined (said value) n (stuck at) = stuck (n + at)

-- the pieces of a list, each with a comma behind it
abbrev pub pieces_read : {V : Type 0} → (ByteList → Reading V) → List ByteList → Reading (List V)
pieces_read item [] = said []
pieces_read item (piece ∷ pieces) =
    joined (item piece) (length piece + 1) (pieces_read item pieces)

-- items between commas
abbrev pub listed : {V : Type 0} → (ByteList → Reading V) → ByteList → Reading (List V)
listed item bytes = pieces_read item (slice_split (λ b. b == 44) bytes)

-- a sort
abbrev pub sort_of : ByteList → Reading (List SortTerm)
sort_of = listed term_of

-- pairs
abbrev pub on_of : ByteList → Reading (List OnPair)
on_of = listed pair_of

-- names, each once
abbrev pub names_of : ByteList → Reading (List ByteList)
names_of bytes = mapped once (listed name_of bytes)

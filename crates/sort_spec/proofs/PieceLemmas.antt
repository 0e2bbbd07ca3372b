-- The readings of terms and pairs, by the places where their parts end.
use Rattle.std.proofs.Common.{◌≡◌, ℕ, ◌+◌, ◌<◌, ◌≤◌, [], ◌∷◌, length, drop, take}
use Rattle.std.proofs.Common.{Bool, true, false, if◌then◌else◌, refl, sym, ◌∙◌, ap, subst, Err}
use Rattle.std.specs.List.{prefix_len, slice_range, common_prefix_len}
use Rattle.std.proofs.lemmas.List.{drop-drop}
use Rattle.tuple_values.specs.Document.{ByteList}
use Rattle.sort_spec.specs.Grammar.{is_blank, is_field_byte, is_side_byte}
use Rattle.sort_spec.specs.Scan.{same_letter}
use Rattle.sort_spec.specs.Texts.{direction_word}
use Rattle.sort_spec.specs.Reading.{Reading, behind, mapped, unless_none, past_some, closed}
use Rattle.sort_spec.specs.Reading.{letters}
use Rattle.sort_spec.specs.Reading.{begins_with_d, directed, term_of, begins_with_equals, second}
use Rattle.sort_spec.specs.Reading.{pair_of}
use Rattle.sort_spec.specs.Fault.{Answers}
use Rattle.sort_spec.specs.declared.fault.SortFault.{SortFault}
use Rattle.sort_spec.specs.declared.fault.SortFault.TheVariants.{BadSort, OutOfMemory}
use Rattle.sort_spec.specs.declared.term.SortTerm.{SortTerm}
use Rattle.sort_spec.specs.declared.pair.OnPair.{OnPair}
use Rattle.sort_spec.proofs.RightLemmas.{behind_nothing}
use Rattle.sort_spec.proofs.ScanLemmas.{behind-behind, behind-mapped, past_at, past_some_at}
use Rattle.sort_spec.proofs.ScanLemmas.{closed-mapped, letters_as, letters_read}

-- a word that stands whole at a place, and what is read behind it
pub word_at : {V : Type 0} (word : ByteList) (next : ByteList → Reading V) (text : ByteList)
    (from n : ℕ) → n ≡ common_prefix_len same_letter (drop from text) word → n ≡ length word
    → behind from (letters word next (drop from text))
    ≡ behind (from + n) (next (drop (from + n) text))
word_at word next text from n is all =
    ap (behind from) (letters_read word next (drop from text) n is all)
    ∙ behind-behind from n (next (drop n (drop from text)))
    ∙ ap (λ rest. behind (from + n) (next rest)) (drop-drop n from text)

-- a term, where its field, the blanks behind it and its direction begin and end
module _ (piece : ByteList) (start end from : ℕ) (descending : Bool)
    (starts : start ≡ 0 + prefix_len is_blank (drop 0 piece))
    (ends : end ≡ start + prefix_len is_field_byte (drop start piece))
    (some : start < end) (within : end ≤ length piece)
    (gap : from ≡ end + prefix_len is_blank (drop end piece))
    (some_gap : end < from) (within_gap : from ≤ length piece)
    (first : descending ≡ begins_with_d (drop from piece)) where
  -- it is read by its direction
  pub term_read : term_of piece
      ≡ mapped (λ (u : Unit {0}). record {
        field = slice_range piece start end;
        descending = descending;
      })
      (behind from (letters (direction_word descending) (closed tt) (drop from piece)))
  term_read =
      let field = slice_range piece start end in
      let rest = drop from piece in
      let next : ByteList → ByteList → Reading SortTerm =
      λ name. past_some is_blank (λ gap rest. directed name (begins_with_d rest) rest) in
      let said : Unit {0} → SortTerm = λ u. record { field = field; descending = descending } in
      sym (behind_nothing (term_of piece))
      ∙ past_at is_blank (λ blanks. past_some is_field_byte next) piece 0 start starts
      ∙ past_some_at is_field_byte next piece start end ends some within
      ∙ past_some_at is_blank (λ between behind. directed field (begins_with_d behind) behind)
      piece end from gap some_gap within_gap
      ∙ ap (λ d. behind from (directed field d rest)) (sym first)
      ∙ ap (behind from) (letters_as (said tt) (direction_word descending) rest)
      ∙ behind-mapped said from (letters (direction_word descending) (closed tt) rest)

-- a name that is there says what is made of it
unless_none-mapped : {W : Type 0} (f : ByteList → W) (front rest : ByteList)
    → unless_none front (closed (f front) rest) ≡ mapped f (unless_none front (closed front rest))
unless_none-mapped f [] rest = refl
unless_none-mapped f (b ∷ front) rest = closed-mapped f (b ∷ front) rest

-- a last name says what is made of it
past_some-mapped : {W : Type 0} (f : ByteList → W) (test : ℕ → Bool) (bytes : ByteList)
    → past_some test (λ name. closed (f name)) bytes ≡ mapped f (past_some test closed bytes)
past_some-mapped f test bytes =
    let n = prefix_len test bytes in
    ap (behind n) (unless_none-mapped f (take n bytes) (drop n bytes))
    ∙ behind-mapped f n (unless_none (take n bytes) (closed (take n bytes) (drop n bytes)))

-- behind an equals sign there is the right name
second_two : (left piece : ByteList) (end : ℕ) → begins_with_equals (drop end piece) ≡ true
    → behind end (second left (drop end piece))
    ≡ mapped (λ (right : ByteList). record { left = left; right = right })
    (behind (end + 1) (past_some is_side_byte closed (drop (end + 1) piece)))
second_two left piece end sign =
    let rest = drop end piece in
    let said : ByteList → OnPair = λ right. record { left = left; right = right } in
    let two = λ (more : ByteList). past_some is_side_byte (λ right. closed (said right)) more in
    ap (λ (t : Bool).
    behind end (if t then behind 1 (two (drop 1 rest)) else closed (said left) rest)) sign
    ∙ behind-behind end 1 (two (drop 1 rest))
    ∙ ap (λ r. behind (end + 1) (two r)) (drop-drop 1 end piece)
    ∙ ap (behind (end + 1)) (past_some-mapped said is_side_byte (drop (end + 1) piece))
    ∙ behind-mapped said (end + 1) (past_some is_side_byte closed (drop (end + 1) piece))

-- and else nothing but blanks
second_one : (left piece : ByteList) (end : ℕ) → begins_with_equals (drop end piece) ≡ false
    → behind end (second left (drop end piece))
    ≡ mapped (λ (u : Unit {0}). record { left = left; right = left })
    (behind end (closed tt (drop end piece)))
second_one left piece end none =
    let rest = drop end piece in
    let said : ByteList → OnPair = λ right. record { left = left; right = right } in
    let two = past_some is_side_byte (λ right. closed (said right)) (drop 1 rest) in
    let same : Unit {0} → OnPair = λ u. record { left = left; right = left } in
    ap (λ (t : Bool). behind end (if t then behind 1 two else closed (said left) rest)) none
    ∙ ap (behind end) (closed-mapped same tt rest)
    ∙ behind-mapped same end (closed tt rest)

-- a pair, where its left name begins and ends
module _ (piece : ByteList) (start end : ℕ)
    (starts : start ≡ 0 + prefix_len is_blank (drop 0 piece))
    (ends : end ≡ start + prefix_len is_side_byte (drop start piece))
    (some : start < end) (within : end ≤ length piece) where
  -- it is read by what stands behind that
  pair_read : pair_of piece ≡ behind end (second (slice_range piece start end) (drop end piece))
  pair_read =
      sym (behind_nothing (pair_of piece))
      ∙ past_at is_blank (λ blanks. past_some is_side_byte second) piece 0 start starts
      ∙ past_some_at is_side_byte second piece start end ends some within

  -- by the right name behind an equals sign
  pub pair_two : begins_with_equals (drop end piece) ≡ true
      → pair_of piece
      ≡ mapped (λ (right : ByteList). record { left = slice_range piece start end; right = right })
      (behind (end + 1) (past_some is_side_byte closed (drop (end + 1) piece)))
  pair_two sign = pair_read ∙ second_two (slice_range piece start end) piece end sign

  -- and by nothing where there is none
  pub pair_one : begins_with_equals (drop end piece) ≡ false
      → pair_of piece
      ≡ mapped (λ (u : Unit {0}). record {
        left = slice_range piece start end;
        right = slice_range piece start end;
      })
      (behind end (closed tt (drop end piece)))
  pair_one none = pair_read ∙ second_one (slice_range piece start end) piece end none

-- a refusal of a reading is one of what is made of it
refused-mapped : {V W : Type 0} (f : V → W) (reading : Reading V) (fault : SortFault)
    → Answers reading (Err fault) → Answers (mapped f reading) (Err fault)
refused-mapped f reading (BadSort at) is = ap (mapped f) is
refused-mapped f reading OutOfMemory is = tt

-- also where the whole is read as another reading
pub refused : {V W : Type 0} (f : V → W) (whole : Reading W) (reading : Reading V)
    (fault : SortFault) → whole ≡ mapped f reading → Answers reading (Err fault)
    → Answers whole (Err fault)
refused f whole reading fault is refusal =
    let P : Reading _ → Type 0 = λ r. Answers r (Err fault) in
    subst P (sym is) (refused-mapped f reading fault refusal)

-- Readings by places of a text, as the code goes over it.
use Rattle.std.proofs.Common.{◌≡◌, ℕ, zero, suc, ◌+◌, ◌-◌, ◌<◌, ◌≤◌, [], ◌∷◌, length, take, drop}
use Rattle.std.proofs.Common.{Bool, true, false, ◌==◌, refl, sym, ◌∙◌, ap, subst, inl, inr, arith}
use Rattle.std.proofs.Common.{get_or}
use Rattle.std.proofs.Common.{add-zero, add_assoc, if◌then◌else◌}
use Rattle.std.specs.List.{prefix_len, slice_range, common_prefix_len}
use Rattle.std.specs.Char.{to_ascii_lowercase}
use Rattle.std.specs.Str.{IsCharBoundary, IsUtf8}
use Rattle.std.proofs.lemmas.Grind.{common_steps}
use Rattle.std.proofs.lemmas.Bool.{cases_lt}
use Rattle.std.proofs.lemmas.List.{drop-drop, length-drop, get_or-drop}
use Rattle.std.proofs.lemmas.List.Sums.{prefix_len-le-length, prefix_len_passes, prefix_len_stops}
use Rattle.std.proofs.lemmas.Str.{IsCharBoundary-before_ascii, IsCharBoundary-after_ascii}
use Rattle.std.proofs.lemmas.Str.{IsCharBoundary-end}
use Rattle.tuple_values.specs.Document.{ByteList}
use Rattle.sort_spec.specs.Grammar.{is_blank, is_field_byte, is_side_byte}
use Rattle.sort_spec.specs.Scan.{is_of, same_letter}
use Rattle.sort_spec.specs.Reading.{Reading, said, stuck, behind, mapped, past, unless_none}
use Rattle.sort_spec.specs.Reading.{past_some, ended, closed, letters}
use Rattle.sort_spec.proofs.ByteLemmas.{blank_ascii, not_field_ascii, not_side_ascii}
use Rattle.sort_spec.proofs.RightLemmas.{behind_nothing}
use Rattle.sort_spec.specs.declared.scan.Kind.{Kind}
use Rattle.sort_spec.specs.declared.scan.Kind.TheVariants.{Blank, Field, Side}

-- a reading behind some bytes that stand behind others
pub behind-behind : {V : Type 0} (m n : ℕ) (reading : Reading V)
    → behind m (behind n reading) ≡ behind (m + n) reading
behind-behind m n (said value) = refl
behind-behind m n (stuck at) = ap stuck (sym (add_assoc m n at))

-- a run of bytes at a place, and what is read behind it
pub past_at : {V : Type 0} (test : ℕ → Bool) (next : ByteList → ByteList → Reading V)
    (text : ByteList) (from end : ℕ) → end ≡ from + prefix_len test (drop from text)
    → behind from (past test next (drop from text))
    ≡ behind end (next (slice_range text from end) (drop end text))
past_at test next text from end is =
    let n = prefix_len test (drop from text) in
    let P : ℕ → Type 0 =
    λ e. behind from (past test next (drop from text))
    ≡ behind e (next (slice_range text from e) (drop e text)) in
    subst P (sym is)
    (behind-behind from n (next (take n (drop from text)) (drop n (drop from text)))
    ∙ ap (λ rest. behind (from + n) (next (take n (drop from text)) rest)) (drop-drop n from text)
    ∙ ap (λ k. behind (from + n) (next (take k (drop from text)) (drop (from + n) text)))
    (omega arith))

-- a run that may not be empty, where it isn't
some_read : {V : Type 0} (text : ByteList) (from end : ℕ) (reading : Reading V)
    → from < end → end ≤ length text
    → unless_none (slice_range text from end) reading ≡ reading
some_read text from end reading lt within =
    unless_some (slice_range text from end) (omega (arith, length_range)) where
      length_range : length (slice_range text from end) ≡ end - from
      length_range = grind (arith, common_steps)

      unless_some : (bytes : ByteList) → 0 < length bytes → unless_none bytes reading ≡ reading
      unless_some [] none = absurd (omega arith)
      unless_some (b ∷ bytes) some = refl

-- it is read and then what stands behind it
pub past_some_at : {V : Type 0} (test : ℕ → Bool) (next : ByteList → ByteList → Reading V)
    (text : ByteList) (from end : ℕ) → end ≡ from + prefix_len test (drop from text)
    → from < end → end ≤ length text
    → behind from (past_some test next (drop from text))
    ≡ behind end (next (slice_range text from end) (drop end text))
past_some_at test next text from end is lt within =
    past_at test (λ front rest. unless_none front (next front rest)) text from end is
    ∙ ap (behind end)
    (some_read text from end (next (slice_range text from end) (drop end text)) lt within)

-- where it is
pub past_none_at : {V : Type 0} (test : ℕ → Bool) (next : ByteList → ByteList → Reading V)
    (text : ByteList) (from end : ℕ) → end ≡ from + prefix_len test (drop from text) → end ≡ from
    → behind from (past_some test next (drop from text)) ≡ stuck end
past_none_at test next text from end is same =
    past_at test (λ front rest. unless_none front (next front rest)) text from end is
    ∙ ap (λ front.
    behind end (unless_none front (next (slice_range text from end) (drop end text))))
    (ap (λ n. take n (drop from text)) nothing)
    ∙ ap stuck (add-zero end) where
      nothing : end - from ≡ 0
      nothing = omega arith

-- what is made of a value doesn't change the place
pub behind-mapped : {V W : Type 0} (f : V → W) (n : ℕ) (reading : Reading V)
    → behind n (mapped f reading) ≡ mapped f (behind n reading)
behind-mapped f n (said value) = refl
behind-mapped f n (stuck at) = refl

-- what stands closed says a value as it says what is made of it
pub closed-mapped : {V W : Type 0} (f : V → W) (value : V) (bytes : ByteList)
    → closed (f value) bytes ≡ mapped f (closed value bytes)
closed-mapped f value bytes =
    ap (behind (prefix_len is_blank bytes)) (ended-mapped (drop (prefix_len is_blank bytes) bytes))
    ∙ behind-mapped f (prefix_len is_blank bytes)
    (ended value (drop (prefix_len is_blank bytes) bytes)) where
      ended-mapped : (rest : ByteList) → ended (f value) rest ≡ mapped f (ended value rest)
      ended-mapped [] = refl
      ended-mapped (b ∷ rest) = refl

-- so does what stands closed behind a word
letters_as_by : {V : Type 0} (value : V) (word bytes : ByteList) (test : Bool)
    → letters word (closed value) bytes
    ≡ mapped (λ (u : Unit {0}). value) (letters word (closed tt) bytes)
    → (if test then behind 1 (letters word (closed value) bytes) else stuck 0)
    ≡ mapped (λ (u : Unit {0}). value)
    (if test then behind 1 (letters word (closed tt) bytes) else stuck 0)
letters_as_by value word bytes true later =
    ap (behind 1) later
    ∙ behind-mapped (λ (u : Unit {0}). value) 1 (letters word (closed tt) bytes)
letters_as_by value word bytes false later = refl

-- for all bytes
pub letters_as : {V : Type 0} (value : V) (word bytes : ByteList)
    → letters word (closed value) bytes
    ≡ mapped (λ (u : Unit {0}). value) (letters word (closed tt) bytes)
letters_as value [] bytes = closed-mapped (λ (u : Unit {0}). value) tt bytes
letters_as value (letter ∷ word) [] = refl
letters_as value (letter ∷ word) (b ∷ bytes) =
    letters_as_by value word bytes (to_ascii_lowercase b == letter) (letters_as value word bytes)

-- how many letters of a word stand there
abbrev count_of : ByteList → ByteList → ℕ
count_of word bytes = common_prefix_len same_letter bytes word

-- the letters of a word, where all of them stand there
letters_read_by : {V : Type 0} (word : ByteList) (next : ByteList → Reading V) (b : ℕ)
    (bytes : ByteList) (n : ℕ) (test : Bool) → n ≡ (if test then 1 + count_of word bytes else 0)
    → n ≡ suc (length word)
    → (count_of word bytes ≡ length word
    → letters word next bytes
    ≡ behind (count_of word bytes) (next (drop (count_of word bytes) bytes)))
    → (if test then behind 1 (letters word next bytes) else stuck 0)
    ≡ behind n (next (drop n (b ∷ bytes)))
letters_read_by word next b bytes n true is all later =
    let count = count_of word bytes in
    let more : n ≡ suc count = omega arith in
    ap (behind 1) (later (omega arith))
    ∙ behind-behind 1 count (next (drop count bytes))
    ∙ ap (λ k. behind k (next (drop (suc count) (b ∷ bytes)))) (omega arith)
    ∙ ap (λ k. behind k (next (drop k (b ∷ bytes)))) (sym more)
letters_read_by word next b bytes n false is all later = absurd (omega arith)

-- for all words and bytes
pub letters_read : {V : Type 0} (word : ByteList) (next : ByteList → Reading V)
    (bytes : ByteList) (n : ℕ) → n ≡ count_of word bytes → n ≡ length word
    → letters word next bytes ≡ behind n (next (drop n bytes))
letters_read [] next bytes n is all = rw all (sym (behind_nothing (next bytes)))
letters_read (letter ∷ word) next [] n is all = absurd (omega arith)
letters_read (letter ∷ word) next (b ∷ bytes) n is all =
    letters_read_by word next b bytes n (to_ascii_lowercase b == letter) is (omega arith)
    (letters_read word next bytes (count_of word bytes) refl)

-- and where they don't
letters_stuck_by : {V : Type 0} (word : ByteList) (next : ByteList → Reading V)
    (bytes : ByteList) (n : ℕ) (test : Bool)
    → n ≡ (if test then 1 + count_of word bytes else 0) → n < suc (length word)
    → (count_of word bytes < length word
    → letters word next bytes ≡ stuck (count_of word bytes))
    → (if test then behind 1 (letters word next bytes) else stuck 0) ≡ stuck n
letters_stuck_by word next bytes n true is less later =
    ap (behind 1) (later (omega arith)) ∙ ap stuck (sym is)
letters_stuck_by word next bytes n false is less later = ap stuck (sym is)

-- for all words and bytes
pub letters_stuck : {V : Type 0} (word : ByteList) (next : ByteList → Reading V)
    (bytes : ByteList) (n : ℕ) → n ≡ count_of word bytes → n < length word
    → letters word next bytes ≡ stuck n
letters_stuck [] next bytes n is less = absurd (omega arith)
letters_stuck (letter ∷ word) next [] n is less = ap stuck (sym is)
letters_stuck (letter ∷ word) next (b ∷ bytes) n is less =
    letters_stuck_by word next bytes n (to_ascii_lowercase b == letter) is (omega arith)
    (letters_stuck word next bytes (count_of word bytes) refl)

-- blanks end where a character does, if they begin where one does
blank_boundary : (text : ByteList) (from n : ℕ) → IsUtf8 text → IsCharBoundary text from
    → n ≡ prefix_len is_blank (drop from text) → IsCharBoundary text (from + n)
blank_boundary text from zero utf8 begins is = rw add-zero begins
blank_boundary text from (suc n) utf8 begins is =
    let rest = drop from text in
    let within : from + n < length text =
    omega (arith, prefix_len-le-length is_blank rest, length-drop from text) in
    let blank : is_blank (get_or text (from + n) 0) ≡ true =
    ap is_blank (sym (get_or-drop from text n 0))
    ∙ prefix_len_passes is_blank rest n 0 (omega arith) in
    let P : ℕ → Type 0 = λ k. IsCharBoundary text k in
    subst P (omega arith)
    (IsCharBoundary-after_ascii text (from + n) utf8 within (blank_ascii _ blank))

-- what a byte ends that is ASCII ends where a character does
stop_boundary : (test : ℕ → Bool) → ((b : ℕ) → test b ≡ false → b < 128)
    → (text : ByteList) (from : ℕ) → from ≤ length text
    → IsCharBoundary text (from + prefix_len test (drop from text))
stop_boundary test ascii text from within =
    let rest = drop from text in
    let n = prefix_len test rest in
    let most : from + n ≤ length text =
    omega (arith, prefix_len-le-length test rest, length-drop from text) in
    let P : ℕ → Type 0 = λ k. IsCharBoundary text k in
    elim (cases_lt (from + n) (length text)) [
      | inl lt ↦
          IsCharBoundary-before_ascii text (from + n) lt
          (ascii _ (ap test (sym (get_or-drop from text n 0))
          ∙ prefix_len_stops test rest 0 (omega (arith, length-drop from text))))
      | inr ge ↦ subst P (omega arith) (IsCharBoundary-end text)
    ]

-- so a run ends where a character does, if it begins where one does
pub run_boundary : (kind : Kind) (text : ByteList) (from : ℕ) → IsUtf8 text
    → IsCharBoundary text from
    → IsCharBoundary text (from + prefix_len (is_of kind) (drop from text))
run_boundary Blank text from utf8 begins =
    blank_boundary text from (prefix_len is_blank (drop from text)) utf8 begins refl
run_boundary Field text from utf8 begins =
    stop_boundary is_field_byte not_field_ascii text from begins.0
run_boundary Side text from utf8 begins =
    stop_boundary is_side_byte not_side_ascii text from begins.0

-- The names that a list of words says, as they are read one by one.
use Rattle.std.proofs.Common.{◌≡◌, ℕ, ◌+◌, ◌<◌, ◌≤◌, List, []}
use Rattle.std.proofs.Common.{◌∷◌, ◌++◌, length, get_or, drop, Bool, true, false, not, ◌&&◌, ◌||◌}
use Rattle.std.proofs.Common.{Option, Some, None, refl, sym}
use Rattle.std.proofs.Common.{◌∙◌, ap, arith, append_assoc, add_assoc, zero-add, if◌then◌else◌, inl, inr}
use Rattle.std.specs.Prelude.{nat_le, is_some}
use Rattle.std.proofs.lemmas.List.{drop_more, drop_all, append-nil}
use Rattle.std.proofs.lemmas.List.Sums.{sum_by-append}
use Rattle.std.proofs.lemmas.Bool.{le-leb, lt-leb, and_right}
use Rattle.std.proofs.lemmas.Bool.Decides.{leb_tells}
use Rattle.tuple_values.specs.Document.{ByteList}
use Rattle.tuple_values.specs.declared.names.NameShards.{NameShards}
use Rattle.command_words.specs.Words.{name_of}
use Rattle.command_words.specs.Names.{says_name, is_said, has_name, differ, shards_in, go_together}
use Rattle.command_words.specs.Names.{joined, each_of, behind, names_of}
use Rattle.command_words.proofs.CommandLemmas.{joined-nil, joined-cons}

-- collections before those of other words, where all are there
abbrev pub before : List NameShards → Option (List NameShards) → Option (List NameShards)
before names None = None
before names (Some others) = Some (names ++ others)

-- before any none was read
pub before-nil : (o : Option (List NameShards)) → o ≡ before [] o
before-nil None = refl
before-nil (Some names) = refl

-- one more collection is read
before-joined : (names : List NameShards) (n : NameShards) (o : Option (List NameShards))
    → before names (joined (Some n) o) ≡ before (names ++ n ∷ []) o
before-joined names n None = refl
before-joined names n (Some others) = simp append_assoc

-- the words from a place on begin with the one there
word_at : (words : List ByteList) (i : ℕ) (word : ByteList) → i < length words
    → word ≡ get_or words i word
    → each_of (drop i words) ≡ joined (name_of word) (each_of (drop (i + 1) words))
word_at words i word lt is =
    ap each_of (drop_more words i word lt)
    ∙ ap (λ w. joined (name_of w) (each_of (drop (i + 1) words))) (sym is)

-- a word that names none
pub each-none : (words : List ByteList) (i : ℕ) (names : List NameShards) (word : ByteList)
    → each_of words ≡ before names (each_of (drop i words)) → i < length words
    → word ≡ get_or words i word → name_of word ≡ None → each_of words ≡ None
each-none words i names word r lt is none =
    r ∙ ap (before names) (word_at words i word lt is)
    ∙ ap (λ o. before names (joined o (each_of (drop (i + 1) words)))) none

-- a word that names one more
pub each-some : (words : List ByteList) (i : ℕ) (names : List NameShards) (word : ByteList)
    (n : NameShards)
    → each_of words ≡ before names (each_of (drop i words)) → i < length words
    → word ≡ get_or words i word → name_of word ≡ Some n
    → each_of words ≡ before (names ++ n ∷ []) (each_of (drop (i + 1) words))
each-some words i names word n r lt is some =
    r ∙ ap (before names) (word_at words i word lt is)
    ∙ ap (λ o. before names (joined o (each_of (drop (i + 1) words)))) some
    ∙ before-joined names n (each_of (drop (i + 1) words))

-- the end of the words
pub each-all : (words : List ByteList) (i : ℕ) (names : List NameShards)
    → each_of words ≡ before names (each_of (drop i words)) → length words ≤ i
    → each_of words ≡ Some names
each-all words i names r le =
    r ∙ ap (λ l. before names (each_of l)) (drop_all i words le) ∙ ap Some (append-nil names)

-- a word names a collection whose name none of those behind it has, with few shards so far, and
-- the rest is well
abbrev pub goes_on : Option NameShards → ℕ → List ByteList → (ℕ → Bool) → Bool
goes_on None together words rest = false
goes_on (Some n) together words rest =
    not (is_said n.name words) && (nat_le (together + n.shards) 16 && rest (together + n.shards))

-- each word names a collection, no two the same, and with so many shards before they are few
abbrev pub are_well : ℕ → List ByteList → Bool
are_well together [] = true
are_well together (word ∷ words) =
    goes_on (name_of word) together words (λ t. are_well t words)

-- whether the words say a name is whether one of their collections has it
said_has : (name : ByteList) (words : List ByteList) (names : List NameShards)
    → each_of words ≡ Some names → is_said name words ≡ has_name name names
said_has name [] [] e = refl
said_has name [] (n ∷ names) e = absurd (cc)
said_has name (word ∷ words) [] e =
    absurd (joined-nil (name_of word) (each_of words) e)
said_has name (word ∷ words) (n ∷ names) e =
    let parts = joined-cons (name_of word) (each_of words) n names e in
    ap (λ o. says_name name o || is_said name words) parts.0
    ∙ ap (λ b. says_name name (Some n) || b) (said_has name words names parts.1)

-- the shards of the first and of the others
shards_in-cons : (n : NameShards) (names : List NameShards)
    → shards_in (n ∷ names) ≡ n.shards + shards_in names
shards_in-cons n names = sum_by-append (λ m. m.shards) (n ∷ []) names ∙ omega arith

-- a test of a sum that is made of a part, too
part_tested : (b : Bool) (s rest : ℕ)
    → (nat_le s 16 && (b && nat_le (s + rest) 16)) ≡ (b && nat_le (s + rest) 16)
part_tested b s rest =
    elim (leb_tells s 16) [
      | inl w ↦ ap (λ x. x && (b && nat_le (s + rest) 16)) w.0
      | inr w ↦
          let many : 16 < s + rest = omega (arith, w.1) in
          ap (λ x. x && (b && nat_le (s + rest) 16)) w.0
          ∙ sym (and_right b (nat_le (s + rest) 16) (lt-leb (s + rest) 16 many))
    ]

-- the tests of one word and of the rest, as those of all
tests_joined : (a b : Bool) (together m rest : ℕ)
    → (a && (nat_le (together + m) 16 && (b && nat_le (together + m + rest) 16)))
    ≡ ((a && b) && nat_le (together + (m + rest)) 16)
tests_joined false b together m rest = refl
tests_joined true b together m rest =
    part_tested b (together + m) rest
    ∙ ap (λ k. b && nat_le k 16) (add_assoc together m rest)

-- words that each name a collection are well where these may be named together
well_some : (together : ℕ) (words : List ByteList) (names : List NameShards) → together ≤ 16
    → each_of words ≡ Some names
    → are_well together words ≡ (differ names && nat_le (together + shards_in names) 16)
well_some together [] [] le e = sym (le-leb (together + 0) 16 (omega arith))
well_some together [] (n ∷ names) le e = absurd (cc)
well_some together (word ∷ words) [] le e =
    absurd (joined-nil (name_of word) (each_of words) e)
well_some together (word ∷ words) (n ∷ names) le e =
    let parts = joined-cons (name_of word) (each_of words) n names e in
    let a = not (has_name n.name names) in
    let s = together + n.shards in
    let rest = n.shards + shards_in names in
    let tested : (a && (nat_le s 16 && are_well s words))
    ≡ ((a && differ names) && nat_le (together + rest) 16) =
    elim (leb_tells s 16) [
      | inl w ↦
          ap (λ x. a && (nat_le s 16 && x)) (well_some s words names w.1 parts.1)
          ∙ tests_joined a (differ names) together n.shards (shards_in names)
      | inr w ↦
          let many : 16 < together + rest = omega (arith, w.1) in
          ap (λ x. a && (x && are_well s words)) w.0 ∙ and_right a false refl
          ∙ sym (and_right (a && differ names) (nat_le (together + rest) 16)
          (lt-leb (together + rest) 16 many))
    ] in
    ap (λ o. goes_on o together words (λ t. are_well t words)) parts.0
    ∙ ap (λ b. not b && (nat_le s 16 && are_well s words))
    (said_has n.name words names parts.1)
    ∙ tested
    ∙ ap (λ k. (a && differ names) && nat_le (together + k) 16) (sym (shards_in-cons n names))

-- the first word, where some word names none
none_first : (together : ℕ) (word : ByteList) (words : List ByteList) (o : Option NameShards)
    (p : Option (List NameShards)) → name_of word ≡ o → each_of words ≡ p → joined o p ≡ None
    → (each_of words ≡ None → (t : ℕ) → are_well t words ≡ false)
    → are_well together (word ∷ words) ≡ false
none_first together word words None p is all none later =
    ap (λ o. goes_on o together words (λ t. are_well t words)) is
none_first together word words (Some n) None is all none later =
    let s = together + n.shards in
    ap (λ o. goes_on o together words (λ t. are_well t words)) is
    ∙ and_right (not (is_said n.name words)) (nat_le s 16 && are_well s words)
    (and_right (nat_le s 16) (are_well s words) (later all s))
none_first together word words (Some n) (Some names) is all none later = absurd (cc)

-- words of which one names no collection aren't well
well_none : (words : List ByteList) → each_of words ≡ None → (together : ℕ)
    → are_well together words ≡ false
well_none [] e together = absurd (cc)
well_none (word ∷ words) e together =
    none_first together word words (name_of word) (each_of words) refl refl e (well_none words)

-- what is given under a condition is there where it holds
some_guarded : (b : Bool) (names : List NameShards)
    → b ≡ is_some (if b then Some names else None)
some_guarded true names = refl
some_guarded false names = refl

-- by what each word names
well_by : (words : List ByteList) (o : Option (List NameShards)) → each_of words ≡ o
    → are_well 0 words ≡ is_some (behind [] o)
well_by words None e = well_none words e 0
well_by words (Some names) e =
    well_some 0 words names (omega arith) e
    ∙ ap (λ k. differ names && nat_le k 16) (zero-add (shards_in names))
    ∙ some_guarded (go_together names) names

-- words are well where they name collections that go together
pub well-is : (words : List ByteList) → are_well 0 words ≡ is_some (names_of words)
well-is words = well_by words (each_of words) refl

-- the words from a place on, by the one there
well_at : (words : List ByteList) (i : ℕ) (word : ByteList) (t : ℕ) → i < length words
    → word ≡ get_or words i word
    → are_well t (drop i words)
    ≡ goes_on (name_of word) t (drop (i + 1) words) (λ s. are_well s (drop (i + 1) words))
well_at words i word t lt is =
    ap (are_well t) (drop_more words i word lt)
    ∙ ap (λ w. goes_on (name_of w) t (drop (i + 1) words) (λ s. are_well s (drop (i + 1) words)))
    (sym is)

-- what was found of the words up to a place, with so many shards
abbrev pub IsWellTo : List ByteList → ℕ → ℕ → Type 0
IsWellTo words i t = are_well t (drop i words) ≡ is_some (names_of words)

-- a word that names none
pub well-unnamed : (words : List ByteList) (i : ℕ) (word : ByteList) (t : ℕ) → IsWellTo words i t
    → i < length words → word ≡ get_or words i word → name_of word ≡ None
    → false ≡ is_some (names_of words)
well-unnamed words i word t r lt is none =
    sym (well_at words i word t lt is
    ∙ ap (λ o. goes_on o t (drop (i + 1) words) (λ s. are_well s (drop (i + 1) words))) none) ∙ r

-- a word that names one
well-named : (words : List ByteList) (i : ℕ) (word : ByteList) (t : ℕ) (n : NameShards)
    → IsWellTo words i t → i < length words → word ≡ get_or words i word → name_of word ≡ Some n
    → (not (is_said n.name (drop (i + 1) words))
    && (nat_le (t + n.shards) 16 && are_well (t + n.shards) (drop (i + 1) words)))
    ≡ is_some (names_of words)
well-named words i word t n r lt is some =
    sym (well_at words i word t lt is
    ∙ ap (λ o. goes_on o t (drop (i + 1) words) (λ s. are_well s (drop (i + 1) words))) some) ∙ r

-- a word whose name comes again
pub well-again : (words : List ByteList) (i : ℕ) (word : ByteList) (t : ℕ) (n : NameShards)
    → IsWellTo words i t → i < length words → word ≡ get_or words i word → name_of word ≡ Some n
    → is_said n.name (drop (i + 1) words) ≡ true → false ≡ is_some (names_of words)
well-again words i word t n r lt is some said =
    let s = t + n.shards in
    sym (ap (λ b. not b && (nat_le s 16 && are_well s (drop (i + 1) words))) said)
    ∙ well-named words i word t n r lt is some

-- a word with too many shards
pub well-many : (words : List ByteList) (i : ℕ) (word : ByteList) (t : ℕ) (n : NameShards)
    → IsWellTo words i t → i < length words → word ≡ get_or words i word → name_of word ≡ Some n
    → is_said n.name (drop (i + 1) words) ≡ false → 16 < t + n.shards
    → false ≡ is_some (names_of words)
well-many words i word t n r lt is some said many =
    let s = t + n.shards in
    sym (ap (λ b. not b && (nat_le s 16 && are_well s (drop (i + 1) words))) said
    ∙ ap (λ b. b && are_well s (drop (i + 1) words)) (lt-leb s 16 many))
    ∙ well-named words i word t n r lt is some

-- a word after which it goes on
pub well-more : (words : List ByteList) (i : ℕ) (word : ByteList) (t : ℕ) (n : NameShards)
    → IsWellTo words i t → i < length words → word ≡ get_or words i word → name_of word ≡ Some n
    → is_said n.name (drop (i + 1) words) ≡ false → t + n.shards ≤ 16
    → IsWellTo words (i + 1) (t + n.shards)
well-more words i word t n r lt is some said few =
    let s = t + n.shards in
    sym (ap (λ b. not b && (nat_le s 16 && are_well s (drop (i + 1) words))) said
    ∙ ap (λ b. b && are_well s (drop (i + 1) words)) (le-leb s 16 few))
    ∙ well-named words i word t n r lt is some

-- the end of the words
pub well-all : (words : List ByteList) (i t : ℕ) → IsWellTo words i t → length words ≤ i
    → true ≡ is_some (names_of words)
well-all words i t r le = sym (ap (are_well t) (drop_all i words le)) ∙ r

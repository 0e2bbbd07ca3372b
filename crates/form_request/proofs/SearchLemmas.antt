-- What more bytes show of where a head ends.
use Rattle.std.proofs.Common.{◌≡◌, ℕ, ◌+◌, ◌<◌, ◌≤◌, Bool, true, false, nat_eq, List, [], ◌∷◌, ◌++◌, length, take, drop, get_or, Option, Some, None, refl, sym, ap, subst, ◌∙◌, arith, append_assoc, length-append, drop-drop}
use Rattle.std.specs.Prelude.{◌&&◌, if◌then◌else◌}
use Rattle.std.proofs.lemmas.List.{take_more, drop_more, take-append-drop, take-append-le, drop_all}
use Rattle.std.proofs.lemmas.Bool.Decides.{nat_tests}
use Rattle.form_request.specs.Ends.{head_length, lines_len, blank_len, shift, empty_len}
use Rattle.form_request.specs.Searches.{end_from, HasSeen, IsSearched, EndIs}
use Rattle.form_request.specs.declared.search.Search.{Search}

-- a place shifted twice
pub shift-shift : (j k : ℕ) (place : Option ℕ) → shift j (shift k place) ≡ shift (j + k) place
shift-shift j k None = refl
shift-shift j k (Some n) = ap Some (omega arith)

-- a place shifted by nothing
pub shift-zero : (place : Option ℕ) → place ≡ shift 0 place
shift-zero None = refl
shift-zero (Some n) = ap Some (omega arith)

-- a line feed before the head is passed
pub head_length-feed : (bytes : List ℕ) → head_length (10 ∷ bytes) ≡ shift 1 (head_length bytes)
head_length-feed [] = refl
head_length-feed (b ∷ bytes) = refl

pub blank_len-feed : (bytes : List ℕ) → blank_len (10 ∷ bytes) ≡ 1 + blank_len bytes
blank_len-feed [] = refl
blank_len-feed (b ∷ bytes) = refl

-- any other byte but a carriage return begins the head
pub head_length-other : (b : ℕ) (bytes : List ℕ) → nat_eq b 10 ≡ false → nat_eq b 13 ≡ false
    → head_length (b ∷ bytes) ≡ shift 1 (lines_len bytes)
head_length-other b [] feed return = refl
head_length-other b (c ∷ bytes) feed return = rw (feed, return) refl

pub blank_len-other : (b : ℕ) (bytes : List ℕ) → nat_eq b 10 ≡ false → nat_eq b 13 ≡ false
    → blank_len (b ∷ bytes) ≡ 0
blank_len-other b [] feed return = rw feed refl
blank_len-other b (c ∷ bytes) feed return = rw (feed, return) refl

-- a carriage return that no line feed follows begins the head
pub head_length-return : (c : ℕ) (bytes : List ℕ) → nat_eq c 10 ≡ false
    → head_length (13 ∷ c ∷ bytes) ≡ shift 2 (lines_len bytes)
head_length-return c bytes feed = rw feed (shift-shift 1 1 (lines_len bytes))

pub blank_len-return : (c : ℕ) (bytes : List ℕ) → nat_eq c 10 ≡ false
    → blank_len (13 ∷ c ∷ bytes) ≡ 0
blank_len-return c bytes feed = rw feed refl

-- in a line, a byte that is no line feed is passed
pub lines_len-other : (b : ℕ) (bytes : List ℕ) → nat_eq b 10 ≡ false
    → lines_len (b ∷ bytes) ≡ shift 1 (lines_len bytes)
lines_len-other b bytes feed = rw feed refl

-- so is a line feed that a line follows which isn't empty
pub lines_len-line : (c : ℕ) (bytes : List ℕ) → nat_eq c 10 ≡ false → nat_eq c 13 ≡ false
    → lines_len (10 ∷ c ∷ bytes) ≡ shift 2 (lines_len bytes)
lines_len-line c bytes feed return = rw (feed, return) (shift-shift 1 1 (lines_len bytes))

pub lines_len-return : (c : ℕ) (bytes : List ℕ) → nat_eq c 10 ≡ false
    → lines_len (10 ∷ 13 ∷ c ∷ bytes) ≡ shift 3 (lines_len bytes)
lines_len-return c bytes feed =
    rw feed (ap (shift 1) (shift-shift 1 1 (lines_len bytes)) ∙ shift-shift 1 2 (lines_len bytes))

-- the search has seen one piece more
pub HasSeen-append : (front piece : List ℕ) (at next : Search) → HasSeen front at
    → next.seen ≡ at.seen + length piece
    → ((more : List ℕ) → end_from at.begun (piece ++ more)
    ≡ shift (length piece) (end_from next.begun more))
    → ((more : List ℕ) → (if at.begun then at.blank else at.seen + blank_len (piece ++ more))
    ≡ (if next.begun then next.blank else next.seen + blank_len more))
    → HasSeen (front ++ piece) next
HasSeen-append front piece at next was far end blank = record {
  seen = rw length-append (omega (arith, was.seen, far));
  end = λ more. ap head_length (append_assoc front piece more) ∙ was.end (piece ++ more)
      ∙ ap (shift at.seen) (end more) ∙ shift-shift at.seen (length piece) (end_from next.begun more)
      ∙ ap (λ n. shift n (end_from next.begun more)) (sym far);
  blank = λ more. ap blank_len (append_assoc front piece more) ∙ was.blank (piece ++ more) ∙ blank more;
}

-- where the head ends is told by the bytes that weren't seen
pub head_length-searched : (bytes : List ℕ) (at : Search) → IsSearched bytes at
    → head_length bytes ≡ shift at.seen (end_from at.begun (drop at.seen bytes))
head_length-searched bytes at searched =
    ap head_length (sym (take-append-drop at.seen bytes)) ∙ searched.2.end (drop at.seen bytes)

-- a search that has seen nothing
pub HasSeen-nothing : (at : Search) → at.seen ≡ 0 → at.begun ≡ false → HasSeen [] at
HasSeen-nothing at seen begun = record {
  seen = sym seen;
  end = λ more. rw (seen, begun) (shift-zero (head_length more));
  blank = λ more. rw (seen, begun) (omega arith);
}

-- what was seen stays so, whatever comes behind
pub IsSearched-append : (bytes more : List ℕ) (at : Search) → IsSearched bytes at → IsSearched (bytes ++ more) at
IsSearched-append bytes more at searched = (
  rw length-append (omega (arith, searched.0)),
  searched.1,
  rw (take-append-le at.seen bytes more searched.0) searched.2,
)

-- the next byte, and the next two and three, are seen too
take_one : (bytes : List ℕ) (seen b : ℕ) → seen < length bytes → get_or bytes seen 0 ≡ b
    → take (seen + 1) bytes ≡ take seen bytes ++ b ∷ []
take_one bytes seen b more is = take_more bytes seen 0 more ∙ ap (λ b. take seen bytes ++ b ∷ []) is

take_two : (bytes : List ℕ) (seen b c : ℕ) → seen + 1 < length bytes → get_or bytes seen 0 ≡ b
    → get_or bytes (seen + 1) 0 ≡ c → take (seen + 2) bytes ≡ take seen bytes ++ b ∷ c ∷ []
take_two bytes seen b c more is then_is =
    let two : seen + 2 ≡ seen + 1 + 1 = omega arith in
    ap (λ n. take n bytes) two ∙ take_one bytes (seen + 1) c more then_is
    ∙ ap (λ front. front ++ c ∷ []) (take_one bytes seen b (omega arith) is)
    ∙ append_assoc (take seen bytes) (b ∷ []) (c ∷ [])

take_three : (bytes : List ℕ) (seen b c d : ℕ) → seen + 2 < length bytes → get_or bytes seen 0 ≡ b
    → get_or bytes (seen + 1) 0 ≡ c → get_or bytes (seen + 2) 0 ≡ d
    → take (seen + 3) bytes ≡ take seen bytes ++ b ∷ c ∷ d ∷ []
take_three bytes seen b c d more is then_is last_is =
    let three : seen + 3 ≡ seen + 2 + 1 = omega arith in
    ap (λ n. take n bytes) three ∙ take_one bytes (seen + 2) d more last_is
    ∙ ap (λ front. front ++ d ∷ []) (take_two bytes seen b c (omega arith) is then_is)
    ∙ append_assoc (take seen bytes) (b ∷ c ∷ []) (d ∷ [])

-- a search that goes on with more seen
abbrev pub GoesOn : List ℕ → Search → Search → Type 0
GoesOn bytes at next = IsSearched bytes next × (at.seen < next.seen)

-- before the head, a piece is passed
before_on : (bytes piece : List ℕ) (at next : Search) → IsSearched bytes at → at.begun ≡ false
    → 0 < length piece → next.seen ≡ at.seen + length piece → next.seen ≤ length bytes
    → next.blank ≤ next.seen → take next.seen bytes ≡ take at.seen bytes ++ piece
    → ((more : List ℕ) → head_length (piece ++ more) ≡ shift (length piece) (end_from next.begun more))
    → ((more : List ℕ) → at.seen + blank_len (piece ++ more)
    ≡ (if next.begun then next.blank else next.seen + blank_len more))
    → GoesOn bytes at next
before_on bytes piece at next searched begun some far fits low now end blank =
    let at_end : (more : List ℕ) → end_from at.begun (piece ++ more)
    ≡ shift (length piece) (end_from next.begun more) =
    λ more. ap (λ b. end_from b (piece ++ more)) begun ∙ end more in
    let at_blank : (more : List ℕ) → (if at.begun then at.blank else at.seen + blank_len (piece ++ more))
    ≡ (if next.begun then next.blank else next.seen + blank_len more) =
    λ more. ap (λ b. if b then at.blank else at.seen + blank_len (piece ++ more)) begun ∙ blank more in
    let P : List ℕ → Type 0 = λ front. HasSeen front next in (
      (
        fits,
        low,
        subst P (sym now)
            (HasSeen-append (take at.seen bytes) piece at next searched.2 far at_end at_blank),
      ),
      omega (arith, some, far),
    )

-- inside the head, a piece is passed
inside_on : (bytes piece : List ℕ) (at : Search) (seen : ℕ) → IsSearched bytes at → at.begun ≡ true
    → 0 < length piece → seen ≡ at.seen + length piece → seen ≤ length bytes
    → take seen bytes ≡ take at.seen bytes ++ piece
    → ((more : List ℕ) → lines_len (piece ++ more) ≡ shift (length piece) (lines_len more))
    → GoesOn bytes at (record at { seen = seen })
inside_on bytes piece at seen searched begun some far fits now end =
    let next : Search = record at { seen = seen } in
    let at_end : (more : List ℕ) → end_from at.begun (piece ++ more)
    ≡ shift (length piece) (end_from at.begun more) =
    λ more. ap (λ b. end_from b (piece ++ more)) begun ∙ end more
    ∙ ap (λ b. shift (length piece) (end_from b more)) (sym begun) in
    let at_blank : (more : List ℕ) → (if at.begun then at.blank else at.seen + blank_len (piece ++ more))
    ≡ (if at.begun then at.blank else seen + blank_len more) =
    λ more. ap (λ b. if b then at.blank else at.seen + blank_len (piece ++ more)) begun
    ∙ ap (λ b. if b then at.blank else seen + blank_len more) (sym begun) in
    let P : List ℕ → Type 0 = λ front. HasSeen front next in (
      (
        fits,
        omega (arith, searched.1, some, far),
        subst P (sym now)
            (HasSeen-append (take at.seen bytes) piece at next searched.2 far at_end at_blank),
      ),
      omega (arith, some, far),
    )

-- a byte isn't another
not_eq : (a b : ℕ) → (a ≡ b → ⊥) → nat_eq a b ≡ false
not_eq a b other = grind (arith, nat_tests)

module _ (bytes : List ℕ) (at : Search) (searched : IsSearched bytes at) where
  -- an empty line of one byte is passed
  pub passes_feed : at.begun ≡ false → at.seen < length bytes → get_or bytes at.seen 0 ≡ 10
      → GoesOn bytes at (record at { seen = at.seen + 1 })
  passes_feed begun more is =
      before_on bytes (10 ∷ []) at (record at { seen = at.seen + 1 }) searched begun
      (omega arith) refl (omega arith) (omega (arith, searched.1)) (take_one bytes at.seen 10 more is)
      (λ later. head_length-feed later ∙ ap (λ b. shift 1 (end_from b later)) (sym begun))
      (λ later. ap (λ n. at.seen + n) (blank_len-feed later)
      ∙ (omega arith)
      ∙ ap (λ b. if b then at.blank else at.seen + 1 + blank_len later) (sym begun))

  -- an empty line of two bytes is passed
  pub passes_return : at.begun ≡ false → at.seen + 1 < length bytes → get_or bytes at.seen 0 ≡ 13
      → get_or bytes (at.seen + 1) 0 ≡ 10 → GoesOn bytes at (record at { seen = at.seen + 2 })
  passes_return begun more is then_is =
      before_on bytes (13 ∷ 10 ∷ []) at (record at { seen = at.seen + 2 }) searched begun
      (omega arith) refl (omega arith) (omega (arith, searched.1))
      (take_two bytes at.seen 13 10 more is then_is)
      (λ later. ap (λ b. shift 2 (end_from b later)) (sym begun))
      (λ later. (omega arith)
      ∙ ap (λ b. if b then at.blank else at.seen + 2 + blank_len later) (sym begun))

  -- any other byte begins the head
  pub begins : at.begun ≡ false → at.seen < length bytes → (get_or bytes at.seen 0 ≡ 10 → ⊥)
      → (get_or bytes at.seen 0 ≡ 13 → ⊥)
      → GoesOn bytes at (record { blank = at.seen; seen = at.seen + 1; begun = true })
  begins begun more feed return =
      let b = get_or bytes at.seen 0 in
      before_on bytes (b ∷ []) at (record { blank = at.seen; seen = at.seen + 1; begun = true })
      searched begun (omega arith) refl (omega arith) (omega arith) (take_one bytes at.seen b more refl)
      (λ later. head_length-other b later (not_eq b 10 feed) (not_eq b 13 return))
      (λ later. ap (λ n. at.seen + n) (blank_len-other b later (not_eq b 10 feed) (not_eq b 13 return))
      ∙ (omega arith))

  -- so does a carriage return without its line feed
  pub begins_return : at.begun ≡ false → at.seen + 1 < length bytes → get_or bytes at.seen 0 ≡ 13
      → (get_or bytes (at.seen + 1) 0 ≡ 10 → ⊥)
      → GoesOn bytes at (record { blank = at.seen; seen = at.seen + 2; begun = true })
  begins_return begun more is feed =
      let c = get_or bytes (at.seen + 1) 0 in
      before_on bytes (13 ∷ c ∷ []) at (record { blank = at.seen; seen = at.seen + 2; begun = true })
      searched begun (omega arith) refl (omega arith) (omega arith)
      (take_two bytes at.seen 13 c more is refl)
      (λ later. head_length-return c later (not_eq c 10 feed))
      (λ later. ap (λ n. at.seen + n) (blank_len-return c later (not_eq c 10 feed)) ∙ (omega arith))

  -- inside the head, a byte that is no line feed is passed
  pub passes_byte : at.begun ≡ true → at.seen < length bytes → (get_or bytes at.seen 0 ≡ 10 → ⊥)
      → GoesOn bytes at (record at { seen = at.seen + 1 })
  passes_byte begun more feed =
      let b = get_or bytes at.seen 0 in
      inside_on bytes (b ∷ []) at (at.seen + 1) searched begun (omega arith) refl (omega arith)
      (take_one bytes at.seen b more refl) (λ later. lines_len-other b later (not_eq b 10 feed))

  -- so is a line feed with the first byte of the next line
  pub passes_line : at.begun ≡ true → at.seen + 1 < length bytes → get_or bytes at.seen 0 ≡ 10
      → (get_or bytes (at.seen + 1) 0 ≡ 10 → ⊥) → (get_or bytes (at.seen + 1) 0 ≡ 13 → ⊥)
      → GoesOn bytes at (record at { seen = at.seen + 2 })
  passes_line begun more is feed return =
      let c = get_or bytes (at.seen + 1) 0 in
      inside_on bytes (10 ∷ c ∷ []) at (at.seen + 2) searched begun (omega arith) refl (omega arith)
      (take_two bytes at.seen 10 c more is refl)
      (λ later. lines_len-line c later (not_eq c 10 feed) (not_eq c 13 return))

  -- and with a carriage return and what follows it
  pub passes_returned : at.begun ≡ true → at.seen + 2 < length bytes → get_or bytes at.seen 0 ≡ 10
      → get_or bytes (at.seen + 1) 0 ≡ 13 → (get_or bytes (at.seen + 2) 0 ≡ 10 → ⊥)
      → GoesOn bytes at (record at { seen = at.seen + 3 })
  passes_returned begun more is then_is feed =
      let d = get_or bytes (at.seen + 2) 0 in
      inside_on bytes (10 ∷ 13 ∷ d ∷ []) at (at.seen + 3) searched begun (omega arith) refl (omega arith)
      (take_three bytes at.seen 10 13 d more is then_is refl)
      (λ later. lines_len-return d later (not_eq d 10 feed))

  -- where the head ends, by the bytes that weren't seen
  end_by : (rest : List ℕ) (begun : Bool) → at.begun ≡ begun → drop at.seen bytes ≡ rest
      → head_length bytes ≡ shift at.seen (end_from begun rest)
  end_by rest begun is left =
      head_length-searched bytes at searched
      ∙ ap (λ b. shift at.seen (end_from b (drop at.seen bytes))) is
      ∙ ap (λ rest. shift at.seen (end_from begun rest)) left

  -- the bytes that weren't seen, where the last of them is known
  drop_one : (b : ℕ) → at.seen < length bytes → get_or bytes at.seen 0 ≡ b
      → drop at.seen bytes ≡ b ∷ drop (at.seen + 1) bytes
  drop_one b more is = drop_more bytes at.seen 0 more ∙ ap (λ b. b ∷ drop (at.seen + 1) bytes) is

  drop_two : (b c : ℕ) → at.seen + 1 < length bytes → get_or bytes at.seen 0 ≡ b
      → get_or bytes (at.seen + 1) 0 ≡ c → drop at.seen bytes ≡ b ∷ c ∷ drop (at.seen + 1 + 1) bytes
  drop_two b c more is then_is =
      drop_one b (omega arith) is
      ∙ ap (λ rest. b ∷ rest) (drop_more bytes (at.seen + 1) 0 more
      ∙ ap (λ c. c ∷ drop (at.seen + 1 + 1) bytes) then_is)

  drop_three : (b c d : ℕ) → at.seen + 2 < length bytes → get_or bytes at.seen 0 ≡ b
      → get_or bytes (at.seen + 1) 0 ≡ c → get_or bytes (at.seen + 2) 0 ≡ d
      → drop at.seen bytes ≡ b ∷ c ∷ d ∷ drop (at.seen + 2 + 1) bytes
  drop_three b c d more is then_is last_is =
      let two : at.seen + 1 + 1 ≡ at.seen + 2 = omega arith in
      drop_two b c (omega arith) is then_is
      ∙ ap (λ rest. b ∷ c ∷ rest) (ap (λ n. drop n bytes) two ∙ drop_more bytes (at.seen + 2) 0 more
      ∙ ap (λ d. d ∷ drop (at.seen + 2 + 1) bytes) last_is)

  -- the empty lines before the head were seen
  blank_seen : at.begun ≡ true → blank_len bytes ≡ at.blank
  blank_seen begun =
      ap blank_len (sym (take-append-drop at.seen bytes))
      ∙ searched.2.blank (drop at.seen bytes)
      ∙ ap (λ b. if b then at.blank else at.seen + blank_len (drop at.seen bytes)) begun

  -- the head ends with an empty line of one byte, or of two
  pub ends_feed : at.begun ≡ true → at.seen + 1 < length bytes → get_or bytes at.seen 0 ≡ 10
      → get_or bytes (at.seen + 1) 0 ≡ 10
      → (head_length bytes ≡ Some (at.seen + 2)) × EndIs bytes at (at.seen + 2)
  ends_feed begun more is then_is = (
    end_by _ true begun (drop_two 10 10 more is then_is),
    (omega arith, omega arith, omega (arith, searched.1), blank_seen begun),
  )

  pub ends_return : at.begun ≡ true → at.seen + 2 < length bytes → get_or bytes at.seen 0 ≡ 10
      → get_or bytes (at.seen + 1) 0 ≡ 13 → get_or bytes (at.seen + 2) 0 ≡ 10
      → (head_length bytes ≡ Some (at.seen + 3)) × EndIs bytes at (at.seen + 3)
  ends_return begun more is then_is last_is = (
    end_by _ true begun (drop_three 10 13 10 more is then_is last_is),
    (omega arith, omega arith, omega (arith, searched.1), blank_seen begun),
  )

  -- it doesn't end yet where a carriage return or a line feed stands last
  pub waits_return : at.begun ≡ false → length bytes ≡ at.seen + 1 → get_or bytes at.seen 0 ≡ 13
      → head_length bytes ≡ None
  waits_return begun all is =
      end_by (13 ∷ []) false begun
      (drop_one 13 (omega arith) is ∙ ap (λ rest. 13 ∷ rest) (drop_all (at.seen + 1) bytes (omega arith)))

  pub waits_feed : at.begun ≡ true → length bytes ≡ at.seen + 1 → get_or bytes at.seen 0 ≡ 10
      → head_length bytes ≡ None
  waits_feed begun all is =
      end_by (10 ∷ []) true begun
      (drop_one 10 (omega arith) is ∙ ap (λ rest. 10 ∷ rest) (drop_all (at.seen + 1) bytes (omega arith)))

  pub waits_both : at.begun ≡ true → length bytes ≡ at.seen + 2 → get_or bytes at.seen 0 ≡ 10
      → get_or bytes (at.seen + 1) 0 ≡ 13 → head_length bytes ≡ None
  waits_both begun all is then_is =
      end_by (10 ∷ 13 ∷ []) true begun
      (drop_two 10 13 (omega arith) is then_is
      ∙ ap (λ rest. 10 ∷ 13 ∷ rest) (drop_all (at.seen + 1 + 1) bytes (omega arith)))

  -- nor where all bytes were seen
  pub waits_all : length bytes ≤ at.seen → head_length bytes ≡ None
  waits_all all =
      head_length-searched bytes at searched
      ∙ ap (λ rest. shift at.seen (end_from at.begun rest)) (drop_all at.seen bytes all)
      ∙ nothing at.begun
    where
      nothing : (begun : Bool) → shift at.seen (end_from begun []) ≡ None
      nothing true = refl
      nothing false = refl

-- the empty lines are the first of them and those behind it
pub blank_len-step : (bytes : List ℕ) (count : ℕ) → count ≡ empty_len bytes → (count ≡ 0 → ⊥)
    → blank_len bytes ≡ count + blank_len (drop count bytes)
blank_len-step [] count is some = absurd (some is)
blank_len-step (b ∷ []) count is some = by_feed (nat_eq b 10) (nat_eq b 13) is
  where
    by_feed : (s t : Bool) → count ≡ (if s then 1 else (if t then 0 else 0))
        → (if s then 1 else 0) ≡ count + blank_len (drop count (b ∷ []))
    by_feed true t e = rw e refl
    by_feed false true e = absurd (some e)
    by_feed false false e = absurd (some e)
blank_len-step (b ∷ c ∷ bytes) count is some = by_feed (nat_eq b 10) (nat_eq b 13) (nat_eq c 10) is
  where
    by_feed : (s t u : Bool) → count ≡ (if s then 1 else (if t then (if u then 2 else 0) else 0))
        → (if s then 1 + blank_len (c ∷ bytes) else (if t && u then 2 + blank_len bytes else 0))
        ≡ count + blank_len (drop count (b ∷ c ∷ bytes))
    by_feed true t u e = rw e refl
    by_feed false true true e = rw e refl
    by_feed false true false e = absurd (some e)
    by_feed false false u e = absurd (some e)

-- there are none where no empty line stands at the front
pub blank_len-none : (bytes : List ℕ) (count : ℕ) → count ≡ empty_len bytes → count ≡ 0
    → count ≡ blank_len bytes
blank_len-none [] count is none = none
blank_len-none (b ∷ []) count is none = by_feed (nat_eq b 10) (nat_eq b 13) is
  where
    by_feed : (s t : Bool) → count ≡ (if s then 1 else (if t then 0 else 0)) → count ≡ (if s then 1 else 0)
    by_feed true t e = e
    by_feed false t e = none
blank_len-none (b ∷ c ∷ bytes) count is none = by_feed (nat_eq b 10) (nat_eq b 13) (nat_eq c 10) is
  where
    by_feed : (s t u : Bool) → count ≡ (if s then 1 else (if t then (if u then 2 else 0) else 0))
        → count ≡ (if s then 1 + blank_len (c ∷ bytes) else (if t && u then 2 + blank_len bytes else 0))
    by_feed true t u e = absurd (omega arith)
    by_feed false true true e = absurd (omega arith)
    by_feed false true false e = none
    by_feed false false u e = none

-- one empty line more is passed
pub blank_len-passed : (bytes : List ℕ) (passed count : ℕ) → blank_len bytes ≡ passed + blank_len (drop passed bytes)
    → count ≡ empty_len (drop passed bytes) → (count ≡ 0 → ⊥)
    → blank_len bytes ≡ passed + count + blank_len (drop (passed + count) bytes)
blank_len-passed bytes passed count all is some =
    let step = blank_len-step (drop passed bytes) count is some in
    let later : drop count (drop passed bytes) ≡ drop (passed + count) bytes = drop-drop count passed bytes in
    omega (arith, all, step, ap blank_len later)

-- a search of the front has seen the empty lines of all bytes
pub blank_len-searched : (bytes front rest : List ℕ) (at : Search) → bytes ≡ front ++ rest
    → IsSearched front at
    → blank_len bytes ≡ (if at.begun then at.blank else at.seen + blank_len (drop at.seen bytes))
blank_len-searched bytes front rest at cut searched =
    let seen = take at.seen front in
    let now : take at.seen bytes ≡ seen =
    ap (take at.seen) cut ∙ take-append-le at.seen front rest searched.0 in
    ap blank_len (sym (take-append-drop at.seen bytes) ∙ ap (λ f. f ++ drop at.seen bytes) now)
    ∙ searched.2.blank (drop at.seen bytes)

-- a search that has seen nothing
abbrev pub fresh : Search
fresh = record { blank = 0; seen = 0; begun = false }

pub IsSearched-fresh : (bytes : List ℕ) → IsSearched bytes fresh
IsSearched-fresh bytes = (omega arith, omega arith, HasSeen-nothing fresh refl refl)

-- The run over the characters of a text, one turn at a time.
use Rattle.std.proofs.Common.{◌≡◌, ℕ, ◌+◌, ◌<◌, ◌≤◌, List, [], ◌∷◌, ◌++◌, length, get_or, take}
use Rattle.std.proofs.Common.{drop}
use Rattle.std.proofs.Common.{Bool, true, false, Some, None, arith, ◌∙◌, ap, sym, subst}
use Rattle.std.proofs.Common.{append_assoc, append-nil, length-append, take-append-drop}
use Rattle.std.proofs.Common.{encode_utf8, encode_utf8_all}
use Rattle.std.proofs.lemmas.List.{take_more, take_all, at_drop_more}
use Rattle.std.proofs.lemmas.Str.{encodes-append, length-encode}
use Rattle.std.proofs.Math.Seq.{take-append_seam}
use Rattle.std.specs.Char.{len_utf8}
use Rattle.tuple_values.specs.Document.{ByteList}
use Rattle.query_syntax.specs.Machine.{Machine, start}
use Rattle.query_syntax.specs.Steps.{step, Moves}
use Rattle.query_syntax.specs.Reading.{run, Sticks}
use Rattle.query_syntax.proofs.RunLemmas.{run-append, run-nothing}
use Rattle.query_syntax.proofs.WideLemmas.{bytes_of}

-- the character at this place of a row is this one
abbrev pub IsAt : List ℕ → ℕ → ℕ → Type 0
IsAt cs n c = (n < length cs) × (c ≡ get_or cs n c)

-- the bytes of the first characters
abbrev pub bytes_before : List ℕ → ℕ → ByteList
bytes_before cs n = encode_utf8_all (take n cs)

-- those of one more
pub bytes_before_more : (cs : List ℕ) (n c : ℕ) → IsAt cs n c
    → bytes_before cs (n + 1) ≡ bytes_before cs n ++ encode_utf8 c
bytes_before_more cs n c turn =
    ap encode_utf8_all (take_more cs n c turn.0 ∙ ap (λ x. take n cs ++ x ∷ []) (sym turn.1))
    ∙ encodes-append (take n cs) (c ∷ [])
    ∙ ap (λ t. bytes_before cs n ++ t) (append-nil (encode_utf8 c))

-- the bytes of all characters are those before one, its own, and more
pub whole_by_turn : (bytes : ByteList) (cs : List ℕ) (n c : ℕ) → encode_utf8_all cs ≡ bytes
    → IsAt cs n c
    → bytes ≡ bytes_before cs n ++ (encode_utf8 c ++ encode_utf8_all (drop (n + 1) cs))
whole_by_turn bytes cs n c whole turn =
    sym whole ∙ ap encode_utf8_all (sym (take-append-drop n cs))
    ∙ encodes-append (take n cs) (drop n cs)
    ∙ ap (λ t. bytes_before cs n ++ t)
    (at_drop_more encode_utf8_all cs n c turn.0
    ∙ ap (λ x. encode_utf8 x ++ encode_utf8_all (drop (n + 1) cs)) (sym turn.1))

-- the place behind a character is within the text
pub counted_within : (bytes : ByteList) (cs : List ℕ) (n c at : ℕ) → encode_utf8_all cs ≡ bytes
    → IsAt cs n c → at ≡ length (bytes_before cs n) → at + len_utf8 c ≤ length bytes
counted_within bytes cs n c at whole turn counted =
    let rest = encode_utf8_all (drop (n + 1) cs) in
    omega (
      arith,
      ap length (whole_by_turn bytes cs n c whole turn),
      length-append (bytes_before cs n) (encode_utf8 c ++ rest),
      length-append (encode_utf8 c) rest,
      length-encode c,
    )

-- the count goes on with it
pub counted_more : (cs : List ℕ) (n c at : ℕ) → IsAt cs n c → at ≡ length (bytes_before cs n)
    → at + len_utf8 c ≡ length (bytes_before cs (n + 1))
counted_more cs n c at turn counted = omega (
  arith,
  ap length (bytes_before_more cs n c turn),
  length-append (bytes_before cs n) (encode_utf8 c),
  length-encode c,
)

-- a character that is taken
pub read_more : (cs : List ℕ) (n c : ℕ) (m m' : Machine) (live : Bool) → IsAt cs n c
    → run (Some start) (bytes_before cs n) ≡ Some m
    → Moves (step m c (encode_utf8 c)) live m' → live ≡ true
    → run (Some start) (bytes_before cs (n + 1)) ≡ Some m'
read_more cs n c m m' live turn read moves is =
    let taken : step m c (encode_utf8 c) ≡ Some m' =
    subst (λ b. Moves (step m c (encode_utf8 c)) b m') is moves in
    ap (run (Some start)) (bytes_before_more cs n c turn)
    ∙ run-append (Some start) (bytes_before cs n) (encode_utf8 c)
    ∙ ap (λ o. run o (encode_utf8 c)) read ∙ (bytes_of m c).run_is ∙ taken

-- where a byte is refused behind bytes that are read, the run sticks
sticks_behind : (bytes front more : ByteList) (b at : ℕ) (m : Machine)
    → run (Some start) front ≡ Some m → step m b (b ∷ []) ≡ None → bytes ≡ front ++ b ∷ more
    → at ≡ length front → Sticks bytes at
sticks_behind bytes front more b at m read refused whole counted =
    let longer : (front ++ b ∷ []) ++ more ≡ front ++ b ∷ more = append_assoc front (b ∷ []) more in
    let long : length (front ++ b ∷ []) ≡ at + 1 =
    omega (arith, length-append front (b ∷ []), counted) in
    let less : take at bytes ≡ front =
    ap (λ n. take n bytes) counted ∙ ap (take (length front)) whole
    ∙ take-append_seam front (b ∷ more) in
    let one_more : take (at + 1) bytes ≡ front ++ b ∷ [] =
    ap (λ n. take n bytes) (sym long) ∙ ap (take (length (front ++ b ∷ []))) (whole ∙ sym longer)
    ∙ take-append_seam (front ++ b ∷ []) more in
    record {
      within = omega (arith, ap length whole, length-append front (b ∷ more), counted);
      machine = m;
      before = ap (run (Some start)) less ∙ read;
      stuck =
          ap (run (Some start)) one_more ∙ run-append (Some start) front (b ∷ [])
          ∙ ap (λ o. run o (b ∷ [])) read ∙ run-nothing (step m b (b ∷ [])) ∙ refused;
    }

-- a character that is refused
pub sticks_here : (bytes : ByteList) (cs : List ℕ) (n c at : ℕ) (m m' : Machine) (live : Bool)
    → encode_utf8_all cs ≡ bytes → IsAt cs n c → at ≡ length (bytes_before cs n)
    → run (Some start) (bytes_before cs n) ≡ Some m
    → Moves (step m c (encode_utf8 c)) live m' → live ≡ false → Sticks bytes at
sticks_here bytes cs n c at m m' live whole turn counted read moves is =
    let b = bytes_of m c in
    let rest = encode_utf8_all (drop (n + 1) cs) in
    let none : step m c (encode_utf8 c) ≡ None =
    subst (λ x. Moves (step m c (encode_utf8 c)) x m') is moves in
    sticks_behind bytes (bytes_before cs n) (b.others ++ rest) b.first at m read (b.refused none)
    (whole_by_turn bytes cs n c whole turn
    ∙ ap (λ t. bytes_before cs n ++ (t ++ rest)) b.are)
    counted

-- all characters are read
pub read_all : (bytes : ByteList) (cs : List ℕ) (n : ℕ) (m : Machine) → encode_utf8_all cs ≡ bytes
    → length cs ≤ n → run (Some start) (bytes_before cs n) ≡ Some m
    → run (Some start) bytes ≡ Some m
read_all bytes cs n m whole all read =
    ap (run (Some start)) (sym whole ∙ ap encode_utf8_all (sym (take_all n cs all))) ∙ read

-- Where the head of a message ends (RFC 9112, sections 2.1 and 2.2).
use Rattle.std.specs.Prelude.{ℕ, zero, suc, ◌+◌, ◌&&◌, List, [], ◌∷◌, Option, None, Some, option_map, ◌==◌, if◌then◌else◌, count_by}
use Rattle.httparse.specs.Ascii.{line_feed, carriage_return}

-- a place that is counted from so many bytes further on
abbrev pub shift : ℕ → Option ℕ → Option ℕ
shift count place = option_map (λ n. count + n) place

-- the number of bytes of the empty line at the front, whose carriage return was read: 2, or none
abbrev pub after_return : List ℕ → ℕ
after_return [] = 0
after_return (b ∷ bytes) = if b == line_feed then 2 else 0

-- the number of bytes of the empty line at the front, which is CR LF or LF; 0 where there is none
abbrev pub empty_len : List ℕ → ℕ
empty_len [] = 0
empty_len (b ∷ bytes) =
    if b == line_feed then 1 else (if b == carriage_return then after_return bytes else 0)

-- the number of bytes of all empty lines at the front
abbrev pub blank_len : List ℕ → ℕ
blank_len [] = 0
blank_len (b ∷ []) = if b == line_feed then 1 else 0
blank_len (b ∷ c ∷ bytes) =
    if b == line_feed then 1 + blank_len (c ∷ bytes)
    else (if b == carriage_return && c == line_feed then 2 + blank_len bytes else 0)

-- behind a line feed: the end of the empty line there, or else what is found further on
abbrev pub behind_line : ℕ → Option ℕ → Option ℕ
behind_line zero later = shift 1 later
behind_line (suc empty) later = Some (2 + empty)

-- the number of bytes up to the first line feed that an empty line follows, with that line
abbrev pub lines_len : List ℕ → Option ℕ
lines_len [] = None
lines_len (b ∷ bytes) =
    if b == line_feed then behind_line (empty_len bytes) (lines_len bytes)
    else shift 1 (lines_len bytes)

-- the number of bytes of the head at the front, with the empty lines before it and the one that
-- ends it; none where the bytes hold no whole head
abbrev pub head_length : List ℕ → Option ℕ
head_length [] = None
head_length (b ∷ []) = None
head_length (b ∷ c ∷ bytes) =
    if b == line_feed then shift 1 (head_length (c ∷ bytes))
    else (if b == carriage_return && c == line_feed then shift 2 (head_length bytes)
    else lines_len (b ∷ c ∷ bytes))

-- the number of lines
abbrev pub line_count : List ℕ → ℕ
line_count bytes = count_by (λ b. b == line_feed) bytes

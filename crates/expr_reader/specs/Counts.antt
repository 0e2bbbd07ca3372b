-- The calls that characters begin, counted by quotes and parentheses alone (own).
use Rattle.std.specs.Prelude.{◌⊎◌, ◌↔◌, ℕ, ◌+◌, ◌-◌, ◌<◌, max, List, [], ◌∷◌, Bool, true}
use Rattle.std.specs.Prelude.{false, ◌==◌, if◌then◌else◌, take}
use Rattle.std.specs.Str.{chars}
use Rattle.std.specs.Str.Lossy.{utf8_valid_len}
use Rattle.expr_reader.specs.Tree.{ByteList, level_limit, call_limit}
use Rattle.expr_reader.specs.Grammar.{GoesOn, IsOver}

-- whether a quoted text goes on, and a backslash stands last in it; how many calls are begun and
-- not closed, how many were so at some place, and how many were begun
pub record Counts : Type 0 where
  pub quoted : Bool
  pub escaped : Bool
  pub level : ℕ
  pub deepest : ℕ
  pub begun : ℕ

-- before the first character
abbrev pub no_counts : Counts
no_counts = record { quoted = false; escaped = false; level = 0; deepest = 0; begun = 0 }

-- one more character of a quoted text
abbrev pub count_quoted : Counts → ℕ → Counts
count_quoted n c =
    if c == 34 then record n { quoted = false }
    else (if c == 92 then record n { escaped = true } else n)

-- one more character outside
abbrev pub count_plain : Counts → ℕ → Counts
count_plain n c =
    if c == 34 then record n { quoted = true }
    else (if c == 40 then record n {
      level = n.level + 1;
      deepest = max n.deepest (n.level + 1);
      begun = n.begun + 1;
    }
    else (if c == 41 then record n { level = n.level - 1 } else n))

-- one more character
abbrev pub count : Counts → ℕ → Counts
count n c =
    if n.escaped then record n { escaped = false }
    else (if n.quoted then count_quoted n c else count_plain n c)

-- more characters
abbrev pub counts_from : Counts → List ℕ → Counts
counts_from n [] = n
counts_from n (c ∷ cs) = counts_from (count n c) cs

-- all characters
abbrev pub counts_of : List ℕ → Counts
counts_of = counts_from no_counts

-- the whole characters of bytes: those of the longest front that is text
abbrev pub whole_characters : ByteList → List ℕ
whole_characters bytes = chars (take (utf8_valid_len bytes) bytes)

-- more calls than may be are begun and not closed at some place, or begun at all
abbrev pub PassLimits : Counts → Type 0
PassLimits n = (level_limit < n.deepest) ⊎ (call_limit < n.begun)

-- A front with which some expression begins is over the limits exactly where the counts of its
-- whole characters pass them.
abbrev pub LimitsAreCounted : Type 0
LimitsAreCounted = (front : ByteList) → GoesOn front
    → IsOver front ↔ PassLimits (counts_of (whole_characters front))

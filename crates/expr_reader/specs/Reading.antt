-- The call that bytes say, or the fault that they have, as a function of the bytes (own).
use Rattle.std.specs.Prelude.{ℕ, ◌+◌, List, [], ◌∷◌, ◌&&◌, ◌==◌, nat_lt, length, take}
use Rattle.std.specs.Prelude.{drop, Option, Some, None, Result, Ok, Err, if◌then◌else◌}
use Rattle.std.specs.Char.{len_utf8}
use Rattle.std.specs.Str.{chars}
use Rattle.std.specs.Str.Lossy.{utf8_valid_len}
use Rattle.expr_reader.specs.Letters.{begun_bytes}
use Rattle.expr_reader.specs.Tree.{ByteList, CallTree}
use Rattle.expr_reader.specs.Grammar.{byte_limit}
use Rattle.expr_reader.specs.Machine.{Machine, start, is_over, is_close, takes_wide}
use Rattle.expr_reader.specs.Steps.{step}
use Rattle.expr_reader.specs.declared.fault.ExprFault.{ExprFault}
use Rattle.expr_reader.specs.declared.fault.ExprFault.TheVariants.{TooLarge, Syntax}

-- where a run over characters ends, or the place in bytes and the character that is refused there;
-- or it passes a limit
pub data Outcome : Type 0 where
  ended : Machine → Outcome
  stuck : ℕ → Machine → ℕ → Outcome
  over : Outcome

-- what follows a step: more, or the end of the run
abbrev pub follow : ℕ → Machine → ℕ → Option Machine → (Machine → Outcome) → Outcome
follow at m c None more = stuck at m c
follow at m c (Some n) more = if is_over n then over else more n

-- the run from a machine over characters that begin at a place
abbrev pub run : ℕ → Machine → List ℕ → Outcome
run at m [] = ended m
run at m (c ∷ cs) = follow at m c (step m c) (λ n. run (at + len_utf8 c) n cs)

-- how many bytes of a begun character may still be taken
abbrev pub begun_len : Machine → ByteList → ℕ
begun_len m tail = if takes_wide m.place then begun_bytes tail else 0

-- the call that was read, or its place
abbrev pub read_call : Option CallTree → ℕ → Result CallTree ExprFault
read_call None at = Err (Syntax at)
read_call (Some c) at = Ok c

-- what is read where all characters were taken, and the bytes behind them are this tail
abbrev pub read_end : Machine → ℕ → ByteList → Result CallTree ExprFault
read_end m at tail =
    if (length tail == 0) && is_close m.place then read_call m.inner at
    else Err (Syntax (at + begun_len m tail))

-- what is read by the end of a run
abbrev pub read_outcome : Outcome → ℕ → ByteList → Result CallTree ExprFault
read_outcome (stuck k m c) at tail = Err (Syntax k)
read_outcome over at tail = Err TooLarge
read_outcome (ended m) at tail = read_end m at tail

-- the call of bytes whose front of this length is the longest that is text
abbrev pub read_front : ℕ → ByteList → Result CallTree ExprFault
read_front at bytes = read_outcome (run 0 start (chars (take at bytes))) at (drop at bytes)

-- the call that the bytes say, or their fault
abbrev pub read_of : ByteList → Result CallTree ExprFault
read_of bytes =
    if nat_lt byte_limit (length bytes) then Err TooLarge
    else read_front (utf8_valid_len bytes) bytes

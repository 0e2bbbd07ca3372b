-- Limits of numbers in expressions (own).
use Rattle.std.specs.Prelude.{ℕ, nat_le, Bool, true, ◌&&◌, Option, Some, None}

-- the greatest number of tuples that `top` and `group` may be asked for
abbrev pub count_limit : ℕ
count_limit = 1000000

-- the greatest number of rows
abbrev pub row_limit : ℕ
row_limit = 9223372036854775807

-- the greatest version that a topic may be asked to begin after
abbrev pub checkpoint_limit : ℕ
checkpoint_limit = 9223372036854775807

-- the greatest number of bytes in the name of a topic or of a daemon
abbrev pub id_limit : ℕ
id_limit = 128

-- the greatest number of workers
abbrev pub worker_limit : ℕ
worker_limit = 16

-- the greatest number of tuples in a batch
abbrev pub batch_limit : ℕ
batch_limit = 10000

-- the longest interval between two runs of a daemon, in milliseconds
abbrev pub interval_limit : ℕ
interval_limit = 86400000

-- whether a number is within limits
abbrev pub is_between : ℕ → ℕ → ℕ → Bool
is_between low high n = nat_le low n && nat_le n high

-- whether a number that may be left out is within limits
abbrev pub may_be_between : ℕ → ℕ → Option ℕ → Bool
may_be_between low high None = true
may_be_between low high (Some n) = is_between low high n

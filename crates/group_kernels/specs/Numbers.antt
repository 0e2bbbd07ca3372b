-- Numbers one by one, as the code goes over them (own).
use Rattle.std.specs.Prelude.{ℤ, Bool, true, false, Option, Some, None, ◌+ℤ◌}
use Rattle.std.specs.Int.{w64, int_wrap, int_min, int_max}

-- the lesser of two, or the greater
abbrev pub of_two : Bool → ℤ → ℤ → ℤ
of_two true = int_max
of_two false = int_min

-- a sum and one more number, if there is one
abbrev pub added : ℤ → Option ℤ → ℤ
added sum None = sum
added sum (Some n) = int_wrap w64 (sum +ℤ n)

-- the foremost and one more number, if there is one
abbrev pub nearer : (ℤ → ℤ → ℤ) → Option ℤ → Option ℤ → Option ℤ
nearer of_two best None = best
nearer of_two None (Some n) = Some n
nearer of_two (Some m) (Some n) = Some (of_two m n)

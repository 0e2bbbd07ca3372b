-- What a clock says of how long something took (own).
use Rattle.std.specs.Prelude.{ℕ, ◌≡◌, ◌-◌}

-- so many milliseconds lie between a time and one that was told; 0 where that is earlier
pub record Took (tells : ℕ → Type 0) (start millis : ℕ) : Type 0 where
  pub end : ℕ
  pub told : tells end
  pub lasted : millis ≡ end - start

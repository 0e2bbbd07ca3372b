-- What of a site's writer stays over a call (own).
use Rattle.std.specs.Prelude.{◌≡◌}

-- the collections and the place stay, and no turn is held afterwards where none was held before
pub record Stays {S L H : Type 0} (layout_of : S → L) (home_of : S → H) (is_free : S → Type 0)
    (old new : S) : Type 0 where
  pub layout : layout_of new ≡ layout_of old
  pub home : home_of new ≡ home_of old
  pub free : is_free old → is_free new

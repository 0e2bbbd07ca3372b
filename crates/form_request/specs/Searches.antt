-- What a search for the end of a head has found so far (own).
use Rattle.std.specs.Prelude.{◌≡◌, ℕ, ◌+◌, ◌<◌, ◌≤◌, List, ◌++◌, length, take, Option, None, Some, Bool, true, false, if◌then◌else◌}
use Rattle.form_request.specs.Ends.{head_length, lines_len, blank_len, shift}
use Rattle.form_request.specs.declared.search.Search.{Search}
use Rattle.form_request.specs.declared.search.Turn.{Turn}
use Rattle.form_request.specs.declared.search.Turn.TheVariants.{On, Ends, Waits}

-- where the head ends in bytes that go on where the search stands
abbrev pub end_from : Bool → List ℕ → Option ℕ
end_from true bytes = lines_len bytes
end_from false bytes = head_length bytes

-- the bytes that were seen need not be looked at again, whatever follows them
pub record HasSeen (front : List ℕ) (at : Search) : Type 0 where
  pub seen : length front ≡ at.seen
  pub end : (more : List ℕ) → head_length (front ++ more) ≡ shift at.seen (end_from at.begun more)
  pub blank : (more : List ℕ)
      → blank_len (front ++ more) ≡ (if at.begun then at.blank else at.seen + blank_len more)

-- the search has seen the first of the bytes
abbrev pub IsSearched : List ℕ → Search → Type 0
IsSearched bytes at = (at.seen ≤ length bytes) × (at.blank ≤ at.seen) × HasSeen (take at.seen bytes) at

-- the head begins behind the empty lines, and ends at the place
abbrev pub EndIs : List ℕ → Search → ℕ → Type 0
EndIs bytes at place =
    (0 < place) × (place ≤ length bytes) × (at.blank ≤ place) × (blank_len bytes ≡ at.blank)

-- a turn goes on with more seen, or finds where the head ends, or that it doesn't end yet
abbrev pub TurnIs : List ℕ → Search → Turn → Type 0
TurnIs bytes at (On next) = IsSearched bytes next × (at.seen < next.seen)
TurnIs bytes at (Ends place) = (head_length bytes ≡ Some place) × EndIs bytes at place
TurnIs bytes at Waits = head_length bytes ≡ None

-- What a source gives, what a sink takes, and when either has failed (own).
use Rattle.std.specs.Prelude.{◌≡◌, ℕ, ◌<◌, ◌≤◌, ◌+◌, ◌^◌, ◌⊎◌, List, [], ◌++◌, length, take, drop, Option, Some, None}
use Rattle.io_edge.specs.declared.source.Taken.{Taken}
use Rattle.io_edge.specs.declared.source.Taken.TheVariants.{Got, Ended, Failed}
use Rattle.io_edge.specs.declared.sink.Put.{Put}
use Rattle.io_edge.specs.declared.sink.Put.TheVariants as put

-- a count of faults rose, or stands at the end of a 64-bit number and can't rise
abbrev pub Rose : ℕ → ℕ → Type 0
Rose old new = (old < new) ⊎ (2 ^ 64 ≤ new + 1)

-- the first n bytes of the room are the next of what was left, where the source tells what is left
abbrev pub GivesFront : Option (List ℕ) → Option (List ℕ) → List ℕ → ℕ → Type 0
GivesFront None new room n = new ≡ None
GivesFront (Some all) new room n =
    (n ≤ length all) × (take n room ≡ take n all) × (new ≡ Some (drop n all))

-- nothing is left, where the source tells what is left
abbrev pub HasEnded : Option (List ℕ) → Type 0
HasEnded None = Unit {0}
HasEnded (Some all) = all ≡ []

-- what an answer of a source says of what was left, of what is left, and of the room
abbrev pub TakeGives : Option (List ℕ) → Option (List ℕ) → List ℕ → Taken → Type 0
TakeGives old new room (Got n) = (0 < n) × (n ≤ length room) × GivesFront old new room n
TakeGives old new room Ended = HasEnded old × (new ≡ old)
TakeGives old new room Failed = new ≡ old

-- the count doesn't fall, and an answer of failure shows that it rose
abbrev pub TakeHasCause : ℕ → ℕ → Taken → Type 0
TakeHasCause old new taken = (old ≤ new) × (taken ≡ Failed → Rose old new)

-- the bytes follow what was written, where the sink tells what is written
abbrev pub Appends : Option (List ℕ) → Option (List ℕ) → List ℕ → Type 0
Appends None new bytes = new ≡ None
Appends (Some all) new bytes = new ≡ Some (all ++ bytes)

-- some first bytes of these follow what was written
abbrev pub AppendsPrefix : Option (List ℕ) → Option (List ℕ) → List ℕ → Type 0
AppendsPrefix old new bytes =
    (front : List ℕ) × (rest : List ℕ) × (bytes ≡ front ++ rest) × Appends old new front

-- what an answer of a sink says of what was written and of what is written
abbrev pub PutGives : Option (List ℕ) → Option (List ℕ) → List ℕ → Put → Type 0
PutGives old new piece put.All = Appends old new piece
PutGives old new piece put.Failed = AppendsPrefix old new piece

-- the count doesn't fall, and an answer of failure shows that it rose
abbrev pub PutHasCause : ℕ → ℕ → Put → Type 0
PutHasCause old new answer = (old ≤ new) × (answer ≡ put.Failed → Rose old new)

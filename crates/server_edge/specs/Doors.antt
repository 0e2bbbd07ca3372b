-- What a door gives and takes back, and when it has failed (own).
use Rattle.std.specs.Prelude.{ℕ, ◌≡◌, ◌≢◌, ◌≤◌, ◌<◌, ◌+◌, List, [], ◌∷◌, ◌++◌, length, Option, Some, None}
use Rattle.io_edge.specs.Edge.{Rose}
use Rattle.server_edge.specs.declared.door.Back.{Back}
use Rattle.server_edge.specs.declared.door.Listen.{Listen}
use Rattle.server_edge.specs.declared.door.Listen.TheVariants as listen
use Rattle.server_edge.specs.declared.door.Next.{Next}
use Rattle.server_edge.specs.declared.door.Next.TheVariants.{Got, Closed, Failed}

-- a door: how many connections it gave, those that it has left, and those that came back
pub record Row (I O N : Type 0) : Type 0 where
  pub given : ℕ
  pub left : List (I × O)
  pub came : List (Back I O N)

-- fewer came back than the door has connections and has had
abbrev pub HasRoom : {I O N : Type 0} → Row I O N → Type 0
HasRoom r = length r.came < r.given + length r.left

-- neither count falls; both rise with a failure, and neither with anything else
pub record ListenHasCause (old new deaf_old deaf_new : ℕ) (answer : Listen) : Type 0 where
  pub stays : old ≤ new
  pub deaf_stays : deaf_old ≤ deaf_new
  pub ready : answer ≡ listen.Ready → (new ≡ old) × (deaf_new ≡ deaf_old)
  pub rose : answer ≡ listen.Failed → Rose old new × Rose deaf_old deaf_new

-- what was given is the first of those that were left, where the door tells them
abbrev pub GaveFirst : {I O N : Type 0} → Option (Row I O N) → Option (Row I O N) → I → O → Type 0
GaveFirst None new input output = new ≡ None
GaveFirst {I} {O} {N} (Some r) new input output =
    (rest : List (I × O)) × (r.left ≡ (input, output) ∷ rest)
    × (new ≡ Some (record { given = r.given + 1; left = rest; came = r.came }))

-- none is left, where the door tells that
abbrev pub IsEmptied : {I O N : Type 0} → Option (Row I O N) → Type 0
IsEmptied None = Unit {0}
IsEmptied (Some r) = r.left ≡ []

-- what an answer says of what was left and of what is left
abbrev pub NextGives : {I O N : Type 0} → Option (Row I O N) → Option (Row I O N) → Next I O → Type 0
NextGives old new (Got input output) = GaveFirst old new input output
NextGives old new Closed = IsEmptied old × (new ≡ old)
NextGives old new Failed = new ≡ old

-- the count doesn't fall; it rises with a failure, and with nothing else
pub record NextHasCause {I O : Type 0} (old new : ℕ) (answer : Next I O) : Type 0 where
  pub stays : old ≤ new
  pub rose : answer ≡ Failed → Rose old new
  pub still : answer ≢ Failed → new ≡ old

-- the ends and the note follow those that came back before, where there is room
abbrev pub TakesBack : {I O N : Type 0} → Option (Row I O N) → Option (Row I O N) → I → O → N → Type 0
TakesBack None new input output note = new ≡ None
TakesBack {I} {O} {N} (Some r) new input output note =
    (came : List (Back I O N))
    × (new ≡ Some (record { given = r.given; left = r.left; came = came }))
    × (HasRoom r → came ≡ r.came ++ record { input = input; output = output; note = note } ∷ [])

-- What events do, and what their actors have seen (own).
use Rattle.std.specs.Prelude.{ℕ, ◌+◌, nat_lt, ◌==◌, not, ◌&&◌, Bool, List, [], ◌∷◌, ◌++◌, length}
use Rattle.std.specs.Prelude.{set}
use Rattle.std.specs.Prelude.{take, replicate, if◌then◌else◌, filter}
use Rattle.tuple_values.specs.declared.names.NameShards.{NameShards}
use Rattle.shard_versions.specs.Histories.{History}
use Rattle.shard_versions.specs.Deliveries.{admitted, marked}
use Rattle.shard_versions.specs.declared.entry.Entry.{Entry}
use Rattle.topic_book.specs.Books.{raises}
use Rattle.topic_book.specs.declared.topic.BookEntry.{BookEntry}
use Rattle.topic_book.specs.declared.topic.BookEntry.TheVariants as book
use Rattle.once_core.specs.Cells.{cells_in, history_at}
use Rattle.once_core.specs.Allowed.{IsAllowed}
use Rattle.once_core.specs.declared.event.Event.{Event}
use Rattle.once_core.specs.declared.event.Event.TheVariants.{Write, Look, Send, Bind, Store, Forget}
use Rattle.once_core.specs.declared.world.World.{World}
use Rattle.once_core.specs.declared.world.Known.{Known}
use Rattle.once_core.specs.declared.world.Histories.{Histories}

-- the entries follow the cell's history
unfoldable pub grown : Histories → ℕ → List Entry → Histories
grown hs cell entries = record hs { shards = set hs.shards cell (history_at hs cell ++ entries) }

-- the entry follows in the book
abbrev pub with_entry : Histories → BookEntry → Histories
with_entry hs e = record hs { book = hs.book ++ e ∷ [] }

-- the histories after the event
abbrev pub after_event : Histories → Event → Histories
after_event hs (Write actor cell step) = grown hs cell step
after_event hs (Look actor cell) = hs
after_event hs (Send actor cell src step) =
    grown hs cell (marked actor (admitted (history_at hs cell) step))
after_event hs (Bind actor key b) = with_entry hs (book.Bind actor key b)
after_event hs (Store actor key upto) =
    if raises key hs.book upto then with_entry hs (book.Store actor key upto) else hs
after_event hs (Forget actor) = hs

-- whether what is known is the actor's, and of this cell
abbrev pub is_of : ℕ → ℕ → Known → Bool
is_of actor cell k = (k.actor == actor) && (k.cell == cell)

-- how many entries of the cell the actor knows
abbrev pub known_upto : ℕ → ℕ → List Known → ℕ
known_upto actor cell [] = 0
known_upto actor cell (k ∷ known) =
    if is_of actor cell k then k.upto else known_upto actor cell known

-- what the actor knows of these histories, of which the first is this cell's
abbrev pub known_shards : ℕ → List Known → ℕ → List History → List History
known_shards actor known cell [] = []
known_shards actor known cell (h ∷ hs) =
    take (known_upto actor cell known) h ∷ known_shards actor known (cell + 1) hs

-- what the actor knows: a prefix of each cell's list
unfoldable pub seen_by : ℕ → World → Histories
seen_by actor w = record {
  shards = known_shards actor w.known 0 w.histories.shards;
  book = take (known_upto actor (length w.histories.shards) w.known) w.histories.book;
}

-- who acts
abbrev pub actor_of : Event → ℕ
actor_of (Write actor cell step) = actor
actor_of (Look actor cell) = actor
actor_of (Send actor cell src step) = actor
actor_of (Bind actor key b) = actor
actor_of (Store actor key upto) = actor
actor_of (Forget actor) = actor

-- how many entries the cell has
abbrev pub length_at : Histories → ℕ → ℕ
length_at hs cell =
    if nat_lt cell (length hs.shards) then length (history_at hs cell) else length hs.book

-- the actor knows the whole cell now
abbrev pub knows : Histories → ℕ → ℕ → List Known → List Known
knows hs actor cell known =
    record { actor = actor; cell = cell; upto = length_at hs cell }
    ∷ filter (λ k. not (is_of actor cell k)) known

-- what is known after the event, which left these histories
abbrev pub known_after : Histories → Event → List Known → List Known
known_after hs (Write actor cell step) known = knows hs actor cell known
known_after hs (Look actor cell) known = knows hs actor cell known
known_after hs (Send actor cell src step) known = knows hs actor cell known
known_after hs (Bind actor key b) known = knows hs actor (length hs.shards) known
known_after hs (Store actor key upto) known = knows hs actor (length hs.shards) known
known_after hs (Forget actor) known = filter (λ k. not (k.actor == actor)) known

-- the world after the event
abbrev pub next : World → Event → World
next w e = record {
  histories = after_event w.histories e;
  known = known_after (after_event w.histories e) e w.known;
}

-- the world after these events
abbrev pub run : List Event → World → World
run [] w = w
run (e ∷ events) w = run events (next w e)

-- the event is allowed in this world, to its actor
abbrev pub IsAllowedIn : List NameShards → World → Event → Type 0
IsAllowedIn names w e = IsAllowed names (seen_by (actor_of e) w) w.histories e

-- each event is allowed after those before it
abbrev pub AreAllowed : List NameShards → List Event → World → Type 0
AreAllowed names [] w = Unit {0}
AreAllowed names (e ∷ events) w = IsAllowedIn names w e × AreAllowed names events (next w e)

-- there is no entry anywhere, and nobody knows anything
abbrev pub nothing_yet : List NameShards → World
nothing_yet names = record {
  histories = record { shards = replicate (cells_in names) []; book = [] };
  known = [];
}

-- What the writers of a load have done at its end (own).
use Rattle.std.specs.Prelude.{ℕ, suc, ◌^◌, ◌<◌, ◌≡◌, ◌≢◌, List, [], ◌∷◌, All, Contains, length, map}
use Rattle.once_core.specs.Law.{IsLaw}
use Rattle.once_core.specs.declared.world.Histories.{Histories}
use Rattle.exchange_rules.specs.Cells.{author_of}
use Rattle.exchange_rules.specs.Following.{Writer}
use Rattle.stream_site.specs.Logs.{logs_in}
use Rattle.turn_table.specs.Histories.{GrewBy}
use Rattle.load_rules.specs.Loaded.{IsLoaded}
use Rattle.load_rules.specs.Topic.{load_names}
use Rattle.load_rules.specs.Worked.{HasDelivered, HasIndexed, HasRead, HasRun, own_at}
use Rattle.load_rules.specs.declared.role.Role.{Role}
use Rattle.load_rules.specs.declared.role.Role.TheVariants.{Indexer, Reader, Runner}

-- the writers of a load, in the order of their numbers, which are from 1 on
abbrev pub load_roles : List Role
load_roles =
    Indexer 0 ∷ Indexer 1 ∷ Indexer 2 ∷ Indexer 3 ∷ Reader ∷ Reader ∷ Runner ∷ Runner ∷ []

-- a writer that has appended nothing
abbrev pub IsNew : Writer → Type 0
IsNew w = (cell : ℕ) → own_at w cell ≡ []

-- what a writer has done in its thread
abbrev pub HasWorked : ℕ → Role → Writer → Writer → Type 0
HasWorked n (Indexer indexer) old new = HasIndexed n indexer old new
HasWorked n Reader old new = HasRead old new
HasWorked n Runner old new = HasRun old new

-- and behind that: an indexer has delivered the topic once more
abbrev pub HasEnded : Role → Writer → Writer → Type 0
HasEnded (Indexer indexer) old new = HasDelivered old new
HasEnded Reader old new = new ≡ old
HasEnded Runner old new = new ≡ old

-- a writer that was new has done what its role is
pub record IsFinished (n : ℕ) (role : Role) (w : Writer) : Type 0 where
  pub first : Writer
  pub is_new : IsNew first
  pub mid : Writer
  pub worked : HasWorked n role first mid
  pub ended : HasEnded role mid w

-- each of these writers has, and their numbers are from this one on
abbrev pub AreFinished : ℕ → ℕ → List Role → List Writer → Type 0
AreFinished n number [] [] = Unit {0}
AreFinished n number [] (w ∷ writers) = ⊥
AreFinished n number (role ∷ roles) [] = ⊥
AreFinished n number (role ∷ roles) (w ∷ writers) =
    (w.me ≡ number) × IsFinished n role w × AreFinished n (suc number) roles writers

-- histories that end all logs: the law holds of them, each entry is of one of these writers, and
-- what each writer has seen begins them, behind which no entry carries its number
pub record IsEndOf (writers : List Writer) (hs : Histories) : Type 0 where
  pub law : IsLaw load_names hs
  pub counted : length hs.shards ≡ 9
  pub signed : All (All (λ entry. Contains (map (λ w. w.me) writers) (author_of entry)))
      (logs_in hs.shards hs.book)
  pub seen : All (λ w. GrewBy (λ entry. author_of entry ≢ w.me) w.seen
      (logs_in hs.shards hs.book)) writers

-- where all writers of a load of fewer than 2^64 documents have finished, it was made
abbrev pub FinishedLoadsAreMade : Type 0
FinishedLoadsAreMade =
    (n : ℕ) (writers : List Writer) (hs : Histories) → n < 2 ^ 64
    → AreFinished n 1 load_roles writers → IsEndOf writers hs → IsLoaded n hs

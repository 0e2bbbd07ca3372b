-- Calls of workers, by the names of their collections and by their tasks.
use Rattle.std.proofs.Common.{◌≡◌, List, ◌∙◌, inl, inr}
use Rattle.tuple_values.specs.Document.{ByteList}
use Rattle.tuple_values.specs.declared.write.Write.{Write}
use Rattle.exchange_rules.specs.Following.{Writer}
use Rattle.exchange_rules.specs.Rows.{Layout}
use Rattle.site_threads.specs.Work.{Call, HasWorked, IsRun, IsUpdateBy, IsUpdateOf, commit, index, run}
use Rattle.site_threads.specs.declared.workers.Task.TheVariants.{Overtake}
use Rattle.site_threads.proofs.WorkLemmas.{work-wider}
use Rattle.thread_cases.specs.Serving.{IsCallOf, name_of}

-- an update by some writes is one of the collection with this name
update-of : (collection name : ByteList) (writes : List Write) → collection ≡ name
    → (call : Call) → IsUpdateBy collection writes call → IsUpdateOf name call
update-of collection name writes same (index c w) u = u.0 ∙ same
update-of collection name writes same (commit c) u = u ∙ same
update-of collection name writes same (run s) u = absurd u

-- so are several
pub updates-of : (l : Layout) (collection name : ByteList) (writes : List Write)
    (old new : Writer) → collection ≡ name → HasWorked l (IsUpdateBy collection writes) old new
    → HasWorked l (IsUpdateOf name) old new
updates-of l collection name writes old new same w =
    work-wider l (IsUpdateBy collection writes) (IsUpdateOf name) old new
    (update-of collection name writes same) w

-- updates of the first collection are calls of a task that overtakes
pub overtakes-put : (l : Layout) (old new : Writer) → HasWorked l (IsUpdateOf (name_of 0)) old new
    → HasWorked l (IsCallOf Overtake) old new
overtakes-put l old new w =
    work-wider l (IsUpdateOf (name_of 0)) (IsCallOf Overtake) old new (λ call u. inl u) w

-- and so are runs of topics
pub overtakes-run : (l : Layout) (old new : Writer) → HasWorked l IsRun old new
    → HasWorked l (IsCallOf Overtake) old new
overtakes-run l old new w = work-wider l IsRun (IsCallOf Overtake) old new (λ call u. inr u) w

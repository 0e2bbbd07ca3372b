-- What workers wait by may be shared by threads.
use denote.Param.Send.{IsSync, sendable}
use Rattle.std.proofs.Crossing as heap
use Rattle.thread_cases.specs.contracts.baton.Baton as Baton

pub baton_sync : IsSync Baton.the_row
baton_sync = search (heap.crosses, sendable) depth 60 fits 20000

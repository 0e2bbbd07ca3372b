use Rattle.std.proofs.Common.{◌≡◌, ◌++◌, map, filter, drop}
use Rattle.source_streams.specs.Wants.{is_wanted}
use Rattle.source_streams.proofs.scanned.add_each.Given as goal

-- those found, and those to be found among the documents to come, are all
abbrev pub invariant-loop-k : goal.invariant-loop-k
invariant-loop-k g l =
    map g.K.Lends.doc l.found.items
    ++ filter (is_wanted l.wanted.q.now.clauses l.wanted.fl.now l.wanted.keys.now l.wanted.part)
    (map (λ d. d.1) (drop l.k l.snapshot.documents))
    ≡ map g.K.Lends.doc l.fn.found.items
    ++ filter (is_wanted l.wanted.q.now.clauses l.wanted.fl.now l.wanted.keys.now l.wanted.part)
    (map (λ d. d.1) l.snapshot.documents)

use Rattle.std.proofs.Common.{◌≡◌, ◌++◌, map, filter, drop}
use Rattle.source_streams.specs.Cuts.{documents_of}
use Rattle.source_streams.specs.Wants.{is_wanted}
use Rattle.source_streams.proofs.search.matching.Given as goal

-- those found, and those to be found in the parts to come, are all
abbrev pub invariant-loop-part : goal.invariant-loop-part
invariant-loop-part g l =
    map g.K.Lends.doc l.found.items
    ++ filter (is_wanted l.wanted.q.now.clauses l.wanted.fl.now l.wanted.keys.now l.wanted.part)
    (documents_of l.collection (drop l.part-index l.cut))
    ≡ filter (is_wanted l.wanted.q.now.clauses l.wanted.fl.now l.wanted.keys.now l.wanted.part)
    (documents_of l.collection l.cut)

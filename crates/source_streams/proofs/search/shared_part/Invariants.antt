use Rattle.std.proofs.Common.{◌≡◌, ◌++◌, map, drop}
use Rattle.expr_types.specs.Sources.{cut_to}
use Rattle.source_streams.specs.Keeps.{doc_of, given_doc}
use Rattle.source_streams.specs.Parts.{part_of}
use Rattle.source_streams.proofs.search.shared_part.Given as goal

-- the cuts of the documents so far, and those of the documents to come, are all
abbrev pub invariant-loop-kept : goal.invariant-loop-kept
invariant-loop-kept l =
    map (cut_to l.wanted.fl.now) (map given_doc l.given.items)
    ++ part_of l.part.index l.part.of l.wanted.keys.now
    (map (cut_to l.wanted.fl.now) (map doc_of (drop l.kept-index l.found)))
    ≡ part_of l.part.index l.part.of l.wanted.keys.now
    (map (cut_to l.wanted.fl.now) (map doc_of l.found))

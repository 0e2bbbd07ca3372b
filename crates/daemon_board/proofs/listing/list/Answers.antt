use Rattle.std.proofs.Common.{arith, string_bytes, sym, ap, ◌∙◌, ◌++◌, ◌∷◌, []}
use Rattle.daemon_board.specs.Listed.{row_of}
use Rattle.daemon_board.proofs.LoopLemmas.{list-goes, list-ends, no-some}
use Rattle.daemon_board.proofs.listing.list.Goals as goal
use Rattle.daemon_board.proofs.listing.list.Goals.{in-Some+in_ok-row+in_ok-push, in_default}

pub loop-place-preserved : goal.loop-place-preserved
loop-place-preserved c =
    elim c.match-get_index.branch [
      | in-Some+in_ok-row+in_ok-push w ↦
          w.tuples-is ∙ w.in_ok-push.ensures.ok
          ∙ (λ j. c.loop-place.invariant j ++ (w.in_ok-row.ensures
          ∙ ap (λ i. row_of (record { id = i; daemon = w.in-Some.daemon.now })) w.as_str.ensures.value) j ∷ [])
          ∙ list-goes string_bytes c.args.daemons.now.entries c.loop-place.place
          (w.in-Some.id.now, w.in-Some.daemon.now) w.in-Some.ensures.entry
      | in_default w ↦
          absurd (no-some c.get_index.result w.in_default.not-Some
          (c.get_index.ensures.found.1 (omega (arith, c.loop-place-test.true, c.len-place-end.ensures.len))))
    ]

pub returns : goal.returns
returns c =
    c.loop-place.invariant
    ∙ list-ends string_bytes c.args.daemons.now.entries c.loop-place.place
    (omega (arith, c.loop-place-test.false, c.len-place-end.ensures.len))

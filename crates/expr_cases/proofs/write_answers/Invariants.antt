use Rattle.daemon_board.specs.Rising.{IsKept}
use Rattle.running_site.specs.Sites.{IsPassAt}
use Rattle.expr_cases.proofs.write_answers.Given as goal

-- the pass is the site's, and the daemons of the board may run
abbrev pub invariant-loop-line : goal.invariant-loop-line
invariant-loop-line g l = record {
  own : IsPassAt l.place.site l.place.pass;
  kept : IsKept l.place.board.shown;
}

use Rattle.std.proofs.Common.{sym, subst}
use Rattle.std.specs.Prelude.{Ok}
use Rattle.stream_handler.specs.Boards.{board_state}
use Rattle.stream_handler.specs.Choices.{IsPrepared}
use Rattle.stream_handler.specs.declared.prepared.Prepared.TheVariants as prepared
use Rattle.stream_handler.proofs.BoardLemmas.{list_prepared, listed_same}
use Rattle.stream_handler.proofs.question.prepare.Goals as goal

pub returns-in_err-outcome-in-List-clause-same : goal.returns-in_err-outcome-in-List-clause-same
returns-in_err-outcome-in-List-clause-same g c = c.in_err-outcome-in-List.ensures

pub returns-in_ok-outcome-in-List-clause-same : goal.returns-in_ok-outcome-in-List-clause-same
returns-in_ok-outcome-in-List-clause-same g c =
    listed_same _ _ (Ok c.in_ok-outcome-in-List.outcome) c.in_ok-outcome-in-List.ensures

pub returns-in_ok-outcome-in-List-clause-prepared
    : goal.returns-in_ok-outcome-in-List-clause-prepared
returns-in_ok-outcome-in-List-clause-prepared g c =
    let b = board_state (g.D.Daemons.shown c.args.board.now) (g.D.Daemons.answers c.args.board.now) in
    let o = c.in_ok-outcome-in-List.outcome in
    subst (λ q. IsPrepared q b (prepared.Told o)) (sym c.in-List.is)
    (list_prepared b _ o c.in_ok-outcome-in-List.ensures)

use Rattle.std.proofs.Common.{string_bytes, refl, ap, subst}
use Rattle.daemon_board.specs.Boards.{Told}
use Rattle.daemon_board.specs.Calls.{Kills}
use Rattle.daemon_board.specs.Daemons.{Shown}
use Rattle.daemon_board.specs.Finding.{shown_entries}
use Rattle.daemon_board.specs.Views.{told_of}
use Rattle.daemon_board.proofs.CallLemmas.{kills-told}
use Rattle.daemon_board.proofs.board.BoardDaemons.kill.Goals as goal

pub returns-clause-told : goal.returns-clause-told
returns-clause-told c =
    let new : Shown = record { daemons = shown_entries string_bytes c.remove.new.daemons.entries; put = c.self.inside.put } in (
      new,
      refl,
      subst (λ (t : Told). Kills c.args.id.now c.answer_of-answer.result t.shown new) c.self.view_is
          (kills-told c.args.id.now c.remove.result c.answer_of-answer.result (told_of c.self.inside).shown new
          c.remove.ensures.there c.answer_of-answer.ensures
          (ap (λ entries. record { daemons = entries; put = c.self.inside.put }) c.remove.ensures.removed)),
    )

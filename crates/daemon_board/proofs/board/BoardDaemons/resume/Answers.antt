use Rattle.std.proofs.Common.{string_bytes, refl, ap, subst}
use Rattle.daemon_board.specs.Boards.{Told}
use Rattle.daemon_board.specs.Calls.{Changes}
use Rattle.daemon_board.specs.Daemons.{Shown, resumed}
use Rattle.daemon_board.specs.Finding.{shown_entries}
use Rattle.daemon_board.specs.Views.{told_of}
use Rattle.daemon_board.proofs.CallLemmas.{changes-told}
use Rattle.daemon_board.proofs.board.BoardDaemons.resume.Goals as goal

pub returns-clause-told : goal.returns-clause-told
returns-clause-told c =
    let new : Shown = record { daemons = shown_entries string_bytes c.resume.new.daemons.entries; put = c.self.inside.put } in (
      new,
      refl,
      subst (λ (t : Told). Changes c.args.id.now (resumed c.args.now) c.answer_of-answer.result t.shown new) c.self.view_is
          (changes-told c.args.id.now (resumed c.args.now) c.resume.result c.answer_of-answer.result (told_of c.self.inside).shown new
          c.resume.ensures.there c.answer_of-answer.ensures
          (ap (λ entries. record { daemons = entries; put = c.self.inside.put }) c.resume.ensures.resumed)),
    )

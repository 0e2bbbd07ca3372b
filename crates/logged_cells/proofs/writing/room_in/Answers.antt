use Rattle.std.proofs.Common.{◌++◌, ◌∷◌, [], inl, inr, sym, ◌∙◌, subst}
use Rattle.std.proofs.Math.Logic.{∥∥₁_elim, ∥∥₁_map}
use Rattle.std.proofs.Math.Bool.{Bool-set}
use Rattle.commit_log.specs.Logs.{IsSettled}
use Rattle.log_codec.specs.Steps.{entries_in, HoldsNoGroup}
use Rattle.logged_cells.proofs.WritingLemmas.{err_also, ok_also, sealing_plain}
use Rattle.logged_cells.proofs.writing.room_in.Goals as goal

pub spell-requires : goal.spell-requires
spell-requires g c = record {
  plain = subst HoldsNoGroup (sym c.step_of.ensures)
      (sealing_plain c.args.value.now c.args.sealing.now c.requires.can);
}

pub written-requires-clause-settled : goal.written-requires-clause-settled
written-requires-clause-settled g c = ∥∥₁_map c.requires.settled (λ s. (s.steps, s.settled))

pub returns-in-Ok-reserve-clause-ahead : goal.returns-in-Ok-reserve-clause-ahead
returns-in-Ok-reserve-clause-ahead g c =
    ok_also _ _ c.written.result (λ stands. ∥∥₁_map c.requires.settled (λ s. record {
      steps = s.steps;
      same = s.same ∙ sym c.reserve.ensures.log;
      settled = subst (λ entries. IsSettled g.D.Disk.seen g.D.Disk.may_leave
          (s.steps ++ entries ∷ []) c.written.new.log) c.step_of.ensures
          (stands s.steps (entries_in c.step_of.result) c.in-Ok.ensures.spelled s.settled);
    })) c.written.ensures.stands

pub returns-in-Ok-reserve-clause-sound : goal.returns-in-Ok-reserve-clause-sound
returns-in-Ok-reserve-clause-sound g c =
    ok_also _ _ c.written.result (λ stands. ∥∥₁_elim c.requires.settled (Bool-set _ _) (λ s.
    (stands s.steps (entries_in c.step_of.result) c.in-Ok.ensures.spelled s.settled).sound))
    c.written.ensures.stands

pub returns-in-Ok-reserve-clause-settled : goal.returns-in-Ok-reserve-clause-settled
returns-in-Ok-reserve-clause-settled g c =
    err_also _ _ c.written.result (λ absent. elim absent [
      | inl f ↦ inl (∥∥₁_map c.requires.settled (λ s. record {
        steps = s.steps;
        same = s.same ∙ sym c.reserve.ensures.log;
        settled = f s.steps s.settled;
      }))
      | inr shut ↦ inr shut
    ]) c.written.ensures.absent

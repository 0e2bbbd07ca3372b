use Rattle.std.proofs.Common.{refl, sym, append-nil}
use Rattle.form_request.proofs.ReadingLemmas.{Leads-turn, reader_turn}
use Rattle.form_request.proofs.reading.Reader.step.Goals as goal

pub returns-in_ok-push-in-Whole-clause-leads : goal.returns-in_ok-push-in-Whole-clause-leads
returns-in_ok-push-in-Whole-clause-leads c =
    Leads-turn _ c.args.self.now _ _
    (reader_turn _ c.args.self.now _ _ _ c.requires c.in_ok-request.ensures.ok c.in-Whole.is) refl
    c.in_ok-push-in-Whole.ensures.ok

pub returns-in_ok-push-in-Whole-clause-nearer : goal.returns-in_ok-push-in-Whole-clause-nearer
returns-in_ok-push-in-Whole-clause-nearer c =
    (reader_turn c.args.names.now c.args.self.now _ _ c.next.new.self c.requires c.in_ok-request.ensures.ok c.in-Whole.is).ends

pub returns-in-Continue-clause-leads : goal.returns-in-Continue-clause-leads
returns-in-Continue-clause-leads c =
    Leads-turn _ c.args.self.now _ _
    (reader_turn _ c.args.self.now _ _ _ c.requires c.in_ok-request.ensures.ok c.in-Continue.is) refl
    (sym (append-nil c.args.self.now.messages))

pub returns-in-Continue-clause-nearer : goal.returns-in-Continue-clause-nearer
returns-in-Continue-clause-nearer c =
    (reader_turn c.args.names.now c.args.self.now _ _ c.next.new.self c.requires c.in_ok-request.ensures.ok c.in-Continue.is).ends

pub returns-in-Refused-clause-leads : goal.returns-in-Refused-clause-leads
returns-in-Refused-clause-leads c =
    Leads-turn _ c.args.self.now _ _
    (reader_turn _ c.args.self.now _ _ _ c.requires c.in_ok-request.ensures.ok c.in-Refused.is) refl
    (sym (append-nil c.args.self.now.messages))

pub returns-in-Refused-clause-nearer : goal.returns-in-Refused-clause-nearer
returns-in-Refused-clause-nearer c =
    (reader_turn c.args.names.now c.args.self.now _ _ c.next.new.self c.requires c.in_ok-request.ensures.ok c.in-Refused.is).ends

pub returns-in-Wants-clause-leads : goal.returns-in-Wants-clause-leads
returns-in-Wants-clause-leads c =
    Leads-turn _ c.args.self.now _ _
    (reader_turn _ c.args.self.now _ _ _ c.requires c.in_ok-request.ensures.ok c.in-Wants.is) refl
    (sym (append-nil c.args.self.now.messages))

pub returns-in-Wants-clause-nearer : goal.returns-in-Wants-clause-nearer
returns-in-Wants-clause-nearer c =
    rw c.held.ensures
    (reader_turn c.args.names.now c.args.self.now _ _ c.next.new.self c.requires c.in_ok-request.ensures.ok c.in-Wants.is).ends

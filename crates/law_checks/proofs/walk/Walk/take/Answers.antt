use Rattle.std.proofs.Common.{◌++◌, [], ◌∙◌, ap}
use Rattle.law_checks.specs.Walks.{turned, shown_with}
use Rattle.law_checks.proofs.WalkLemmas.{take-mark, take-write}
use Rattle.law_checks.proofs.walk.Walk.take.Goals as goal

pub returns-in_ok-show-in-Some : goal.returns-in_ok-show-in-Some
returns-in_ok-show-in-Some c = λ before rest walked.
    take-write c.args.self.now before c.args.entry.now rest walked
    (record { version = c.saturating_sub-self.result; ids = c.add.new.self; shown = c.show.new.shown })
    c.in-Some.id.now c.in_ok-new-in-Some.new c.in-Some.ensures c.in_ok-new-in-Some.ensures.new c.in_ok-new-in-Some.ensures.added
    (c.in_ok-show-in-Some.ensures
    ∙ ap (λ o. shown_with c.in_ok-new-in-Some.new o c.args.self.now.version ++ turned c.args.self.now.shown.items []) c.left.ensures)
    c.saturating_sub-self.ensures

pub returns-in-None : goal.returns-in-None
returns-in-None c = λ before rest walked. take-mark c.args.self.now before c.args.entry.now rest walked c.in-None.ensures

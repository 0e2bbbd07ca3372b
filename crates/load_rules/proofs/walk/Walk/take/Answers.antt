use Rattle.std.proofs.Common.{arith, ◌+◌, ap, ◌∙◌, sym, drop, option_copied}
use Rattle.std.proofs.lemmas.List.{length-drop}
use Rattle.shard_versions.specs.Indexes.{left_of, written_id}
use Rattle.load_rules.proofs.WalkLemmas.{noted-left, took-committed, took-mark, took-pending, walked-at, writes-below}
use Rattle.load_rules.proofs.walk.Walk.take.Goals as goal

pub overflow_add-self : goal.overflow_add-self
overflow_add-self c =
    omega (
      arith,
      writes-below c.args.self.now (drop (c.args.at + 1) c.args.history.now) c.requires.walked,
      length-drop (c.args.at + 1) c.args.history.now,
    )

pub returns-in-None-clause-walked : goal.returns-in-None-clause-walked
returns-in-None-clause-walked c =
    walked-at _ c.args.history.now c.args.at c.index-history-at.result c.requires.within
    c.index-history-at.is
    (took-mark c.args.self.now c.index-history-at.result (drop
    (c.args.at + 1) c.args.history.now) c.requires.walked
    (ap (λ x. written_id x.kind) c.index-history-at.is ∙ sym c.written_id.ensures
    ∙ ap option_copied c.in-None.is))

pub returns-in_ok-note-in-Some-clause-walked : goal.returns-in_ok-note-in-Some-clause-walked
returns-in_ok-note-in-Some-clause-walked c =
    let some = ap (λ x. written_id x.kind) c.index-history-at.is ∙ sym c.written_id.ensures
    ∙ ap option_copied c.in-Some.is in
    walked-at c.note.new.self c.args.history.now c.args.at c.index-history-at.result
    c.requires.within c.index-history-at.is
    (took-committed c.args.self.now c.index-history-at.result (drop
    (c.args.at + 1) c.args.history.now) c.requires.walked
    c.in-Some.id.now some c.note.new.self c.if-self.true
    (noted-left (c.left.ensures ∙ sym (ap (λ x. left_of x.kind) c.index-history-at.is))
    c.in_ok-note-in-Some.ensures.noted))

pub returns-else-self-clause-walked : goal.returns-else-self-clause-walked
returns-else-self-clause-walked c =
    walked-at _ c.args.history.now c.args.at c.index-history-at.result c.requires.within
    c.index-history-at.is
    (took-pending c.args.self.now c.index-history-at.result (drop
    (c.args.at + 1) c.args.history.now) c.requires.walked
    c.in-Some.id.now
    (ap (λ x. written_id x.kind) c.index-history-at.is ∙ sym c.written_id.ensures
    ∙ ap option_copied c.in-Some.is)
    c.if-self.false)

use Rattle.std.proofs.Common.{refl, ap, option_copied}
use Rattle.load_rules.specs.Walks.{has_id}
use Rattle.load_rules.proofs.WalkLemmas.{noted-added, noted-ids, noted-none}
use Rattle.load_rules.proofs.walk.Walk.note.Goals as goal

pub returns-in-Some-clause-noted : goal.returns-in-Some-clause-noted
returns-in-Some-clause-noted c = record {
  marked = refl;
  ids = noted-ids c.args.id c.args.self.now.ids c.insert.new.self c.in_ok-insert.ensures.updates;
  counts = noted-added (has_id c.args.id.now c.args.self.now) c.in_ok-insert.field-0
      c.in-Some.document.now
      (option_copied c.args.left) c.args.self.now.counts c.add.new.self c.in_ok-insert.ensures.added
      c.if-not-branch.false (ap option_copied c.in-Some.is) c.add.ensures.counts;
}

pub returns-in_default-clause-noted : goal.returns-in_default-clause-noted
returns-in_default-clause-noted c = record {
  marked = refl;
  ids = noted-ids c.args.id c.args.self.now.ids c.insert.new.self c.in_ok-insert.ensures.updates;
  counts = noted-none (has_id c.args.id.now c.args.self.now)
      (option_copied c.args.left) c.args.self.now.counts
      (ap option_copied c.in_default.is);
}

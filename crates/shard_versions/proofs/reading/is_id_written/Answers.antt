use Rattle.std.proofs.Common.{◌∙◌, ◌||◌, Bool, drop, ap, sym, ◌+◌}
use Rattle.shard_versions.specs.Histories.{slots, writes_id}
use Rattle.shard_versions.proofs.ReadingLemmas.{written-more}
use Rattle.shard_versions.proofs.reading.is_id_written.Goals as goal

pub returns-then-is_write_of : goal.returns-then-is_write_of
returns-then-is_write_of c =
    let rest : Bool = writes_id c.args.id.now (slots (drop (c.loop-entry.entry-index + 1) c.args.entries.now)) in
    sym (c.loop-entry.invariant
    ∙ written-more c.args.entries.now c.loop-entry.entry-index c.entry-item.result c.loop-entry-test.true c.entry-item.is c.args.id.now
    ∙ ap (λ b. b || rest) (sym c.is_write_of.ensures ∙ c.if-is_write_of.true))

pub loop-entry-preserved : goal.loop-entry-preserved
loop-entry-preserved c =
    let rest : Bool = writes_id c.args.id.now (slots (drop (c.loop-entry.entry-index + 1) c.args.entries.now)) in
    c.loop-entry.invariant
    ∙ written-more c.args.entries.now c.loop-entry.entry-index c.entry-item.result c.loop-entry-test.true c.entry-item.is c.args.id.now
    ∙ ap (λ b. b || rest) (sym c.is_write_of.ensures ∙ c.if-is_write_of.false)

use Rattle.std.proofs.Common.{◌<◌, length, subst, ap, ◌∙◌, arith}
use Rattle.std.specs.Prelude.{slice_index}
use Rattle.shard_versions.specs.Shards.{Shown}
use Rattle.shard_versions.proofs.CurrentLemmas.{current-count, current-place, current-slot}
use Rattle.shard_versions.proofs.snapshot.Snapshot.place.Goals as goal

-- there is a slot of this number, where all are current
within : (c : goal.Then-self) → c.args.k < length c.self.inside.chunks.slots
within c =
    let s = c.self.inside in
    omega (
      arith,
      c.requires,
      ap (λ (r : Shown). length r.documents) c.self.view_is,
      current-count s.chunks.slots s.places.items s.all_current c.if-self.true,
    )

pub returns-then-self-clause-place : goal.returns-then-self-clause-place
returns-then-self-clause-place c =
    let s = c.self.inside in
    current-place s.chunks.slots s.places.items s.all_current c.args.k c.if-self.true (within c)
    ∙ ap (λ (r : Shown). slice_index r.places c.args.k) c.self.view_is

pub returns-then-self-clause-in_range : goal.returns-then-self-clause-in_range
returns-then-self-clause-in_range c =
    subst (λ (r : Shown). c.args.k < length r.slots) c.self.view_is (within c)

pub returns-then-self-clause-slot : goal.returns-then-self-clause-slot
returns-then-self-clause-slot c = λ d e.
    let s = c.self.inside in
    rw (← c.self.view_is)
    (current-slot s.chunks.slots s.places.items s.all_current c.args.k d e c.if-self.true (within c)
    c.self.invariant.held)

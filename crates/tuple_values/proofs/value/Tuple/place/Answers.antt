use Rattle.std.proofs.Common.{sym, ◌∙◌, ap, arith, ℕ, ◌<◌, ◌≤◌, ◌≡◌}
use Rattle.std.specs.Prelude.{slice_get, option_map}
use Rattle.tuple_values.proofs.DocumentLemmas.{at_within, placed, placed_past, value_absent}
use Rattle.tuple_values.proofs.value.Tuple.place.Goals as goal

within : (n m : ℕ) → n < m → n ≤ m
within n m lt = omega (arith, lt)

past : (n m : ℕ) → n ≡ m → n ≤ m
past n m same = omega (arith, same)

pub returns-in-Ok : goal.returns-in-Ok
returns-in-Ok c =
    let found = rw c.deref.ensures.value at c.in-Ok.ensures.found in
    let here = rw c.self.view_is at found in
    record {
      value = rw (← c.self.view_is) (placed c.args.name.now _ _ found);
      found = λ lt. here;
      bound = within _ _ (at_within c.args.name.now _ c.args.self.now here);
    }

pub returns-in-Err : goal.returns-in-Err
returns-in-Err c =
    let absent = rw (c.deref.ensures.value, c.self.view_is) at c.in-Err.ensures.absent in
    let count = c.count.ensures.count in
    record {
      value = ap (λ (n : ℕ). option_map (λ f. f.1) (slice_get c.args.self.now n)) count
          ∙ placed_past c.args.self.now
          ∙ sym (value_absent c.args.name.now _ c.args.self.now absent);
      found = λ lt. absurd (omega (arith, lt, count));
      bound = past _ _ count;
    }

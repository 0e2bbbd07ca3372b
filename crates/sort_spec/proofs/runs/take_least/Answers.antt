use Rattle.std.proofs.Common.{rules, ◌≡◌, map, ap, subst, sym, ◌∙◌}
use Rattle.std.specs.List.{AllByRecursion}
use Rattle.std.specs.Prelude.{slice_set}
use Rattle.sort_spec.specs.Runs.{parts_in, taken, IsRow}
use Rattle.sort_spec.specs.Terms.{less}
use Rattle.sort_spec.proofs.RunLemmas.{each_gone, each_set, taken-set, taken-remove}
use Rattle.sort_spec.proofs.RunLemmas.{taken_ascends, taken_out}
use Rattle.sort_spec.proofs.TermLemmas.{less_is_weak}
use Rattle.sort_spec.proofs.runs.take_least.Goals as goal

-- the runs without the row that came first
left_of : (g : _) → (c : goal.After-runs-1 g)
    → map (parts_in g.T.Lends.doc (g.S.Ascends.to_come c.args.terms.now))
    (slice_set c.args.runs.now.items c.least-place.result
    (record { first = c.replace.new.dest; others = c.next_row.new.self }))
    ≡ taken c.least-place.result
    (map (parts_in g.T.Lends.doc (g.S.Ascends.to_come c.args.terms.now)) c.args.runs.now.items)
left_of g c =
    let doc = g.T.Lends.doc in
    let to_come = g.S.Ascends.to_come c.args.terms.now in
    let value = c.index_mut-run.ensures.value in
    taken-set (parts_in doc to_come) c.least-place.result c.args.runs.now.items
    c.index_mut-run.result.now
    _ (doc c.in-Some.row.item) (to_come c.next_row.new.self)
    (rw c.as_slice.ensures.value at c.least-place.ensures.within)
    (ap (λ run. to_come run.others) (sym value) ∙ c.in-Some.ensures.next)
    (λ j. (doc (c.replace.ensures.after j).item, to_come c.next_row.new.self))

pub returns-in-Some-clause-next : goal.returns-in-Some-clause-next
returns-in-Some-clause-next g c =
    let terms = c.args.terms.now in
    rw c.replace.ensures.value
    (taken_out (less terms) (less_is_weak terms)
    (parts_in g.T.Lends.doc (g.S.Ascends.to_come terms)) c.args.runs.now.items _
    c.least-place.result c.index_mut-run.result.now
    (rw c.as_slice.ensures.value at c.least-place.ensures.foremost)
    c.requires.ascending c.index_mut-run.ensures.value (left_of g c))

pub returns-in-Some-clause-runs : goal.returns-in-Some-clause-runs
returns-in-Some-clause-runs g c =
    let terms = c.args.terms.now in
    let runs = c.args.runs.now.items in
    let place = c.least-place.result in
    record {
      rows =
          each_set (λ run. IsRow g.T.Lends.doc terms run.first) runs place _ c.requires.rows
          (subst (λ row. IsRow g.T.Lends.doc terms row) (sym c.replace.ensures.after)
          c.in-Some.ensures.row);
      sound =
          each_set (λ run. g.S.Ascends.sound terms run.others) runs place _ c.requires.sound
          c.in-Some.ensures.sound;
      ascending =
          rw (left_of g c)
          (taken_ascends (less c.args.terms.now) c.least-place.result
          (map (parts_in g.T.Lends.doc (g.S.Ascends.to_come c.args.terms.now)) c.args.runs.now.items)
          c.requires.ascending);
    }

-- and without a run that is over
gone_of : (g : _) → (c : goal.After-drop-run g)
    → map (parts_in g.T.Lends.doc (g.S.Ascends.to_come c.args.terms.now))
    c.remove-run.new.self.items
    ≡ taken c.least-place.result
    (map (parts_in g.T.Lends.doc (g.S.Ascends.to_come c.args.terms.now)) c.args.runs.now.items)
gone_of g c =
    let doc = g.T.Lends.doc in
    let to_come = g.S.Ascends.to_come c.args.terms.now in
    ap (map (parts_in doc to_come)) c.remove-run.ensures.items
    ∙ taken-remove (parts_in doc to_come) c.least-place.result c.args.runs.now.items
    c.index_mut-run.result.now _
    (rw c.as_slice.ensures.value at c.least-place.ensures.within)
    (ap (λ run. to_come run.others) (sym c.index_mut-run.ensures.value)
    ∙ c.in-None.ensures.next ∙ c.in-None.ensures.end)

pub returns-in-None-clause-next : goal.returns-in-None-clause-next
returns-in-None-clause-next g c =
    let terms = c.args.terms.now in
    let first : c.remove-run.result.first ≡ c.index_mut-run.result.now.first = search rules in
    rw first
    (taken_out (less terms) (less_is_weak terms)
    (parts_in g.T.Lends.doc (g.S.Ascends.to_come terms)) c.args.runs.now.items _
    c.least-place.result c.index_mut-run.result.now
    (rw c.as_slice.ensures.value at c.least-place.ensures.foremost)
    c.requires.ascending c.index_mut-run.ensures.value (gone_of g c))

pub returns-in-None-clause-runs : goal.returns-in-None-clause-runs
returns-in-None-clause-runs g c =
    let terms = c.args.terms.now in
    let runs = c.args.runs.now.items in
    let place = c.least-place.result in
    let within = rw c.as_slice.ensures.value at c.least-place.ensures.within in
    record {
      rows =
          subst (λ items. AllByRecursion (λ run. IsRow g.T.Lends.doc terms run.first) items)
          (sym c.remove-run.ensures.items)
          (each_gone (λ run. IsRow g.T.Lends.doc terms run.first) runs place _ within
          c.requires.rows);
      sound =
          subst (λ items. AllByRecursion (λ run. g.S.Ascends.sound terms run.others) items)
          (sym c.remove-run.ensures.items)
          (each_gone (λ run. g.S.Ascends.sound terms run.others) runs place _ within
          c.requires.sound);
      ascending =
          rw (gone_of g c)
          (taken_ascends (less c.args.terms.now) c.least-place.result
          (map (parts_in g.T.Lends.doc (g.S.Ascends.to_come c.args.terms.now)) c.args.runs.now.items)
          c.requires.ascending);
    }

use Rattle.std.proofs.Common.{◌≡◌, ◌≢◌, ◌++◌, [], map, Some, sym, ap, ◌∙◌, subst, arith}
use Rattle.std.specs.Prelude.{All, Contains}
use Rattle.std.specs.Slots.{slots_counts, slots_items}
use Rattle.std.proofs.lemmas.List.Elements.{All-cons, All-nil, All-pop, All-weaker}
use lib.ListN.{length-map}
use Rattle.turn_table.specs.Calls.{known, table_of}
use Rattle.turn_table.specs.Carried.{emptied}
use Rattle.turn_table.specs.Histories.{GrewBy}
use Rattle.turn_table.specs.Knowledge.{passes_of, IsFree}
use Rattle.turn_table.proofs.CarriedLemmas.{none_held}
use Rattle.turn_table.proofs.CloseLemmas.{closed_abouts, closed_histories, each_pass, ends, free_there, numbers_there}
use Rattle.turn_table.proofs.table.TurnTable.close.Goals as goal

pub gather-seat-requires-clause-seat : goal.gather-seat-requires-clause-seat
gather-seat-requires-clause-seat g c =
    let t = c.args.self in let first = c.in-Some.first in let words = t.words in
    let into = c.into_seat.ensures in
    let split = sym c.into_vec-passes.ensures ∙ c.in-Some.ensures.items in
    let own = All-pop (λ pass. table_of pass ≡ t.board.shared.table_id) _ _ (Some first) split
    c.requires.own in
    let free = All-pop (λ pass. IsFree (known pass)) _ _ (Some first) split c.requires.free in
    let held = none_held first.held.items first.seat.me.0.pass.hand first.counted free.1 in (
      ap (λ s. s.table_id) into ∙ own.1,
      omega (arith, words),
      ap (λ s. s.me.1) into ∙ (first.carried ∙ ap emptied held),
    )

pub gather-seat-requires-clause-own : goal.gather-seat-requires-clause-own
gather-seat-requires-clause-own g c =
    let t = c.args.self in
    let split = sym c.into_vec-passes.ensures ∙ c.in-Some.ensures.items in
    (All-pop (λ pass. table_of pass ≡ t.board.shared.table_id) _ _ (Some c.in-Some.first) split
    c.requires.own).0

pub gather-seat-requires-clause-free : goal.gather-seat-requires-clause-free
gather-seat-requires-clause-free g c =
    let split = sym c.into_vec-passes.ensures ∙ c.in-Some.ensures.items in
    (All-pop (λ pass. IsFree (known pass)) _ _ (Some c.in-Some.first) split c.requires.free).0

pub gather-seat-requires-clause-idle : goal.gather-seat-requires-clause-idle
gather-seat-requires-clause-idle g c =
    let first = c.in-Some.first in
    let split = sym c.into_vec-passes.ensures ∙ c.in-Some.ensures.items in
    let free = All-pop (λ pass. IsFree (known pass)) _ _ (Some first) split c.requires.free in
    let one = ap (λ s. passes_of s.me.0) c.into_seat.ensures ∙ ap passes_of first.alone in
    subst (All IsFree) (sym one) (All-cons IsFree (known first) [] free.1 (All-nil IsFree))

pub unload-requires : goal.unload-requires
unload-requires g c =
    let T = g.C.CellState in let t = c.args.self in let key = t.board.shared.key in
    let first = c.in-Some.first in let front = c.pop.new.self.items in
    let split = sym c.into_vec-passes.ensures ∙ c.in-Some.ensures.items in
    let seat = c.gather-seat.result in let ks = passes_of seat.me.0 in
    let one = ap (λ s. passes_of s.me.0) c.into_seat.ensures ∙ ap passes_of first.alone in
    let taken = c.gather-seat.ensures.passes ∙ ap (λ l. l ++ map known front) one in
    let there = numbers_there known c.args.passes front first split ks taken in
    let all = All-weaker _ (Contains (map (λ k. k.number) ks)) there key.numbers.value
    c.requires.all in
    let free = free_there known c.args.passes front first split ks taken c.requires.free in
    let done = ends T.about T.history T.writer T.law T.tells T.settled T.is_shut T.fault_count (map
    T.about key.cells.value)
    (map T.history key.cells.value) key.numbers.value seat.id seat.me.0 _
    (slots_items c.close_with.result.slots) all free c.close_with.ensures.values.2 in
    let n = c.close_with.ensures.counts.1 in let slots = t.slots in
    let lens = slots_counts c.close_with.result.slots in let len = lens.0 in
    let long = done.long in record {
      full = (c.close_with.ensures.values.1, n ∙ slots);
      there = λ cell l. let v = done.values cell (omega (arith, n, slots, len, long, l)) in
          (v.0, v.1);
      room = (t.empty, t.roomy);
    }

pub returns : goal.returns
returns g c =
    let T = g.C.CellState in let t = c.args.self in let key = t.board.shared.key in
    let first = c.in-Some.first in let front = c.pop.new.self.items in
    let split = sym c.into_vec-passes.ensures ∙ c.in-Some.ensures.items in
    let seat = c.gather-seat.result in let ks = passes_of seat.me.0 in
    let one = ap (λ s. passes_of s.me.0) c.into_seat.ensures ∙ ap passes_of first.alone in
    let taken = c.gather-seat.ensures.passes ∙ ap (λ l. l ++ map known front) one in
    let there = numbers_there known c.args.passes front first split ks taken in
    let all = All-weaker _ (Contains (map (λ k. k.number) ks)) there key.numbers.value
    c.requires.all in
    let free = free_there known c.args.passes front first split ks taken c.requires.free in
    let done = ends T.about T.history T.writer T.law T.tells T.settled T.is_shut T.fault_count (map
    T.about key.cells.value)
    (map T.history key.cells.value) key.numbers.value seat.id seat.me.0 _
    (slots_items c.close_with.result.slots) all free c.close_with.ensures.values.2 in
    let Now = c.unload.result.items in
    let histories = closed_histories T.about T.history T.writer T.law (map T.about key.cells.value)
    (map T.history key.cells.value) key.numbers.value ks _ done Now c.unload.ensures in
    let abouts = closed_abouts T.about T.history T.writer T.law (map T.about key.cells.value)
    (map T.history key.cells.value) key.numbers.value ks _ done Now c.unload.ensures
    (length-map key.cells.value T.about ∙ sym (length-map key.cells.value T.history)) in
    let now = ap (map T.history) c.from_vec.ensures ∙ histories in record {
      lawful = subst (T.law (map T.about key.cells.value)) (sym now) done.lawful;
      about = ap (map T.about) c.from_vec.ensures ∙ abouts;
      written = subst (GrewBy (λ entry. Contains key.numbers.value (T.writer entry))
          (map T.history key.cells.value)) (sym now) done.grown;
      seen = each_pass known c.args.passes front first split ks taken
          (λ k. GrewBy (λ entry. T.writer entry ≢ k.number) k.seen
          (map T.history c.from_vec.result))
          (λ i k e. subst (GrewBy (λ entry. T.writer entry ≢ k.number) k.seen) (sym now)
          (done.seen i k e));
    }

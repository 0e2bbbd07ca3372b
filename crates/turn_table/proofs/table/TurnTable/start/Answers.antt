use Rattle.std.proofs.Common.{ℕ, ◌≡◌, List, ◌∷◌, length, map, Some, Option, sym, ap, ◌∙◌, subst, arith}
use lib.ListN.{length-map}
use Rattle.atomic_table.specs.Table.{opening}
use Rattle.turn_table.specs.Calls.{known}
use Rattle.turn_table.specs.Histories.{words_of}
use Rattle.turn_table.specs.Knowledge.{dealt, fresh}
use Rattle.turn_table.specs.Rule.{Kept}
use Rattle.turn_table.proofs.StartLemmas.{length-words_of, opens}
use Rattle.turn_table.proofs.table.TurnTable.start.Goals as goal

pub new-requires : goal.new-requires
new-requires g c =
    let T = g.C.CellState in let laid = c.in_ok-words.ensures in
    let items = c.into_vec.ensures in
    let words = c.as_slice.ensures.value ∙ (laid.words
    ∙ ap (λ l. 0 ∷ words_of T.history T.fault_count l) items) in
    let slots = laid.slots ∙ ap (λ l. map Some l) items in
    let Z : Type 0 = List g.row.C.Denot × (List ℕ × (List ℕ × List (Option g.row.C.Denot))) in
    subst (λ (z : Z). Kept T.about T.history T.writer T.law T.tells T.settled T.is_shut
    T.fault_count (map T.about z.0)
    (map T.history z.0) z.1.0 (opening z.1.1.0 z.1.1.1
    (dealt (map (fresh (map T.about z.0) (map T.history z.0) z.1.0 (length z.0)) z.1.0))))
    (λ i. (sym c.of.ensures i, (sym c.of-2.ensures i, (sym words i, sym slots i))))
    (opens T.about T.history T.writer T.law T.tells T.settled T.is_shut T.fault_count c.args.cells
    c.args.numbers
    c.requires.lawful c.requires.differ c.requires.new c.requires.sound)

pub deal-requires-clause-cells : goal.deal-requires-clause-cells
deal-requires-clause-cells g c =
    let made = c.in-Ok.ensures.ok in let m₁ = made.1 in let m₅ = ap (λ k. k.cells.value) made.5 in
    let slots = ap length c.in_ok-words.ensures.slots in
    let some = length-map c.into_vec.result.items (λ (x : g.row.C.Denot). Some x) in
    let items = ap length c.into_vec.ensures in let count = c.len-count.ensures in
    let cells = ap length (m₅ ∙ c.of.ensures) in
    (omega (arith, m₁, slots, some, items, count), omega (arith, cells, count))

pub invariant_of-table : goal.invariant_of-table
invariant_of-table g c =
    let T = g.C.CellState in
    let made = c.in-Ok.ensures.ok in let laid = c.in_ok-words.ensures in
    let words = ap length (c.as_slice.ensures.value ∙ laid.words) in
    let slots = ap length laid.slots in let count = c.len-count.ensures in
    let p = length-words_of T.history T.fault_count c.into_vec.result.items in
    let some = length-map c.into_vec.result.items (λ (x : g.row.C.Denot). Some x) in
    let items = ap length c.into_vec.ensures in
    let m₀ = made.0 in let m₁ = made.1 in let few = c.requires.few in
    let v : c.len-count.result ≡ length c.args.cells = count in record {
      words = omega (arith, m₀, words, p, items, v);
      slots = omega (arith, m₁, slots, some, items, v);
      few = omega (arith, v, few);
      empty = c.in_ok-room.ensures.items;
      roomy = (let room = c.in_ok-room.ensures.capacity in omega (arith, room));
    }

pub returns-clause-opening : goal.returns-clause-opening
returns-clause-opening g c = (
  ap (λ k. k.cells.value) c.in-Ok.ensures.ok.5 ∙ c.of.ensures,
  ap (λ k. k.numbers.value) c.in-Ok.ensures.ok.5 ∙ c.of-2.ensures,
)

pub returns-clause-passes : goal.returns-clause-passes
returns-clause-passes g c =
    let T = g.C.CellState in
    let cells = ap (λ k. k.cells.value) c.in-Ok.ensures.ok.5 ∙ c.of.ensures in
    let numbers = ap (λ k. k.numbers.value) c.in-Ok.ensures.ok.5 ∙ c.of-2.ensures in
    ap (map known) c.from_vec.ensures ∙ (c.in_ok-passes.ensures.known
    ∙ (λ i. map (fresh (map T.about (cells i)) (map T.history (cells i)) (numbers i)
    (length (cells i))) (c.as_slice-2.ensures i)))

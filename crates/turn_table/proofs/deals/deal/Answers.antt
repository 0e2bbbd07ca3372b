use Rattle.std.proofs.Common.{rules, ◌+◌, ◌≡◌, ◌<◌, ◌∷◌, ◌++◌, [], drop, get_or, length, map, sym, ap, ◌∙◌, subst}
use Rattle.std.specs.Prelude.{All}
use Rattle.std.proofs.lemmas.List.{drop_more, map-append, map_more}
use Rattle.std.proofs.lemmas.List.Elements.{All-push}
use Rattle.atomic_table.specs.Table.{Splits}
use Rattle.turn_table.specs.Calls.{known, table_of}
use Rattle.turn_table.specs.Knowledge.{blank, dealt, fresh, lone}
use Rattle.turn_table.specs.Rule.{Kept}
use Rattle.turn_table.proofs.DealLemmas.{deals, free-fresh}
use Rattle.turn_table.proofs.deals.deal.Goals as goal

pub split_seat-requires : goal.split_seat-requires
split_seat-requires g c =
    let T = g.C.CellState in let i = c.loop-number.number-index in
    let xs = c.args.numbers.now in let key = c.args.top.now.key in
    let F = fresh (map T.about key.cells.value) (map T.history key.cells.value)
    key.numbers.value (length key.cells.value) in
    let me : c.loop-number.seat.me.0 ≡ dealt (F (get_or xs i 0) ∷ map F (drop (i + 1) xs)) =
    ap (λ m. m.0) c.loop-number.invariant.left
    ∙ ap (λ l. dealt (map F l)) (drop_more xs i 0 (search rules)) in (
      c.loop-number.invariant.table,
      c.requires.table.1,
      subst (λ v. Splits (Kept T.about T.history T.writer T.law T.tells T.settled T.is_shut
          T.fault_count
          (map T.about key.cells.value) (map T.history key.cells.value) key.numbers.value)
          c.loop-number.seat.id v (dealt v.more) (lone (blank v.pass) v.pass)) (sym me)
          (deals T.about T.history T.writer T.law T.tells T.settled T.is_shut T.fault_count (map
          T.about key.cells.value)
          (map T.history key.cells.value) key.numbers.value c.loop-number.seat.id
          (F (get_or xs i 0)) (map F (drop (i + 1) xs))
          (free-fresh _ _ _ _ (get_or xs i 0 ∷ drop (i + 1) xs))),
    )

pub loop-number-preserved : goal.loop-number-preserved
loop-number-preserved g c =
    let T = g.C.CellState in let i = c.loop-number.number-index in
    let xs = c.args.numbers.now in let key = c.args.top.now.key in
    let inv = c.loop-number.invariant in
    let F = fresh (map T.about key.cells.value) (map T.history key.cells.value)
    key.numbers.value (length key.cells.value) in
    let low : i < length xs = search rules in
    let me : c.loop-number.seat.me.0 ≡ dealt (F (get_or xs i 0) ∷ map F (drop (i + 1) xs)) =
    ap (λ m. m.0) inv.left ∙ ap (λ l. dealt (map F l)) (drop_more xs i 0 low) in
    let s = c.split_seat.ensures in let items = c.in_ok-push.ensures.items in
    let made = ap (λ m. m.0.pass) s.4 ∙ ap (λ v. v.pass) me in record {
      table = s.0 ∙ inv.table;
      left = s.2 ∙ (λ n. (dealt (me n).more, (inv.left n).1));
      made = ap (map known) items ∙ (map-append known c.loop-number.passes.items _
          ∙ ((λ n. inv.made n ++ made n ∷ [])
          ∙ sym (map_more F xs i 0 low)));
      own = subst (All (λ pass. table_of pass ≡ c.args.top.now.table_id)) (sym items)
          (All-push (λ pass. table_of pass ≡ c.args.top.now.table_id) _ _ inv.own
          (s.3 ∙ inv.table));
    }

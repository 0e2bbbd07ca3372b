use Rattle.std.proofs.Common.{◌++◌, ◌∷◌, [], ap, sym, ◌∙◌, append_assoc, arith}
use Rattle.std.specs.Prelude.{option_to_list}
use Rattle.std.proofs.lemmas.List.{length_push}
use Rattle.site_server.specs.Rows.{doors_in, failed_in, pass_in}
use Rattle.site_server.proofs.RowLemmas.{any-false, any-true, doors-snoc, map-snoc}
use Rattle.site_server.proofs.row.part_items.Goals as goal
use Rattle.site_server.proofs.row.part_items.Goals.{then-failed, else-failed}

pub loop-item-preserved : goal.loop-item-preserved
loop-item-preserved g c =
    let item = c.in-Some.item in
    let so_far = c.loop-item.yielded in record {
      doors =
          c.keep.ensures.items
          ∙ (ap (λ l. l ++ option_to_list item.door) c.loop-item.invariant.doors
          ∙ (append_assoc c.args.doors.now.items (doors_in so_far) (option_to_list item.door)
          ∙ ap (λ l. c.args.doors.now.items ++ l) (sym (doors-snoc so_far item))));
      passes =
          c.push_reserved.ensures.items
          ∙ (ap (λ l. l ++ item.pass ∷ []) c.loop-item.invariant.passes
          ∙ (append_assoc c.args.passes.now.items _ (item.pass ∷ [])
          ∙ ap (λ l. c.args.passes.now.items ++ l) (sym (map-snoc pass_in so_far item))));
      failed =
          elim c.if-failed.branch [
            | then-failed w ↦
                w.failed-is ∙ (w.if-failed.true
                ∙ any-true failed_in so_far item
                (sym c.loop-item.invariant.failed ∙ w.if-failed.true))
            | else-failed w ↦
                w.failed-is ∙ (w.has_failed-failed.ensures
                ∙ any-false failed_in so_far item
                (sym c.loop-item.invariant.failed ∙ w.if-failed.false))
          ];
      room = c.keep.ensures.capacity ∙ c.loop-item.invariant.room;
      place = c.push_reserved.ensures.capacity ∙ c.loop-item.invariant.place;
      long = omega (arith, length_push so_far item);
    }

use Rattle.std.proofs.Common.{◌++◌, ◌∷◌, [], ap, sym, ◌∙◌, arith}
use Rattle.std.proofs.lemmas.List.{length_push}
use Rattle.site_server.specs.Rows.{first_of, item_of, items_for, rest_of}
use Rattle.site_server.proofs.RowLemmas.{behind-snoc, items-snoc}
use Rattle.site_server.proofs.row.add_items.Goals as goal

pub loop-pass-preserved : goal.loop-pass-preserved
loop-pass-preserved g c =
    let n = c.args.workers in
    let doors = c.args.row.now.items in
    let so_far = c.loop-pass.yielded in
    let pass = c.in-Some.pass in record {
      items =
          c.push_reserved.ensures.items
          ∙ (ap (λ l. l ++ item_of c.next_door-door.result pass ∷ []) c.loop-pass.invariant.items
          ∙ (ap (λ d. items_for n doors so_far ++ item_of d pass ∷ [])
          (c.next_door-door.ensures.door
          ∙ ap (λ x. first_of x.0 x.1) c.loop-pass.invariant.left)
          ∙ sym (items-snoc n doors so_far pass)));
      left =
          c.next_door-door.ensures.rest
          ∙ (ap (λ x. rest_of x.0 x.1) c.loop-pass.invariant.left
          ∙ sym (behind-snoc n doors so_far pass));
      capacity = c.push_reserved.ensures.capacity ∙ c.loop-pass.invariant.capacity;
      len = omega (arith, length_push so_far pass);
      rest = omega arith;
    }

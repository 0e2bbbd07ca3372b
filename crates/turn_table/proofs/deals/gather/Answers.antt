use Rattle.std.proofs.Common.{◌≡◌, ◌∷◌, ◌++◌, [], map, sym, ap, ◌∙◌, subst, append_assoc}
use Rattle.std.specs.Prelude.{All}
use Rattle.std.proofs.lemmas.List.{map-append}
use Rattle.std.proofs.lemmas.List.Elements.{All-cons, All-head, All-nil, All-push, All-rest, All-same}
use Rattle.turn_table.specs.Calls.{known, table_of}
use Rattle.turn_table.specs.Carried.{emptied}
use Rattle.turn_table.specs.Knowledge.{passes_of, IsFree}
use Rattle.turn_table.proofs.CarriedLemmas.{none_held}
use Rattle.turn_table.proofs.GatherLemmas.{gathers}
use Rattle.turn_table.proofs.KnowledgeLemmas.{passes_of-dealt}
use Rattle.turn_table.proofs.ListLemmas.{each_at}
use Rattle.turn_table.proofs.deals.gather.Goals as goal

pub join_seat-requires : goal.join_seat-requires
join_seat-requires g c =
    let T = g.C.CellState in let inv = c.loop-pass.invariant in
    let p = c.in-Some.pass in let steps = c.in-Some.ensures.steps.0 in
    let into = c.into_seat.ensures in let top = c.args.top.now.table_id in
    let own = All-head (λ pass. table_of pass ≡ top) p _
    (All-same (λ pass. table_of pass ≡ top) _ _ (sym steps) inv.own) in
    let free = All-head (λ pass. IsFree (known pass)) p _
    (All-same (λ pass. IsFree (known pass)) _ _ (sym steps) inv.free) in
    let one = ap (λ s. passes_of s.me.0) into ∙ ap passes_of p.alone in
    let held = none_held p.held.items p.seat.me.0.pass.hand p.counted free in (
      inv.table,
      ap (λ s. s.table_id) into ∙ own,
      ap (λ s. s.me.1) into ∙ (p.carried ∙ ap emptied held),
      c.requires.seat.1,
      gathers T.about T.history T.writer T.law T.tells T.settled T.is_shut T.fault_count _ _ _
          c.loop-pass.seat.id
          c.loop-pass.seat.me.0 c.into_seat.result.id c.into_seat.result.me.0
          (λ i x e. each_at IsFree _ i x inv.idle e)
          (λ i x e. each_at IsFree _ i x (subst (All IsFree) (sym one)
          (All-cons IsFree (known p) [] free (All-nil IsFree))) e),
    )

pub loop-pass-preserved : goal.loop-pass-preserved
loop-pass-preserved g c =
    let inv = c.loop-pass.invariant in let joined = c.join_seat.ensures in
    let p = c.in-Some.pass in let steps = c.in-Some.ensures.steps.0 in
    let into = c.into_seat.ensures in let top = c.args.top.now.table_id in
    let old = passes_of c.loop-pass.seat.me.0 in
    let theirs = passes_of c.into_seat.result.me.0 in
    let one = ap (λ s. passes_of s.me.0) into ∙ ap passes_of p.alone in
    let free = All-head (λ pass. IsFree (known pass)) p _
    (All-same (λ pass. IsFree (known pass)) _ _ (sym steps) inv.free) in record {
      table = joined.0 ∙ inv.table;
      empty = ap (λ m. m.1) joined.2 ∙ inv.empty;
      taken = ap (λ m. passes_of m.0) joined.2 ∙ (passes_of-dealt (old ++ theirs)
          ∙ (ap (λ l. old ++ l) one ∙ (ap (λ l. l ++ known p ∷ []) inv.taken
          ∙ (append_assoc (passes_of c.args.seat.me.0) (map known c.loop-pass.yielded)
          (known p ∷ [])
          ∙ ap (λ l. passes_of c.args.seat.me.0 ++ l)
          (sym (map-append known c.loop-pass.yielded (p ∷ [])))))));
      idle = subst (All IsFree) (sym (ap (λ m. passes_of m.0) joined.2
          ∙ (passes_of-dealt (old ++ theirs) ∙ ap (λ l. old ++ l) one)))
          (All-push IsFree old (known p) inv.idle free);
      own = All-rest (λ pass. table_of pass ≡ top) p _ _ steps inv.own;
      free = All-rest (λ pass. IsFree (known pass)) p _ _ steps inv.free;
    }

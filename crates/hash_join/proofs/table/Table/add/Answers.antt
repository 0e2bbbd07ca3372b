use Rattle.std.proofs.Common.{rules, [], ◌∷◌, ◌++◌, List, bytes_eq, ap, sym, subst, ◌∙◌}
use Rattle.std.specs.HashMap.{get_by}
use Rattle.std.specs.Option.{option_map_or}
use Rattle.tuple_values.specs.Document.{ByteList, Doc}
use Rattle.hash_join.specs.Buckets.{AddsUnder}
use Rattle.hash_join.proofs.TableLemmas.{added_under}
use Rattle.hash_join.proofs.table.Table.add.Goals as goal

pub returns-in-Some : goal.returns-in-Some
returns-in-Some c =
    let old = c.args.self.now.buckets in
    let new = c.get_mut.follows.lender c.push.new.self in
    let had = ap (λ w. option_map_or (λ b. b.items) w []) c.in-Some.ensures.value in
    subst
    (λ (key : ByteList). AddsUnder key c.args.right c.args.self.now (record { buckets = new }))
    c.into_vec-key.ensures
    (added_under (λ k. k.items) (λ b. b.items) old new c.into_vec-key.result.items c.args.right
    c.push.new.self ((c.get_mut.follows.holds c.push.new.self).3 (search rules))
    (◌∙◌ {A = List Doc} c.in_ok-push.ensures.items
    (ap (λ (w : List Doc). w ++ c.args.right ∷ []) had)))

pub returns : goal.returns
returns c =
    let old = c.get_mut.follows.lender-at-none in
    let new = c.insert.new.self in
    let bytes = c.into_vec-key.result.items in
    let had =
    ap (λ w. option_map_or (λ b. b.items) w []) c.in_default.ensures.value
    ∙ ap (λ m. option_map_or (λ b. b.items) (get_by (λ k. bytes_eq bytes k.items) m) [])
    (sym c.get_mut.follows.holds-at-none) in
    subst
    (λ m. AddsUnder c.args.key c.args.right (record { buckets = m }) (record { buckets = new }))
    c.get_mut.follows.holds-at-none
    (subst
    (λ (key : ByteList).
    AddsUnder key c.args.right (record { buckets = old }) (record { buckets = new }))
    c.into_vec-key.ensures
    (added_under (λ k. k.items) (λ b. b.items) old new bytes c.args.right c.push-2.new.self
    c.in_ok-insert.ensures.updates
    (c.in_ok-push-2.ensures.items
    ∙ ap (λ (w : List Doc). w ++ c.args.right ∷ []) (c.new-bucket.ensures.items ∙ had))))

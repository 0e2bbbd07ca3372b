use Rattle.std.proofs.Common.{rules, ℕ, ◌+◌, ◌≡◌, ◌<◌, List, [], ◌∷◌, ◌++◌, false, get_or, length, map, set, take, sym, ap, ◌∙◌, subst, arith, Some, length-append, get_or-set_other, get_or-set_same}
use Rattle.std.proofs.lemmas.List.{map-append, take_all, take_more}
use Rattle.std.specs.Slots.{slots_counts, slots_filled, slots_items}
use mathlib.Core.Logic.{dite}
use mathlib.Core.Option.{some, some-injective}
use native.Mathlib.Decide.{ℕ_discrete}
use lib.ListN.{get_elem?}
use Rattle.turn_table.proofs.ListLemmas.{inside, read_at}
use Rattle.turn_table.proofs.deals.unload.Goals as goal

-- the items up to a place, and the one that stands there
take_next : {X : Type 0} (xs : List X) (i : ℕ) (x : X) → get_elem? xs i ≡ some x
    → take (i + 1) xs ≡ take i xs ++ x ∷ []
take_next xs i x e = take_more xs i x (inside xs i x e)
    ∙ ap (λ y. take i xs ++ y ∷ []) (read_at xs i x x e)

pub unreachable-requires : goal.unreachable-requires
unreachable-requires g c =
    let inv = c.loop-cell.invariant in let i = c.loop-cell.cell in
    let t = c.requires.there i c.loop-cell-test.true in
    let e : c.take.result ≡ Some t.0 = some-injective _ _ (sym c.take.ensures.value
    ∙ (ap (λ l. get_elem? l i) inv.same.0 ∙ t.1)) in
    let n = c.in-None.is in absurd (cc)

pub loop-cell-preserved : goal.loop-cell-preserved
loop-cell-preserved g c =
    let inv = c.loop-cell.invariant in let i = c.loop-cell.cell in
    let others = c.take.ensures.others in let items = c.push_reserved.ensures.items in
    let f = slots_filled c.loop-cell.closed.slots in let was = c.in-Some.is in
    let low = c.loop-cell-test.true in let len = inv.same.1 in let full = c.requires.full in
    let f₁ = full.1 in let counts = slots_counts c.loop-cell.closed.slots in
    let n₁ = counts.1 in let r₀ = inv.room.0 in
    let inside : i < length f = omega arith in
    let there = ap (λ l. get_elem? l i) (sym inv.same.0) ∙ (c.take.ensures.value
    ∙ ap some was) in record {
      low = omega arith;
      same = (others.0 ∙ inv.same.0, others.2 ∙ inv.same.1);
      full = λ k a b. ap (λ l. get_or l k false) others.1
          ∙ (get_or-set_other f i k false false (λ e. omega arith)
          ∙ inv.full k (omega arith) (subst (λ (n : ℕ). k < n) others.2 b));
      empty = λ k a. ap (λ l. get_or l k false) others.1 ∙ dite (ℕ_discrete k i)
          (λ e. ap (λ (n : ℕ). get_or (set f i false) n false) e
          ∙ get_or-set_same f i false false inside)
          (λ ne. get_or-set_other f i k false false ne ∙ inv.empty k (omega arith));
      room = (
        let e = ap length items in
            omega (arith, e, r₀, length-append c.loop-cell.room.items (c.in-Some.value ∷ [])),
        search rules,
      );
      values = ap (map Some) items
          ∙ (map-append Some c.loop-cell.room.items (c.in-Some.value ∷ [])
          ∙ (ap (λ l. l ++ Some c.in-Some.value ∷ []) inv.values
          ∙ sym (take_next _ i _ there)));
    }

pub returns : goal.returns
returns g c =
    let inv = c.loop-cell.invariant in let done = c.loop-cell-test.false in
    let full = c.requires.full in let f₁ = full.1 in
    let counts = slots_counts c.args.closed.slots in let n₀ = counts.0 in
    inv.values ∙ take_all c.loop-cell.cell (slots_items c.args.closed.slots) (omega arith)

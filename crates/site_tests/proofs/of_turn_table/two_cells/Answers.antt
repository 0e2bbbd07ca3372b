use Rattle.std.proofs.Common.{ℕ, ◌≡◌, ◌≢◌, List, [], ◌∷◌, ◌++◌, length, map, refl, sym, ap, ◌∙◌, subst, arith, Some}
use Rattle.std.specs.Prelude.{All, AllPairs, Contains}
use Rattle.std.proofs.lemmas.List.Elements.{All-pop}
use Rattle.turn_table.specs.Calls.{known, table_of}
use Rattle.turn_table.specs.Knowledge.{fresh}
use Rattle.site_tests.specs.Tallies.{Amount, IsBehind}
use Rattle.site_tests.proofs.TallyLemmas.{none_there, two_differ, two_popped}
use Rattle.site_tests.proofs.of_turn_table.two_cells.Goals as goal

pub start-requires : goal.start-requires
start-requires c =
    let x = c.empty.result in let y = c.empty-2.result in
    let cells : c.push-2.new.self ≡ x ∷ y ∷ [] = c.in_ok-push-2.ensures.ok
    ∙ ap (λ l. l ++ y ∷ []) (c.in_ok-push.ensures.ok ∙ ap (λ l. l ++ x ∷ []) c.new-cells.ensures) in
    let numbers : c.push-4.new.self ≡ 1 ∷ 2 ∷ [] = c.in_ok-push-4.ensures.ok
    ∙ ap (λ l. l ++ 2 ∷ []) (c.in_ok-push-3.ensures.ok ∙ ap (λ l. l ++ 1 ∷ []) c.new-numbers.ensures) in
    let one : length x.0 ≡ 0 = ap length c.empty.ensures in
    let two : length y.0 ≡ 0 = ap length c.empty-2.ensures in
    let count : length c.push-2.new.self ≡ 2 = ap length cells in record {
      few = omega arith;
      lawful = subst (λ (l : List (List Amount × ℕ)). IsBehind (map (λ (t : List Amount × ℕ). t.0) l))
          (sym cells) (omega (arith, one, two));
      differ = subst (AllPairs (λ m n. m ≢ n)) (sym numbers) (two_differ 1 2 (λ e. omega arith));
      new = subst (All (λ (t : List Amount × ℕ).
          All (λ (e : Amount). ¬ Contains c.push-4.new.self e.0) t.0)) (sym cells)
          (none_there (λ (t : List Amount × ℕ). t.0)
          (λ (e : Amount). ¬ Contains c.push-4.new.self e.0) x y c.empty.ensures
          c.empty-2.ensures);
      sound = λ k d low. (tt, refl);
    }

pub returns : goal.returns
returns c =
    let x = c.empty.result in let y = c.empty-2.result in
    let cells : c.push-2.new.self ≡ x ∷ y ∷ [] = c.in_ok-push-2.ensures.ok
    ∙ ap (λ l. l ++ y ∷ []) (c.in_ok-push.ensures.ok ∙ ap (λ l. l ++ x ∷ []) c.new-cells.ensures) in
    let numbers : c.push-4.new.self ≡ 1 ∷ 2 ∷ [] = c.in_ok-push-4.ensures.ok
    ∙ ap (λ l. l ++ 2 ∷ []) (c.in_ok-push-3.ensures.ok ∙ ap (λ l. l ++ 1 ∷ []) c.new-numbers.ensures) in
    let made = c.in_ok-table.ensures in let table = c.in_ok-table.table.board.shared.table_id in
    let last = sym c.into_vec-passes.ensures ∙ c.in-Some.ensures.items in
    let first = c.in-Some-pop.ensures.items in
    let one = All-pop (λ pass. table_of pass ≡ table) _ _ (Some c.in-Some.second) last made.own in
    let two = All-pop (λ pass. table_of pass ≡ table) _ _ (Some c.in-Some-pop.first) first one.0 in
    let knows = made.passes
    ∙ ((λ i. map (fresh (map (λ (t : List Amount × ℕ). 0) (cells i))
    (map (λ (t : List Amount × ℕ). t.0) (cells i)) (numbers i) (length (cells i))) (numbers i))
    ∙ (λ i. map (fresh (0 ∷ 0 ∷ []) (c.empty.ensures i ∷ c.empty-2.ensures i ∷ []) (1 ∷ 2 ∷ []) 2)
    (1 ∷ 2 ∷ []))) in record {
      cells = made.cells ∙ ap length cells;
      numbers = made.opening.1 ∙ numbers;
      own = (two.1, one.1);
      known = two_popped known c.in_ok-table.passes c.pop.new.self.items c.pop-2.new.self.items
          c.in-Some-pop.first c.in-Some.second
          (fresh (0 ∷ 0 ∷ []) ([] ∷ [] ∷ []) (1 ∷ 2 ∷ []) 2 1)
          (fresh (0 ∷ 0 ∷ []) ([] ∷ [] ∷ []) (1 ∷ 2 ∷ []) 2 2) knows last first;
    }

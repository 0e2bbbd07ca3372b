use Rattle.std.proofs.Common.{ℕ, ◌≡◌, ◌≢◌, List, [], ◌∷◌, ◌++◌, Bool, false, length, sym, ap, ◌∙◌, subst, arith, Some}
use Rattle.std.specs.Prelude.{All, AllPairs, Contains}
use Rattle.std.proofs.lemmas.List.Elements.{All-pop}
use Rattle.turn_table.specs.Calls.{table_of}
use Rattle.site_tests.proofs.TallyLemmas.{both, none_there, two_differ}
use Rattle.site_tests.proofs.of_shut_cells.two_vaults.Goals as goal

-- what a contract sees of a cell
abbrev Seen : Type 0
Seen = List ℕ × ℕ × ℕ × Bool

pub start-requires : goal.start-requires
start-requires c =
    let x = c.empty.result in let y = c.empty-2.result in
    let cells : c.push-2.new.self ≡ x ∷ y ∷ [] = c.in_ok-push-2.ensures.ok
    ∙ ap (λ l. l ++ y ∷ []) (c.in_ok-push.ensures.ok ∙ ap (λ l. l ++ x ∷ []) c.new-cells.ensures) in
    let numbers : c.push-4.new.self ≡ 1 ∷ 2 ∷ [] = c.in_ok-push-4.ensures.ok
    ∙ ap (λ l. l ++ 2 ∷ []) (c.in_ok-push-3.ensures.ok ∙ ap (λ l. l ++ 1 ∷ []) c.new-numbers.ensures) in
    let count : length c.push-2.new.self ≡ 2 = ap length cells in record {
      few = omega arith;
      lawful = tt;
      differ = subst (AllPairs (λ m n. m ≢ n)) (sym numbers) (two_differ 1 2 (λ e. omega arith));
      new = subst (All (λ (t : Seen). All (λ (e : ℕ). ¬ Contains c.push-4.new.self e) t.0)) (sym cells)
          (none_there (λ (t : Seen). t.0) (λ (e : ℕ). ¬ Contains c.push-4.new.self e) x y
          c.empty.ensures.0 c.empty-2.ensures.0);
      sound = subst (All (λ (t : Seen). Unit {0} × (t.3 ≡ false))) (sym cells)
          (both (λ (t : Seen). Unit {0} × (t.3 ≡ false)) x y (tt, c.empty.ensures.1)
          (tt, c.empty-2.ensures.1));
    }

pub returns : goal.returns
returns c =
    let x = c.empty.result in let y = c.empty-2.result in
    let cells : c.push-2.new.self ≡ x ∷ y ∷ [] = c.in_ok-push-2.ensures.ok
    ∙ ap (λ l. l ++ y ∷ []) (c.in_ok-push.ensures.ok ∙ ap (λ l. l ++ x ∷ []) c.new-cells.ensures) in
    let made = c.in_ok-table.ensures in let table = c.in_ok-table.table.board.shared.table_id in
    let last = sym c.into_vec-passes.ensures ∙ c.in-Some.ensures.items in
    let one = All-pop (λ pass. table_of pass ≡ table) _ _ (Some c.in-Some.pass) last made.own in record {
      cells = made.cells ∙ ap length cells;
      own = one.1;
    }

-- A pass that comes to its site, and goes.
use Rattle.std.proofs.Common.{◌≡◌, ℕ, List, refl, sym, ◌∙◌, subst}
use Rattle.std.specs.Prelude.{Option, Some, None}
use Rattle.tuple_values.specs.declared.names.NameShards.{NameShards}
use Rattle.atomic_table.specs.Seated.{TableId}
use Rattle.turn_table.specs.Calls.{known, table_of}
use Rattle.turn_table.specs.declared.rule.Opening.{Opening}
use Rattle.logged_cells.specs.declared.logged_cell.LoggedCell.{LoggedCell}
use Rattle.running_site.specs.Passes.{layout_in, IsOpened, IsPassIn, TablePass}
use Rattle.running_site.specs.Visits.{IsVisit}

module _ {D : Type 0} where
  -- two passes in options
  same-pass : (p q : TablePass D) → Some p ≡ Some q → p ≡ q
  same-pass p q e = cc

  -- a pass that comes has no turn
  pub came-visit : (table : TableId) (key : Opening (LoggedCell D)) (names : List NameShards) (limit : ℕ)
      (o : Option (TablePass D)) (p : TablePass D) → o ≡ Some p
      → IsPassIn table key (layout_in names limit) o
      → (table_of p ≡ table) × ((known p).numbers ≡ key.numbers.value)
      × IsVisit {D = D} names limit (known p) None
  came-visit table key names limit o p e i =
      let same : i.inside ≡ p = same-pass i.inside p (sym i.there ∙ e) in
      subst (λ (q : TablePass D). (table_of q ≡ table) × ((known q).numbers ≡ key.numbers.value)
      × IsVisit {D = D} names limit (known q) None) same (
        i.table_is,
        i.numbered,
        record {
          knowing = i.knowing;
          idle = λ _. i.free;
          holding = λ t h. absurd (cc);
        },
      )

  -- and one with no turn goes
  pub gone-pass : (table : TableId) (key : Opening (LoggedCell D)) (names : List NameShards) (limit : ℕ)
      (o : Option (TablePass D)) (p : TablePass D) → o ≡ Some p → table_of p ≡ table
      → (known p).numbers ≡ key.numbers.value → IsOpened names limit key.cells.value → IsVisit {D = D} names limit (known p) None
      → IsPassIn table key (layout_in names limit) o
  gone-pass table key names limit o p e seated numbered opened v = record {
    opened = opened;
    inside = p;
    there = e;
    table_is = seated;
    numbered = numbered;
    knowing = v.knowing;
    free = v.idle refl;
  }

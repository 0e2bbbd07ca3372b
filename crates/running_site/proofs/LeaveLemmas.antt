-- A pass that gave its turn back.
use Rattle.std.proofs.Common.{◌≡◌, ℕ, List, refl, sym, ap, ◌∙◌, subst, inl, inr}
use Rattle.std.specs.Prelude.{Some, None}
use Rattle.std.proofs.lemmas.Bool.{cases_eq}
use Rattle.std.proofs.lemmas.List.{get_or-set_other}
use Rattle.tuple_values.specs.declared.names.NameShards.{NameShards}
use Rattle.exchange_rules.specs.declared.log_entry.LogEntry.{LogEntry}
use Rattle.site_laws.specs.Looks.{IsLater}
use Rattle.site_laws.specs.declared.cell_about.CellAbout.{CellAbout}
use Rattle.site_laws.proofs.LaterLemmas.{later-self}
use Rattle.turn_table.specs.Knowledge.{gave, hand}
use Rattle.turn_table.specs.declared.knowledge.Known.{Known}
use Rattle.turn_table.specs.declared.turn.Turn.{Turn}
use Rattle.logged_cells.specs.declared.logged_cell.LoggedCell.{LoggedCell}
use Rattle.running_site.specs.Passes.{sight_in, IsKnowing}
use Rattle.running_site.specs.Visits.{IsVisit}

module _ {D : Type 0} (names : List NameShards) (limit : ℕ) (k k2 : Known CellAbout LogEntry)
    (t : Turn (LoggedCell D)) (gone : k2 ≡ gave t.cell k) where
  -- it has none
  pub gave-visit : IsVisit names limit k (Some t) → hand k2 t.cell ≡ None
      → IsVisit {D = D} names limit k2 None
  gave-visit v free =
      let turn = v.holding t refl in
      record {
        knowing = subst (IsKnowing names limit) (sym gone)
            (record {
              about = v.knowing.about;
              begun = v.knowing.begun;
              listed = v.knowing.listed;
              signed = v.knowing.signed;
              since = v.knowing.since;
              fit = v.knowing.fit;
            });
        idle = λ _ c. elim (cases_eq c t.cell) [
          | inl same ↦ ap (hand k2) same ∙ free
          | inr apart ↦
              ap (λ (x : Known CellAbout LogEntry). hand x c) gone
              ∙ (get_or-set_other k.hand t.cell c None None apart ∙ turn.others c apart)
        ];
        holding = λ u e. absurd (cc);
      }

  -- this moment is a later one
  pub gave-later : IsLater names (sight_in k) (sight_in k2)
  gave-later =
      let same : sight_in k2 ≡ sight_in k = ap sight_in gone in
      subst (IsLater names (sight_in k)) (sym same) (later-self names (sight_in k))

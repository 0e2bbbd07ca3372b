use Rattle.std.proofs.Common.{◌≡◌, [], ◌∷◌, ◌++◌, false, sym, ap, ◌∙◌, subst}
use Rattle.std.specs.Prelude.{All}
use Rattle.logged_cells.specs.Cells.{is_closed, IsSettled}
use Rattle.logged_cells.specs.declared.logged_cell.LoggedCell.{LoggedCell}
use Rattle.running_site.proofs.CloseLemmas.{all-of}
use Rattle.disk_tests.proofs.of_logged_sites.cells_over.Goals as goal

pub returns-clause-sound : goal.returns-clause-sound
returns-clause-sound g c =
    let P : LoggedCell g.row.D.Denot → Type 0 = λ cell.
    IsSettled g.D.Disk.seen g.D.Disk.may_leave cell × (is_closed cell ≡ false) in
    let one = c.in_ok-push.ensures.ok ∙ ap (λ l. l ++ c.logged.result ∷ []) c.new-cells.ensures in
    let two = c.in_ok-push-2.ensures.ok ∙ ap (λ l. l ++ c.logged-2.result ∷ []) one in
    let three = c.in_ok-push-3.ensures.ok ∙ ap (λ l. l ++ c.logged-3.result ∷ []) two in
    subst (All P) (sym three)
    (all-of P (c.logged.result ∷ c.logged-2.result ∷ c.logged-3.result ∷ [])
    (c.logged.ensures.sound, (c.logged-2.ensures.sound, (c.logged-3.ensures.sound, tt))))

use Rattle.std.proofs.Common.{◌≡◌, false}
use Rattle.std.specs.Prelude.{None}
use Rattle.std.proofs.lemmas.List.Elements.{All-weaker}
use Rattle.logged_cells.specs.Cells.{is_closed, IsSettled}
use Rattle.running_site.proofs.StartLemmas.{idle-alone}
use Rattle.running_site.proofs.opening.SiteOf+LoggedCell+D.start.Goals as goal

pub start_with-requires-clause-sound : goal.start_with-requires-clause-sound
start_with-requires-clause-sound g c =
    All-weaker (λ cell. cell.log ≡ None)
    (λ cell. IsSettled g.D.Disk.seen g.D.Disk.may_leave cell × (is_closed cell ≡ false))
    (idle-alone g.D.Disk.seen g.D.Disk.may_leave) c.in_ok-cells.cells c.in_ok-cells.ensures.alone

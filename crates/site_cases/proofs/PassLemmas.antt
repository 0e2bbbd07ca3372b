-- The one pass of a site, as its record is taken.
use Rattle.std.proofs.Common.{◌≡◌, sym, subst}
use Rattle.running_site.specs.Passes.{IsPassIn}
use Rattle.running_site.specs.Plain.{TablePass}
use Rattle.running_site.specs.Sites.{layout_at, IsPassAt}
use Rattle.running_site.specs.declared.pass.PassOf.{PassOf}
use Rattle.running_site.specs.declared.site.SiteOf.{SiteOf}
use Rattle.running_site.specs.Plain.{SiteCell}

-- it stays the site's
pub taken-at : {A B C D E : Type 0} (site : SiteOf SiteCell A B C D E) (old new : PassOf TablePass)
    → new.pass ≡ old.pass → IsPassAt site old → IsPassAt site new
taken-at site old new same own =
    subst (IsPassIn site.table.board.shared.table_id site.table.board.shared.key (layout_at site))
    (sym same) own

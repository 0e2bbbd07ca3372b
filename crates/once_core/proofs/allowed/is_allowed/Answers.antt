use Rattle.std.proofs.Common.{sym, subst, List, ℕ, Decides, IfOk}
use Rattle.once_core.specs.Allowed.{MayStore}
use Rattle.once_core.specs.Worlds.{seen_by, IsAllowedIn}
use Rattle.once_core.specs.declared.event.Event.{Event}
use Rattle.once_core.proofs.allowed.is_allowed.Goals as goal

pub returns-in-Store : goal.returns-in-Store
returns-in-Store c =
    let names = c.args.names.now in
    let world = c.args.world.now in
    let Here : Event → Type 0 = λ e. IfOk c.may_store.result (λ a. Decides a (IsAllowedIn names world e)) in
    let Of : List ℕ → Type 0 = λ u. IfOk c.may_store.result
    (λ a. Decides a (MayStore names (seen_by c.in-Store.actor world) c.in-Store.key u)) in
    subst Here (sym c.in-Store.is) (subst Of c.as_slice-in-Store.ensures c.may_store.ensures)

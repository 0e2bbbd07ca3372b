-- What the calls of a board say, from what is done with its daemons.
use Rattle.std.proofs.Common.{◌≡◌, Bool, true, false, List, refl, sym, ap, ◌∙◌, subst}
use Rattle.std.specs.Prelude.{Result, Ok, Err, if◌then◌else◌}
use Rattle.tuple_values.specs.Document.{ByteList}
use Rattle.daemon_board.specs.Calls.{Changes, Kills, MakesOf}
use Rattle.daemon_board.specs.Daemons.{Entry, Shown, change_first, has_id, is_there, with_daemons, without_first}
use Rattle.daemon_board.specs.declared.daemon.Daemon.{Daemon}
use Rattle.daemon_board.specs.declared.fault.BoardFault.{BoardFault}
use Rattle.daemon_board.specs.declared.fault.BoardFault.TheVariants.{UnknownDaemon}
use Rattle.daemon_board.proofs.PlaceLemmas.{all-false, none-changed, none-removed}

-- an answer by whether there is a daemon with the id, where nothing is made if there isn't
made : (id : ByteList) (entries : List Entry) (there : Bool) (answer : Result (Unit {0}) BoardFault)
    (old new : Shown) → there ≡ is_there id old
    → answer ≡ (if there then Ok tt else Err UnknownDaemon)
    → (is_there id old ≡ false → entries ≡ old.daemons) → new ≡ with_daemons old entries
    → MakesOf id entries answer old new
made id entries true answer old new there is same new_is =
    subst (λ a. MakesOf id entries a old new) (sym is) (sym there, new_is)
made id entries false answer old new there is same new_is =
    subst (λ a. MakesOf id entries a old new) (sym is)
    (refl, sym there, new_is ∙ ap (with_daemons old) (same (sym there)))

pub changes-told : (id : ByteList) (change : Daemon → Daemon) (there : Bool)
    (answer : Result (Unit {0}) BoardFault) (old new : Shown) → there ≡ is_there id old
    → answer ≡ (if there then Ok tt else Err UnknownDaemon)
    → new ≡ with_daemons old (change_first (has_id id) change old.daemons)
    → Changes id change answer old new
changes-told id change there answer old new is_there answer_is new_is =
    made id (change_first (has_id id) change old.daemons) there answer old new is_there answer_is
    (λ none. none-changed (has_id id) change old.daemons (all-false (has_id id) old.daemons none)) new_is

pub kills-told : (id : ByteList) (there : Bool) (answer : Result (Unit {0}) BoardFault)
    (old new : Shown) → there ≡ is_there id old
    → answer ≡ (if there then Ok tt else Err UnknownDaemon)
    → new ≡ with_daemons old (without_first (has_id id) old.daemons) → Kills id answer old new
kills-told id there answer old new is_there answer_is new_is =
    made id (without_first (has_id id) old.daemons) there answer old new is_there answer_is
    (λ none. none-removed (has_id id) old.daemons (all-false (has_id id) old.daemons none)) new_is

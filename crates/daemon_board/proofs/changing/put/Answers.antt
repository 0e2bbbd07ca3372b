use Rattle.std.proofs.Common.{◌≡◌, None, string_bytes, sym, ap, subst, ◌∙◌, ◌++◌, ◌∷◌, []}
use Rattle.std.specs.Prelude.{bytes_eq}
use Rattle.std.specs.Map.{lookup}
use Rattle.indexmap.proofs.CallerLemmas.{insert_entry-new}
use Rattle.daemon_board.specs.Finding.{shown_entries}
use Rattle.daemon_board.proofs.PlaceLemmas.{absent-key, shown-push}
use Rattle.daemon_board.proofs.changing.put.Goals as goal

pub returns-clause-done : goal.returns-clause-done
returns-clause-done c =
    let es = c.args.daemons.now.entries in
    ap (shown_entries string_bytes)
    (c.in_ok-insert.ensures.entries
    ∙ insert_entry-new _ c.args.daemons.now c.in_ok-key.key c.args.daemon
    (subst (λ b. lookup (λ k. bytes_eq b (string_bytes k)) es ≡ None) (sym c.in_ok-key.ensures.ok)
    (absent-key string_bytes c.args.id.now es c.requires)))
    ∙ shown-push string_bytes es c.in_ok-key.key c.args.daemon
    ∙ ap (λ b. shown_entries string_bytes es ++ record { id = b; daemon = c.args.daemon } ∷ [])
    c.in_ok-key.ensures.ok

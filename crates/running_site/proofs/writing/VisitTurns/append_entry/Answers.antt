use Rattle.std.proofs.Common.{◌≡◌, ◌-◌, ◌∷◌, [], sym, ap, subst, arith, vec_items}
use Rattle.std.specs.Prelude.{None}
use Rattle.topic_book.specs.Cells.{cells_in}
use Rattle.topic_book.specs.States.{IsOpenTo}
use Rattle.exchange_rules.specs.Cells.{book_in, payload_of}
use Rattle.exchange_rules.specs.Primitives.{made}
use Rattle.site_laws.specs.declared.sealing.Sealing.TheVariants as sealing
use Rattle.stream_site.specs.Refusals.{IsUnadded, StaysWithEntry}
use Rattle.turn_table.specs.Calls.{known}
use Rattle.turn_table.specs.Histories.{at}
use Rattle.running_site.specs.Passes.{writer_in}
use Rattle.running_site.specs.Seals.{LeavesWriter}
use Rattle.running_site.specs.Visits.{HasTurn}
use Rattle.running_site.proofs.AppendLemmas.{entry-for-book, stays-entry, unadded-is}
use Rattle.running_site.proofs.SealLemmas.{entry-signed, made_by-made, sealed-made}
use Rattle.running_site.proofs.writing.VisitTurns.append_entry.Goals as goal

pub append-requires-clause-holds : goal.append-requires-clause-holds
append-requires-clause-holds g c =
    let v = c.args.self.now in
    let sized = v.site.now.sized in
    let at_book : cells_in v.site.now.names ≡ c.cells-cell.result - 1 =
    omega (arith, c.cells-cell.ensures, sized) in
    subst (HasTurn v.turn) at_book c.requires.holds

pub append-requires-clause-allowed : goal.append-requires-clause-allowed
append-requires-clause-allowed g c =
    let v = c.args.self.now in
    let sized = v.site.now.sized in
    (omega (arith, c.cells-cell.ensures, sized), c.requires.allowed)

pub returns-in-Ok-clause-ok : goal.returns-in-Ok-clause-ok
returns-in-Ok-clause-ok g c =
    let v = c.args.self.now in
    let w = c.append.new.self in
    let sized = v.site.now.sized in
    let at_book : c.cells-cell.result - 1 ≡ cells_in v.site.now.names =
    omega (arith, c.cells-cell.ensures, sized) in
    subst (λ n. writer_in (known w.pass) w.marks.items w.own.items
    ≡ made (writer_in (known v.pass) v.marks.items v.own.items) n
    (payload_of c.args.entry ∷ [])) at_book
    (subst (λ l. writer_in (known w.pass) l w.own.items
    ≡ made (writer_in (known v.pass) v.marks.items v.own.items) (c.cells-cell.result - 1)
    (payload_of c.args.entry ∷ [])) (sym (ap vec_items c.append.ensures.marks))
    (sealed-made (known v.pass) (known w.pass) v.marks.items v.own.items w.own.items
    (c.cells-cell.result - 1) (sealing.Book c.args.entry) (payload_of c.args.entry ∷ [])
    c.in-Ok.ensures.ok
    (entry-signed v.site.now.names (known v.pass).number (known v.pass).seen c.args.entry
    c.requires.allowed)))

pub returns-in-Ok-clause-opened : goal.returns-in-Ok-clause-opened
returns-in-Ok-clause-opened g c =
    let v = c.args.self.now in
    let sized = v.site.now.sized in
    let at_book : c.cells-cell.result - 1 ≡ cells_in v.site.now.names =
    omega (arith, c.cells-cell.ensures, sized) in
    subst (λ n. IsOpenTo (book_in (at (known v.pass).seen n)) c.args.entry) at_book
    c.in-Ok.ensures.fits

pub returns-in-Ok-clause-holds : goal.returns-in-Ok-clause-holds
returns-in-Ok-clause-holds g c =
    let v = c.args.self.now in
    let sized = v.site.now.sized in
    let at_book : c.cells-cell.result - 1 ≡ cells_in v.site.now.names =
    omega (arith, c.cells-cell.ensures, sized) in
    subst (HasTurn c.append.new.self.turn) at_book c.in-Ok.ensures.holds

pub unsealed_entry-requires : goal.unsealed_entry-requires
unsealed_entry-requires g c =
    let v = c.args.self.now in
    entry-for-book v.site.now.limit (at (known v.pass).seen (c.cells-cell.result - 1)) c.args.entry
    c.in-Err.refusal c.in-Err.ensures.cause

pub returns-in-Err-clause-turn : goal.returns-in-Err-clause-turn
returns-in-Err-clause-turn g c =
    let v = c.args.self.now in
    let w = c.append.new.self in
    let sized = v.site.now.sized in
    let at_book : c.cells-cell.result - 1 ≡ cells_in v.site.now.names =
    omega (arith, c.cells-cell.ensures, sized) in
    subst (λ n. StaysWithEntry (HasTurn w.turn n) (w.turn ≡ None) c.unsealed_entry.result) at_book
    (stays-entry (HasTurn w.turn (c.cells-cell.result - 1)) (w.turn ≡ None) c.in-Err.refusal
    c.unsealed_entry.result c.unsealed_entry.ensures c.in-Err.ensures.turn)

pub returns-in-Err-clause-err : goal.returns-in-Err-clause-err
returns-in-Err-clause-err g c =
    let v = c.args.self.now in
    let w = c.append.new.self in
    let sized = v.site.now.sized in
    let at_book : c.cells-cell.result - 1 ≡ cells_in v.site.now.names =
    omega (arith, c.cells-cell.ensures, sized) in
    let old = writer_in (known v.pass) v.marks.items v.own.items in
    let new = writer_in (known w.pass) w.marks.items w.own.items in
    let signed = entry-signed v.site.now.names (known v.pass).number (known v.pass).seen
    c.args.entry c.requires.allowed in
    subst (λ n. IsUnadded (IsOpenTo (book_in (at (known v.pass).seen n)) c.args.entry)
    (book_in (at (known v.pass).seen n)) c.args.entry old
    (made old n (payload_of c.args.entry ∷ [])) n new c.unsealed_entry.result) at_book
    (unadded-is v.site.now.limit (at (known v.pass).seen (c.cells-cell.result - 1)) c.args.entry
    old (made old (c.cells-cell.result - 1) (payload_of c.args.entry ∷ []))
    (c.cells-cell.result - 1) new c.in-Err.refusal c.unsealed_entry.result
    c.unsealed_entry.ensures c.in-Err.ensures.cause
    (subst (λ after. LeavesWriter old after (c.cells-cell.result - 1) 0 new c.in-Err.refusal)
    (made_by-made (known v.pass) v.marks.items v.own.items (c.cells-cell.result - 1)
    (sealing.Book c.args.entry) (payload_of c.args.entry ∷ []) signed) c.in-Err.ensures.err))

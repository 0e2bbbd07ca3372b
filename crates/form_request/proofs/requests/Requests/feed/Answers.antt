use Rattle.std.proofs.Common.{ℕ, List, drop, ap, sym, ◌∙◌}
use Rattle.form_request.specs.Streams.{Held, fed}
use Rattle.form_request.proofs.TurnLemmas.{held_fed, fed_open}
use Rattle.form_request.proofs.requests.Requests.feed.Goals as goal

pub returns-clause-ok : goal.returns-clause-ok
returns-clause-ok c =
    let inside = c.self.inside in
    let piece = c.args.piece.now in
    let left = held_fed inside.buf.items c.drop_taken.new.buf.items c.extend_from_slice.new.self.items
    piece inside.from c.in_ok-self-inside.field-0 c.in_ok-self-inside.ensures.within
    c.in_ok-self-inside.ensures.ok c.in_ok-extend_from_slice.ensures.items in
    ap (λ (bytes : List ℕ). let held : Held = record { stage = inside.stage; bytes = bytes } in held) left
    ∙ fed_open inside.stage (drop inside.from inside.buf.items) piece
    (sym c.is_over.ensures ∙ c.if-is_over.false)
    ∙ ap (λ (held : Held). fed held piece) c.self.view_is

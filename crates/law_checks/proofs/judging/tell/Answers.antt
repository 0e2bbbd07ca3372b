use Rattle.std.proofs.Common.{◌≡◌, ◌∷◌, [], ◌++◌, ℕ, cond, refl, sym, ap, ◌∙◌}
use Rattle.tuple_values.specs.Document.{ByteList}
use Rattle.shard_versions.specs.declared.entry.Kind.TheVariants.{Put, Del, Sent, Mark}
use Rattle.shard_versions.specs.declared.entry.Entry.{Entry}
use Rattle.shard_versions.specs.Histories.{History}
use Rattle.shard_versions.specs.Indexes.{greater}
use Rattle.law_checks.specs.Numbers.{number_at, same_place}
use Rattle.law_checks.specs.Judged.{AreSentUpTo}
use Rattle.law_checks.proofs.SentLemmas.{on_ok, told-sent, told-plain}
use Rattle.law_checks.proofs.judging.tell.Goals as goal

pub returns-in-Sent : goal.returns-in-Sent
returns-in-Sent c =
    let old = c.args.sent.now in
    let new = c.raise.new.self in
    on_ok
    ((a b : ByteList) (n : ℕ) → number_at new a b n
    ≡ cond (same_place c.as_str.result.now c.id_of.result.now 0 a b n) (greater c.in-Sent.version (number_at old a b n)) (number_at old a b n))
    ((h : History) (e : Entry) → e.kind ≡ c.args.kind.now → AreSentUpTo old h → AreSentUpTo new (h ++ e ∷ []))
    (λ up h e is sent. told-sent old new c.as_str.result.now c.id_of.result.now c.in-Sent.version c.in-Sent.document c.id_of.ensures up h e
    (is ∙ (c.in-Sent.is ∙ ap (λ s. Sent s c.in-Sent.version c.in-Sent.document) (sym c.as_str.ensures))) sent)
    c.raise.result c.raise.ensures

pub returns-in-Put : goal.returns-in-Put
returns-in-Put c = λ h e is sent. told-plain c.args.sent.now (Put c.in-Put.field-0) refl h e (is ∙ c.in-Put.is) sent

pub returns-in-Del : goal.returns-in-Del
returns-in-Del c = λ h e is sent. told-plain c.args.sent.now (Del c.in-Del.field-0) refl h e (is ∙ c.in-Del.is) sent

pub returns-in-Mark : goal.returns-in-Mark
returns-in-Mark c = λ h e is sent. told-plain c.args.sent.now Mark refl h e (is ∙ c.in-Mark.is) sent

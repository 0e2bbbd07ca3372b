use Rattle.std.proofs.Common.{◌≡◌, ◌-◌, map, List, Bor, Some, ap, ◌∙◌}
use Rattle.std.specs.List.{slice_get}
use Rattle.shard_versions.specs.declared.entry.Entry.{Entry}
use Rattle.law_checks.specs.Written.{writes_in}
use Rattle.law_checks.proofs.GotLemmas.{got-at, got-past}
use Rattle.law_checks.proofs.WrittenLemmas.{found-some, found-none, found-zero}
use Rattle.law_checks.proofs.written.Written.document.Goals as goal

pub returns-then-version-eq0 : goal.returns-then-version-eq0
returns-then-version-eq0 c = found-zero c.args.id.now c.args.self.now c.args.version c.if-version-eq0.true

pub returns-in-Some : goal.returns-in-Some
returns-in-Some c =
    let view : c.self.inside.history.now ≡ c.args.self.now = cc in
    let are : map (λ e. e.now) c.self.inside.writes.items ≡ writes_in c.args.self.now = c.self.invariant.writes ∙ ap writes_in view in
    let h = c.in-Some.ensures.lookup in
    let got : Some c.in-Some.entry.now ≡ slice_get c.self.inside.writes.items (c.args.version - 1) =
    got-at c.deref.result.now (c.args.version - 1) c.in-Some.entry.now h.3.0 (h.3.1 c.in-Some.entry.now)
    ∙ ap (λ (xs : List (Bor Entry)). slice_get xs (c.args.version - 1)) c.deref.ensures.value in
    c.left_under.ensures
    ∙ found-some c.args.id.now c.args.self.now c.self.inside.writes.items are c.args.version
    c.in-Some.entry.now c.if-version-eq0.false got

pub returns-in-None : goal.returns-in-None
returns-in-None c =
    let view : c.self.inside.history.now ≡ c.args.self.now = cc in
    let are : map (λ e. e.now) c.self.inside.writes.items ≡ writes_in c.args.self.now = c.self.invariant.writes ∙ ap writes_in view in
    let h = c.in-None.ensures.lookup in
    found-none c.args.id.now c.args.self.now c.self.inside.writes.items are c.args.version
    c.if-version-eq0.false
    (got-past c.deref.result.now (c.args.version - 1) h.3 ∙ ap (λ (xs : List (Bor Entry)). slice_get xs (c.args.version - 1)) c.deref.ensures.value)

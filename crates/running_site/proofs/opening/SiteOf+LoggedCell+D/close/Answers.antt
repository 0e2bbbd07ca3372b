use Rattle.std.proofs.Common.{◌≡◌, ◌≢◌, ℕ, ◌+◌, List, map, length, sym, ap, ◌∙◌, subst, arith}
use Rattle.std.specs.Prelude.{All, Contains}
use Rattle.std.proofs.lemmas.List.{length-map}
use Rattle.tuple_values.specs.declared.names.NameShards.{NameShards}
use Rattle.topic_book.specs.Cells.{cells_in}
use Rattle.once_core.specs.Law.{IsLaw}
use Rattle.once_core.specs.declared.world.Histories.{Histories}
use Rattle.exchange_rules.specs.Cells.{Log, author_of}
use Rattle.site_laws.specs.SiteCells.{histories_in}
use Rattle.stream_site.specs.Logs.{logs_in}
use Rattle.turn_table.specs.Calls.{known, table_of}
use Rattle.turn_table.specs.Histories.{GrewBy}
use Rattle.turn_table.specs.Knowledge.{IsFree}
use Rattle.logged_cells.specs.Cells.{about_in, log_of_cell}
use Rattle.running_site.specs.Passes.{layout_in, number_of, numbers_to, writer_of, TablePass}
use Rattle.running_site.specs.Records.{passes_in}
use Rattle.running_site.proofs.CloseLemmas.{all-inside, all-of, closed-counted, closed-law, closed-logs, closed-signed, ends-in, ok-also, opened-by, seen-all, some-pass}
use Rattle.running_site.proofs.opening.SiteOf+LoggedCell+D.close.Goals as goal

pub close-requires-clause-some : goal.close-requires-clause-some
close-requires-clause-some g c =
    let self = c.args.self in
    let are = all-inside self.table.board.shared.table_id
    self.table.board.shared.key (layout_in self.names self.limit)
    c.args.passes c.requires.own in
    let inside = c.in_ok-inside.ensures in
    let some = some-pass self.passes (map number_of c.args.passes) self.some c.requires.all in
    let a : length (map number_of c.args.passes) ≡ length (passes_in c.args.passes) =
    ap length (sym are.numbers) ∙ simp length-map in
    let b = ap length inside in
    omega (arith, some, a, b)

pub close-requires-clause-own : goal.close-requires-clause-own
close-requires-clause-own g c =
    let self = c.args.self in
    let table = self.table.board.shared.table_id in
    let are = all-inside table self.table.board.shared.key (layout_in self.names self.limit) c.args.passes c.requires.own in
    subst (All (λ (p : TablePass g.row.D.Denot). table_of p ≡ table)) (sym c.in_ok-inside.ensures)
    (all-of (λ (p : TablePass g.row.D.Denot). table_of p ≡ table) (passes_in c.args.passes) are.own)

pub close-requires-clause-free : goal.close-requires-clause-free
close-requires-clause-free g c =
    let self = c.args.self in
    let are = all-inside self.table.board.shared.table_id
    self.table.board.shared.key (layout_in self.names self.limit)
    c.args.passes c.requires.own in
    subst (All (λ (p : TablePass g.row.D.Denot). IsFree (known p))) (sym c.in_ok-inside.ensures)
    (all-of (λ (p : TablePass g.row.D.Denot). IsFree (known p)) (passes_in c.args.passes) are.free)

pub close-requires-clause-all : goal.close-requires-clause-all
close-requires-clause-all g c =
    let self = c.args.self in
    let are = all-inside self.table.board.shared.table_id
    self.table.board.shared.key (layout_in self.names self.limit)
    c.args.passes c.requires.own in
    let P : List ℕ → List ℕ → Type 0 = λ numbers ns. All (λ n. Contains numbers n) ns in
    subst (P (map (λ (p : TablePass g.row.D.Denot). (known p).number) c.in_ok-inside.inside)) (sym self.numbered)
    (subst (λ ps. P (map (λ (p : TablePass g.row.D.Denot). (known p).number) ps) (numbers_to self.passes))
    (sym c.in_ok-inside.ensures)
    (subst (λ numbers. P numbers (numbers_to self.passes)) (sym are.numbers) c.requires.all))

pub returns : goal.returns
returns g c =
    let self = c.args.self in
    let key = self.table.board.shared.key in
    let cells = c.close.result in
    let passes = c.args.passes in
    let some = some-pass self.passes (map number_of passes) self.some c.requires.all in
    let long : length (map number_of passes) ≡ length passes = simp length-map in
    let opened = opened-by self.table.board.shared.table_id key
    (layout_in self.names self.limit) passes (omega (arith, some, long)) c.requires.own in
    let Ends : Histories → Type 0 = λ hs. (ns : List NameShards)
    → length cells ≡ cells_in ns + 1 → hs ≡ histories_in ns (map log_of_cell cells) in
    let Seen : List Log → Type 0 = λ logs. All (λ pass.
    GrewBy (λ entry. author_of entry ≢ number_of pass) (writer_of pass).seen logs) passes in
    let Signed : List Log → Type 0 = λ logs. All (All (λ entry.
    Contains (numbers_to self.passes) (author_of entry))) logs in
    let ends = ends-in c.into_histories.result c.in_ok-parts.parts.values cells
    c.in_ok-parts.ensures.values c.into_histories.ensures in
    let seen : Seen (map log_of_cell cells) =
    seen-all self.table.board.shared.table_id key (layout_in self.names self.limit)
    (map log_of_cell cells) passes c.requires.own
    (subst (All (λ (p : TablePass g.row.D.Denot). GrewBy (λ entry. author_of entry ≢ (known p).number)
    (known p).seen (map log_of_cell cells))) c.in_ok-inside.ensures c.close.ensures.seen) in
    record {
      law = ok-also Ends (λ hs. IsLaw self.names hs) c.into_histories.result
          (λ hs is. closed-law self.names self.limit self.passes cells hs
          (map about_in key.cells.value) (map log_of_cell key.cells.value) key.numbers.value opened.told
          opened.empty self.numbered c.close.ensures.lawful c.close.ensures.about is) ends;
      counted = ok-also Ends (λ hs. length hs.shards ≡ cells_in self.names)
          c.into_histories.result (λ hs is. closed-counted self.names self.limit self.passes cells hs
          (map about_in key.cells.value) (map log_of_cell key.cells.value) key.numbers.value opened.told
          opened.empty self.numbered c.close.ensures.lawful c.close.ensures.about is) ends;
      seen = ok-also Ends (λ hs. Seen (logs_in hs.shards hs.book)) c.into_histories.result
          (λ hs is. subst Seen (sym (closed-logs self.names self.limit self.passes cells hs
          (map about_in key.cells.value) (map log_of_cell key.cells.value) key.numbers.value opened.told
          opened.empty self.numbered c.close.ensures.lawful c.close.ensures.about is)) seen) ends;
      signed = ok-also Ends (λ hs. Signed (logs_in hs.shards hs.book)) c.into_histories.result
          (λ hs is. closed-signed self.names self.limit self.passes cells hs
          (map about_in key.cells.value) (map log_of_cell key.cells.value) key.numbers.value opened.told
          opened.empty self.numbered c.close.ensures.lawful c.close.ensures.about is c.close.ensures.written) ends;
    }

use Rattle.std.proofs.Common.{Some, refl, sym, ◌∙◌, subst}
use Rattle.running_site.specs.Visits.{IsVisit}
use Rattle.turn_table.specs.Calls.{fault_word, known, turn_faults}
use Rattle.turn_table.proofs.KnowledgeLemmas.{has_risen-rose}
use Rattle.logged_cells.specs.Cells.{faults_of}
use Rattle.running_site.proofs.SealLemmas.{broken-visit, noted-once}
use Rattle.running_site.proofs.sealing.note_fault.Goals as goal

pub note-requires-clause-turn : goal.note-requires-clause-turn
note-requires-clause-turn g c = (c.requires.visit.holding c.args.turn.now refl).in_hand

pub returns-clause-known : goal.returns-clause-known
returns-clause-known g c =
    let t = c.args.turn.now in
    c.note.ensures.noted ∙ noted-once t.cell (fault_word c.args.pass.now t.cell)
    (turn_faults (faults_of g.D.Disk.faults) t) (known c.args.pass.now)
    (has_risen-rose (fault_word c.args.pass.now t.cell) (turn_faults (faults_of g.D.Disk.faults) t)
    c.requires.rose)

pub returns-clause-visit : goal.returns-clause-visit
returns-clause-visit g c =
    let site = c.args.site.now in
    let t = c.args.turn.now in
    subst (λ u. IsVisit site.names site.limit (known c.note.new.pass) (Some u))
    (sym c.note.ensures.turn)
    (broken-visit site.names site.limit (known c.args.pass.now) (known c.note.new.pass) t.cell
    (Some t) (c.note.ensures.noted ∙ noted-once t.cell (fault_word c.args.pass.now t.cell)
    (turn_faults (faults_of g.D.Disk.faults) t) (known c.args.pass.now)
    (has_risen-rose (fault_word c.args.pass.now t.cell) (turn_faults (faults_of g.D.Disk.faults) t)
    c.requires.rose)) c.requires.visit)

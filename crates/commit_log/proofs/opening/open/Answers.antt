use Rattle.std.proofs.Common.{◌≡◌, ℕ, List, ◌∙◌, ap, subst}
use Rattle.disk_edge.specs.Disk.{Only}
use Rattle.commit_log.specs.Frames.{end_of}
use Rattle.commit_log.specs.Steps.{bodies_of, Step}
use Rattle.commit_log.specs.Files.{IsFileOf}
use Rattle.commit_log.specs.Disks.{HasAll}
use Rattle.commit_log.specs.Stops.{KeepsSteps}
use Rattle.commit_log.proofs.StepLemmas.{file-one}
use Rattle.commit_log.proofs.StopLemmas.{adds-more, adds-weaker, if-told}
use Rattle.commit_log.proofs.opening.open.Goals as goal

pub returns-in_err-trim-clause-any_moment : goal.returns-in_err-trim-clause-any_moment
returns-in_err-trim-clause-any_moment g c = λ file steps is f leaves.
    let old = c.args.disk.now in
    let read = c.in-Ok-read_steps.found.steps in
    let P = KeepsSteps steps in
    let bytes = if-told (g.D.Disk.seen old) (λ x. (c.in-Ok.bytes.items ≡ x) × Only x (g.D.Disk.may_leave c.load.new.disk)) file c.in-Ok.ensures.bytes is in
    let found : IsFileOf read file = subst (λ (l : List ℕ). IsFileOf read l) (c.deref.ensures.value ∙ bytes.0) c.in-Ok-read_steps.ensures.found in
    let end : c.in-Ok-read_steps.found.end ≡ end_of (bodies_of steps) = c.in-Ok-read_steps.ensures.end ∙ ap (λ (l : List Step). end_of (bodies_of l)) (file-one file read steps found f) in
    let now : HasAll g.D.Disk.seen g.D.Disk.may_leave P c.load.new.disk = record { file = file; told = c.load.ensures.left.told ∙ is; is = (f.rest, f.is); leaves = λ d left. leaves d (c.load.ensures.left.now d left) } in
    let first = adds-weaker g.D.Disk.moment g.D.Disk.left_since _ _ (g.D.Disk.may_leave old) P c.load.ensures.left.any_moment leaves in
    adds-more g.D.Disk.moment g.D.Disk.left_since _ _ _ P first (c.trim.ensures.any_moment (bodies_of steps) end now)

pub returns-clause-any_moment : goal.returns-clause-any_moment
returns-clause-any_moment g c = λ file steps is f leaves.
    let old = c.args.disk.now in
    let read = c.in-Ok-read_steps.found.steps in
    let P = KeepsSteps steps in
    let bytes = if-told (g.D.Disk.seen old) (λ x. (c.in-Ok.bytes.items ≡ x) × Only x (g.D.Disk.may_leave c.load.new.disk)) file c.in-Ok.ensures.bytes is in
    let found : IsFileOf read file = subst (λ (l : List ℕ). IsFileOf read l) (c.deref.ensures.value ∙ bytes.0) c.in-Ok-read_steps.ensures.found in
    let end : c.in-Ok-read_steps.found.end ≡ end_of (bodies_of steps) = c.in-Ok-read_steps.ensures.end ∙ ap (λ (l : List Step). end_of (bodies_of l)) (file-one file read steps found f) in
    let now : HasAll g.D.Disk.seen g.D.Disk.may_leave P c.load.new.disk = record { file = file; told = c.load.ensures.left.told ∙ is; is = (f.rest, f.is); leaves = λ d left. leaves d (c.load.ensures.left.now d left) } in
    let first = adds-weaker g.D.Disk.moment g.D.Disk.left_since _ _ (g.D.Disk.may_leave old) P c.load.ensures.left.any_moment leaves in
    adds-more g.D.Disk.moment g.D.Disk.left_since _ _ _ P first (c.trim.ensures.any_moment (bodies_of steps) end now)

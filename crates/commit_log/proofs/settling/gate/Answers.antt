use Rattle.std.proofs.Common.{◌≡◌, ℕ, List, [], ◌∷◌, true, false, take, drop, inl, inr, sym, ◌∙◌, ap}
use Rattle.std.proofs.lemmas.Bool.{false≢true}
use Rattle.std.specs.Prelude.{Option, Some, nat_eq, slice_index_or}
use Rattle.disk_edge.specs.Disk.{Only}
use Rattle.commit_log.specs.Frames.{end_of}
use Rattle.commit_log.specs.Disks.{GateSays, IsGated}
use Rattle.commit_log.proofs.StopLemmas.{gate-byte, if-told}
use Rattle.commit_log.proofs.settling.gate.Goals as goal

zero-one : (room : List ℕ) → room ≡ 0 ∷ [] → nat_eq (slice_index_or room 0 0) 1 ≡ true → ⊥
zero-one room is says =
    let no : false ≡ true = sym (ap (λ (l : List ℕ). nat_eq (slice_index_or l 0 0) 1) is) ∙ says in
    false≢true no

one-zero : (room : List ℕ) → room ≡ 1 ∷ [] → nat_eq (slice_index_or room 0 0) 1 ≡ false → ⊥
one-zero room is says =
    let no : true ≡ false = sym (ap (λ (l : List ℕ). nat_eq (slice_index_or l 0 0) 1) is) ∙ says in
    false≢true (sym no)

says : {D : Type 0} (seen : D → Option (List ℕ)) (may_leave : D → List ℕ → Type 0) (bodies : List (List ℕ)) (body file room : List ℕ) (end : ℕ) (disk : D) → end ≡ end_of bodies → seen disk ≡ Some file → Only file (may_leave disk) → room ≡ take 1 (drop end file) → IsGated bodies body file
    → GateSays seen may_leave bodies body disk (nat_eq (slice_index_or room 0 0) 1)
says seen may_leave bodies body file room end disk e told only is half = elim (gate-byte bodies body file room end e is half) [
  | inl low ↦ (
    λ yes. absurd (zero-one room low.0 yes),
    λ no. (low.1.0, record { told = told ∙ ap Some low.1.1; durable = λ d left. only d left ∙ low.1.1 }),
  )
  | inr high ↦ (
    λ yes. record { told = told ∙ ap Some high.1; durable = λ d left. only d left ∙ high.1 },
    λ no. absurd (one-zero room high.0 no),
  )
]

pub returns-clause-says : goal.returns-clause-says
returns-clause-says g c = λ bodies body e all.
    let told = all.told in
    let only : Only all.file (g.D.Disk.may_leave c.sync.new.self) = if-told _ _ _ c.in_ok-sync.ensures.durable told in
    let bytes = if-told _ _ _ c.in_ok-read.ensures.bytes (c.sync.ensures.seen ∙ told) in
    says g.D.Disk.seen g.D.Disk.may_leave bodies body all.file c.read.new.room c.args.end c.read.new.self e (c.read.ensures.seen ∙ c.sync.ensures.seen ∙ told) (λ d left. only d (c.read.ensures.stop d left)) bytes all.is

-- What a pass has seen of each shard's cell belongs there.
use Rattle.std.proofs.Common.{◌≡◌, ℕ, zero, suc, ◌<◌, ◌&&◌, Bool, true, false, List, [], ◌∷◌, ◌++◌, length, get_or, set, replicate, refl, sym, ap, ◌∙◌, subst, inl, inr}
use Rattle.std.specs.Prelude.{Some}
use Rattle.std.specs.List.{AllByRecursion, list_all}
use Rattle.std.proofs.lemmas.Bool.{cases_eq}
use Rattle.std.proofs.lemmas.List.{get_or-set_same, get_or-set_other}
use Rattle.tuple_values.specs.declared.names.NameShards.{NameShards}
use Rattle.shard_versions.specs.Deliveries.{admitted, mark_by, marked}
use Rattle.shard_versions.specs.Fitness.{is_fit, IsFit}
use Rattle.shard_versions.specs.Histories.{History}
use Rattle.shard_versions.specs.declared.entry.Entry.{Entry}
use Rattle.topic_book.specs.Cells.{Place, cells_in, place_of}
use Rattle.once_core.specs.Law.{IsFitAt, IsFitCell}
use Rattle.exchange_rules.specs.Cells.{Log, history_in}
use Rattle.exchange_rules.proofs.StepLemmas.{history_in-log_of}
use Rattle.site_laws.specs.Sealings.{entries_of, MayAppend}
use Rattle.site_laws.specs.SiteCells.{IsLawful}
use Rattle.site_laws.specs.declared.sealing.Sealing.{Sealing}
use Rattle.site_laws.specs.declared.sealing.Sealing.TheVariants as sealing
use Rattle.site_laws.proofs.CellLemmas.{history-append, shard-at}
use Rattle.site_laws.proofs.WriteLemmas.{mark-fit, place-within}
use Rattle.stream_site.proofs.FitLemmas.{admitted-fit, more-fit, none-fit}
use Rattle.running_site.specs.Passes.{AreSeenFit}

-- tests of two parts
test-two : (a b : Bool) → (a && b) ≡ true → (a ≡ true) × (b ≡ true)
test-two true b e = (refl, e)
test-two false b e = absurd (cc)

-- entries that pass a test, one by one
each-passes : (p : Entry → Bool) (h : History) → list_all p h ≡ true
    → AllByRecursion (λ e. p e ≡ true) h
each-passes p [] e = tt
each-passes p (x ∷ h) e =
    let both = test-two (p x) (list_all p h) e in (both.0, each-passes p h both.1)

-- and all at once
all-pass : (p : Entry → Bool) (h : History) → AllByRecursion (λ e. p e ≡ true) h
    → list_all p h ≡ true
all-pass p [] a = refl
all-pass p (x ∷ h) a = ap (λ b. b && list_all p h) a.0 ∙ all-pass p h a.1

-- entries belong in a shard's cell where they pass its test
pub fit-of : (names : List NameShards) (seen : List Log) (cell : ℕ) → AreSeenFit names seen
    → cell < cells_in names → IsFitCell names cell (history_in (get_or seen cell []))
unfolding IsFitCell IsFit
fit-of names seen cell f lt =
    let p = place-within names cell lt in
    let h = history_in (get_or seen cell []) in
    subst (λ o. IsFitAt o h) (sym p.1)
    (each-passes (λ e. is_fit p.0.shards p.0.shard e.kind) h (f cell p.0 lt p.1))

-- and pass it where they belong there
passes-at : (place : Place) (h : History) → IsFitAt (Some place) h
    → list_all (λ e. is_fit place.shards place.shard e.kind) h ≡ true
unfolding IsFit
passes-at place h a = all-pass (λ e. is_fit place.shards place.shard e.kind) h a

pub fit-passes : (names : List NameShards) (cell : ℕ) (place : Place) (h : History)
    → place_of names cell ≡ Some place → IsFitCell names cell h
    → list_all (λ e. is_fit place.shards place.shard e.kind) h ≡ true
unfolding IsFitCell
fit-passes names cell place h e f = passes-at place h (subst (λ o. IsFitAt o h) e f)

-- what was seen of no entry
pub fresh-fit : (names : List NameShards) (count : ℕ) → AreSeenFit names (replicate count [])
fresh-fit names count cell place lt e =
    subst (λ (l : Log). list_all (λ e. is_fit place.shards place.shard e.kind) (history_in l)
    ≡ true) (sym (none-of count cell)) refl
  where
    none-of : (count cell : ℕ) → get_or (replicate count (let l : Log = [] in l)) cell [] ≡ []
    none-of zero cell = refl
    none-of (suc count) zero = refl
    none-of (suc count) (suc cell) = none-of count cell

-- where a cell is seen anew
pub set-fit : (names : List NameShards) (seen : List Log) (cell : ℕ) (log : Log)
    → cell < length seen → AreSeenFit names seen
    → (cell < cells_in names → IsFitCell names cell (history_in log))
    → AreSeenFit names (set seen cell log)
set-fit names seen cell log within f new c place lt e = elim (cases_eq c cell) [
  | inl same ↦
      let here : IsFitCell names c (history_in log) =
      subst (λ n. IsFitCell names n (history_in log)) (sym same)
      (new (subst (λ n. n < cells_in names) same lt)) in
      let log_is : get_or (set seen cell log) c [] ≡ log =
      ap (λ n. get_or (set seen cell log) n []) same ∙ get_or-set_same seen cell log [] within in
      subst (λ l. list_all (λ e. is_fit place.shards place.shard e.kind) (history_in l) ≡ true)
      (sym log_is) (fit-passes names c place (history_in log) e here)
  | inr apart ↦
      subst (λ l. list_all (λ e. is_fit place.shards place.shard e.kind) (history_in l) ≡ true)
      (sym (get_or-set_other seen cell c log [] apart)) (f c place lt e)
]

-- what stands where the law holds belongs there
pub lawful-fit : (names : List NameShards) (logs : List Log) (cell : ℕ) (log : Log)
    → IsLawful names logs → log ≡ get_or logs cell [] → cell < cells_in names
    → IsFitCell names cell (history_in log)
lawful-fit names logs cell log law is lt =
    subst (IsFitCell names cell)
    (shard-at (cells_in names) logs cell lt ∙ ap history_in (sym is)) (law.law.fit cell)

-- what is admitted may stand where the step may, with a Mark
marked-fit : (names : List NameShards) (me cell : ℕ) (es : List Entry) → cell < cells_in names
    → IsFitCell names cell es → IsFitCell names cell (marked me es)
marked-fit names me cell [] lt f = none-fit names cell
marked-fit names me cell (e ∷ es) lt f =
    more-fit names cell (e ∷ es) (mark_by me ∷ []) f (mark-fit names me cell lt).fit

-- what may be appended to a shard's cell belongs there
pub sealing-fit : (names : List NameShards) (me : ℕ) (seen : List Log) (cell : ℕ) (x : Sealing)
    → MayAppend names me seen cell x → cell < cells_in names
    → IsFitCell names cell (history_in (entries_of x))
sealing-fit names me seen cell (sealing.Book e) may lt = none-fit names cell
sealing-fit names me seen cell (sealing.Shard step) may lt =
    subst (IsFitCell names cell) (sym (history_in-log_of step)) (elim may.1 [
      | inl w ↦ w.step_is.fit
      | inr a ↦
          let h = history_in (get_or seen cell []) in
          subst (IsFitCell names cell) (sym a.is)
          (marked-fit names me cell (admitted h a.items) lt
          (admitted-fit names cell h a.items a.allowed.step_is.fit))
    ])

-- a pass has seen what belongs there also behind what it appended
pub sealed-fit : (names : List NameShards) (me : ℕ) (seen : List Log) (cell : ℕ) (x : Sealing)
    → AreSeenFit names seen → MayAppend names me seen cell x → cell < length seen
    → AreSeenFit names (set seen cell (get_or seen cell [] ++ entries_of x))
sealed-fit names me seen cell x f may within =
    let log = get_or seen cell [] in
    set-fit names seen cell (log ++ entries_of x) within f (λ lt.
    subst (IsFitCell names cell) (sym (history-append log (entries_of x)))
    (more-fit names cell (history_in log) (history_in (entries_of x))
    (fit-of names seen cell f lt) (sealing-fit names me seen cell x may lt)))

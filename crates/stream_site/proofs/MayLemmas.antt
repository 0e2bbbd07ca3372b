-- What may be appended, step by step.
use Rattle.std.proofs.Common.{◌≡◌, ℕ, ◌<◌, Bool, true, false, List, [], ◌∷◌, ◌++◌, length, get_or, sym, ap, subst, ◌∙◌, arith, length-append, if◌then◌else◌}
use Rattle.std.specs.Prelude.{Result}
use Rattle.std.proofs.lemmas.List.{length-set}
use Rattle.tuple_values.specs.Document.{ByteList}
use Rattle.tuple_values.specs.declared.names.NameShards.{NameShards}
use Rattle.tuple_values.specs.declared.write.Write.{Write}
use Rattle.shard_versions.specs.Deliveries.{mark_by}
use Rattle.shard_versions.specs.declared.entry.Entry.{Entry}
use Rattle.topic_book.specs.Cells.{cells_in, cell_of}
use Rattle.topic_book.specs.Fitness.{shards_of}
use Rattle.exchange_rules.specs.Calls.{Answered, Completed}
use Rattle.exchange_rules.specs.Courses.{Course}
use Rattle.exchange_rules.specs.Following.{Writer}
use Rattle.exchange_rules.specs.Primitives.{LooksAt}
use Rattle.exchange_rules.specs.Rows.{Layout, HasCell}
use Rattle.exchange_rules.specs.Steps.{AreBy, AreStorableWrites, entries_by, routed}
use Rattle.exchange_rules.specs.declared.fault.SiteFault.{SiteFault}
use Rattle.site_laws.specs.Duties.{IsFitStep, MayWrite}
use Rattle.site_laws.proofs.WriteLemmas.{may-write, closed-fit, mark-fit, routed-fit}
use Rattle.stream_site.specs.Shares.{AreShares}
use Rattle.stream_site.specs.Spots.{IsSpot}
use Rattle.stream_site.specs.declared.spot.Spot.{Spot}

-- what may stand at a shard of a collection may where a call stands there
pub fit_here : (l m : Layout) (c : ByteList) (s stand : ℕ) (at : Spot) (step share : List Entry)
    → m ≡ l → IsSpot m.names c s stand at → step ≡ share
    → IsFitStep l.names (cell_of l.names c s) share → IsFitStep m.names at.cell step
fit_here l m c s stand at step share e i g may =
    subst (λ x. IsFitStep m.names x step) (sym i.cell_is)
    (subst (λ (x : Layout). IsFitStep x.names (cell_of x.names c s) step) (sym e)
    (subst (IsFitStep l.names (cell_of l.names c s)) (sym g) may))

-- a cell is there after a look
pub cell_after : (old mid : Writer) (c : ℕ) → c < length old.seen → LooksAt old mid c
    → c < length mid.seen
cell_after old mid c lt l =
    let long = length-set old.seen c (get_or old.seen c [] ++ l.more) in
    subst (λ (w : Writer). c < length w.seen) (sym l.is) (omega (arith, long, lt))

-- the same writer as before the look
pub me_after : (old mid : Writer) (c : ℕ) → LooksAt old mid c → mid.me ≡ old.me
me_after old mid c l = ap (λ (w : Writer). w.me) l.is

-- a step that isn't empty may be written after a look
pub may_after : (l m : Layout) (old mid : Writer) (c : ℕ) (step : List Entry) → m ≡ l
    → HasCell l old c → LooksAt old mid c → 0 < length step → AreBy old.me step
    → IsFitStep l.names c step → MayWrite m.names mid.me mid.seen c step
may_after l m old mid c step e h look filled own fit =
    subst (λ (x : Layout). MayWrite x.names mid.me mid.seen c step) (sym e)
    (may-write l.names mid.me mid.seen c step h.in_range (cell_after old mid c h.seen look) filled
    (subst (λ n. AreBy n step) (sym (me_after old mid c look)) own) fit)

-- a Mark may be written
pub may_mark : (l : Layout) (w : Writer) (c n : ℕ) (step : List Entry) → HasCell l w c
    → n ≡ w.me → step ≡ mark_by n ∷ [] → MayWrite l.names w.me w.seen c step
may_mark l w c n step h e f =
    subst (MayWrite l.names w.me w.seen c) (sym f)
    (may-write l.names w.me w.seen c (mark_by n ∷ []) h.in_range h.seen (omega arith) (e, tt)
    (mark-fit l.names n c h.in_range))

-- a closed step may stand where it may
pub fit_closed : (names : List NameShards) (cell me : ℕ) (commit : Bool) (step closed : List Entry)
    → cell < cells_in names → IsFitStep names cell step
    → closed ≡ (if commit then step ++ mark_by me ∷ [] else step) → IsFitStep names cell closed
fit_closed names cell me true step closed lt may e =
    subst (IsFitStep names cell) (sym e) (closed-fit names me cell step lt may)
fit_closed names cell me false step closed lt may e = subst (IsFitStep names cell) (sym e) may

-- a closed step isn't empty where the step isn't
pub filled_closed : (me : ℕ) (commit : Bool) (step closed : List Entry) → 0 < length step
    → closed ≡ (if commit then step ++ mark_by me ∷ [] else step) → 0 < length closed
filled_closed me true step closed lt e =
    subst (λ (x : List Entry). 0 < length x) (sym e)
    (let long = length-append step (mark_by me ∷ []) in omega (arith, long, lt))
filled_closed me false step closed lt e =
    subst (λ (x : List Entry). 0 < length x) (sym e) lt

-- the shares of the writes may stand at their shards
pub fit_shares : (names : List NameShards) (c : ByteList) (me n : ℕ) (ws : List Write)
    (steps : List (List Entry)) → AreStorableWrites ws → n ≡ shards_of names c
    → AreShares me n ws steps → (shard : ℕ) → shard < shards_of names c
    → IsFitStep names (cell_of names c shard) (get_or steps shard [])
fit_shares names c me n ws steps s e shares shard lt =
    let here : get_or steps shard [] ≡ entries_by me (routed (shards_of names c) shard ws) =
    shares.shares shard (subst (λ k. shard < k) (sym e) lt)
    ∙ ap (λ k. entries_by me (routed k shard ws)) e in
    subst (IsFitStep names (cell_of names c shard)) (sym here)
    (routed-fit names me c shard ws lt s)

-- a call to which its writer came as it was
pub answered_from : {A : Type 0} (start old new : Writer) (l k : Layout)
    (p : Layout → Course (Result A SiteFault)) (r : Result A SiteFault) → old ≡ start → k ≡ l
    → Answered old new (p k) r → Answered start new (p l) r
answered_from start old new l k p r s d a =
    subst (λ (w : Writer). Answered w new (p l) r) s
    (subst (λ (x : Layout). Answered old new (p x) r) d a)

-- the same of one that only looks
pub completed_from : {A : Type 0} (start old new : Writer) (l k : Layout)
    (p : Layout → Course A) (r : Result A SiteFault) → old ≡ start → k ≡ l
    → Completed old new (p k) r → Completed start new (p l) r
completed_from start old new l k p r s d a =
    subst (λ (w : Writer). Completed w new (p l) r) s
    (subst (λ (x : Layout). Completed old new (p x) r) d a)

-- Courses that look first, and where their steps stand.
use Rattle.std.proofs.Common.{◌≡◌, ℕ, zero, suc, ◌+◌, ◌<◌, Bool, true, false, List, [], ◌∷◌, ◌++◌, length, get_or, set, refl, sym, ap, ◌∙◌, subst, if◌then◌else◌}
use Rattle.std.specs.Prelude.{Option, Some, None, Result, Ok, Err}
use Rattle.std.proofs.lemmas.List.{get_or-set_same}
use Rattle.tuple_values.specs.Document.{ByteList}
use Rattle.tuple_values.specs.declared.names.NameShards.{NameShards}
use Rattle.shard_versions.specs.Histories.{History, is_pending}
use Rattle.shard_versions.specs.declared.cut.CutMark.{CutMark}
use Rattle.shard_versions.specs.declared.cut.CutPart.{CutPart}
use Rattle.shard_versions.specs.declared.cut.OwnMark.{OwnMark}
use Rattle.shard_versions.specs.declared.entry.Kind.{Kind}
use Rattle.shard_versions.specs.declared.entry.Kind.TheVariants.{Mark}
use Rattle.topic_book.specs.Cells.{cell_of}
use Rattle.topic_book.specs.Fitness.{shards_of}
use Rattle.exchange_rules.specs.Cells.{Log, history_in}
use Rattle.exchange_rules.specs.Courses.{Course, ends, looks, makes, and_then, unless_refused, and_ok}
use Rattle.exchange_rules.specs.Accesses.{Access, a_look, a_step, had_after}
use Rattle.exchange_rules.specs.Following.{rest_after, Follows}
use Rattle.exchange_rules.specs.Looking.{LooksFirst, IsBehind, AreBehind}
use Rattle.exchange_rules.specs.Steps.{closed, is_full, fitting, write_course, commit_unless}
use Rattle.exchange_rules.specs.Rows.{Layout, each_shard, write_at, commit_at, shares_of, writes_course, commit_shards, finish_course, part_of, cut_shards, cut_course}
use Rattle.exchange_rules.specs.declared.fault.SiteFault.{SiteFault}

-- the last look was at this cell, and shows all that was seen of it
abbrev pub IsLast : List ℕ → Option ℕ → Option CutMark → Type 0
IsLast had None last = Unit {0}
IsLast had (Some cell) None = ⊥
IsLast had (Some cell) (Some m) = (m.cell ≡ cell) × (get_or had cell 0 ≡ m.upto)

-- the own mark of a step behind the last look
behind : (had : List ℕ) (cell : ℕ) (at : Option ℕ) (last : Option CutMark) (o : OwnMark)
    → at ≡ Some cell → IsLast had at last → o.cell ≡ cell → o.from ≡ get_or had cell 0
    → IsBehind last o
behind had cell at None o e i c f = subst (λ x. IsLast had x None) e i
behind had cell at (Some m) o e i c f =
    let here = subst (λ x. IsLast had x (Some m)) e i in
    (c ∙ sym here.0, f ∙ here.1)

-- the steps of accesses that follow a course which looks first stand behind their looks
pub follows_behind : {A : Type 0} (me : ℕ) (seen : List Log) (had : List ℕ) (p : Course A)
    (accesses : List Access) (q : Course A) (end : List ℕ) (at : Option ℕ) (last : Option CutMark)
    → LooksFirst at p → IsLast had at last → Follows me seen had p accesses q end
    → AreBehind last accesses
follows_behind me seen had p [] q end at last g i f = tt
follows_behind me seen had (ends a) (access ∷ accesses) q end at last g i f = absurd f.0
follows_behind me seen had (looks c see) (a_step o ∷ accesses) q end at last g i f = absurd f.0
follows_behind me seen had (makes c step p) (a_look m ∷ accesses) q end at last g i f = absurd f.0
follows_behind me seen had (looks c see) (a_look m ∷ accesses) q end at last g i f =
    let access = a_look m in
    let lt : m.cell < length had = subst (λ x. x < length had) (sym f.0.cell_is) f.0.known in
    let now : get_or (set had m.cell m.upto) c 0 ≡ m.upto =
    ap (λ x. get_or (set had m.cell m.upto) x 0) (sym f.0.cell_is)
    ∙ get_or-set_same had m.cell m.upto 0 lt in
    let rest = rest_after seen (looks c see) access in
    follows_behind me seen (had_after had access) rest accesses q end (Some c) (Some m) (g _)
    (f.0.cell_is, now) f.1
follows_behind me seen had (makes c step p) (a_step o ∷ accesses) q end at last g i f = (
  behind had c at last o g.0 i f.0.cell_is f.0.from,
  follows_behind me seen (had_after had (a_step o)) p accesses q end None None g.1 tt f.1,
)

-- a course that looks first does so after any look
pub after_look : {A : Type 0} (at : Option ℕ) (p : Course A) → LooksFirst None p
    → LooksFirst at p
after_look at (ends a) g = tt
after_look at (looks other see) g = g
after_look at (makes other step rest) g = let e : None ≡ Some other = g.0 in absurd (cc)

-- whichever of two courses is taken
pub either : {A : Type 0} (at : Option ℕ) (b : Bool) (p q : Course A) → LooksFirst at p
    → LooksFirst at q → LooksFirst at (if b then p else q)
either at true p q g h = g
either at false p q g h = h

-- a course that looks first, and then others that do
pub then_first : {A B : Type 0} (at : Option ℕ) (p : Course A) (next : A → Course B)
    → LooksFirst at p → ((a : A) → LooksFirst None (next a)) → LooksFirst at (and_then p next)
then_first at (ends a) next g k = after_look at (next a) (k a)
then_first at (looks cell see) next g k = λ log. then_first (Some cell) (see log) next (g log) k
then_first at (makes cell step rest) next g k = (g.0, then_first None rest next g.1 k)

-- what follows unless there is a refusal
pub go_on_first : {A B E : Type 0} (next : A → Course (Result B E))
    → ((a : A) → LooksFirst None (next a))
    → (a : Result A E) → LooksFirst None (unless_refused next a)
go_on_first next k (Ok a) = k a
go_on_first next k (Err refusal) = tt

-- the same of what goes on unless refused
pub ok_first : {A B E : Type 0} (p : Course (Result A E)) (next : A → Course (Result B E))
    → LooksFirst None p → ((a : A) → LooksFirst None (next a)) → LooksFirst None (and_ok p next)
ok_first p next g k = then_first None p (unless_refused next) g (go_on_first next k)

-- a step that fits, or its refusal, right after a look at its cell
pub fitting_first : (limit cell : ℕ) (step : List Kind) (refusal : SiteFault) (h : History)
    → LooksFirst (Some cell) (fitting limit cell step refusal h)
fitting_first limit cell step refusal h =
    either (Some cell) (is_full limit h step) _ _ tt (refl, tt)

-- a step of writes looks first
write_first : (limit cell : ℕ) (step : List Kind) (refusal : SiteFault)
    → LooksFirst None (write_course limit cell step refusal)
write_first limit cell [] refusal = tt
write_first limit cell (k ∷ ks) refusal =
    λ log. fitting_first limit cell (k ∷ ks) refusal (history_in log)

-- so does a Mark
commit_first : (limit cell writes : ℕ) (refusal : SiteFault)
    → LooksFirst None (commit_unless limit cell writes refusal)
commit_first limit cell (suc writes) refusal = tt
commit_first limit cell zero refusal =
    λ log. either (Some cell) (is_pending (history_in log)) _ _
    (fitting_first limit cell (Mark ∷ []) refusal (history_in log)) tt

-- so does what is done at each shard
each_first : {E : Type 0} (at : ℕ → Course (Result (Unit {0}) E)) (shard left : ℕ)
    → ((shard : ℕ) → LooksFirst None (at shard)) → LooksFirst None (each_shard at shard left)
each_first at shard zero k = tt
each_first at shard (suc left) k =
    ok_first (at shard) (λ _. each_shard at (shard + 1) left) (k shard)
    (λ _. each_first at (shard + 1) left k)

-- so do the Marks of a commit
pub commit_shards_first : (l : Layout) (collection : ByteList) (written : ℕ → ℕ) (stand : ℕ)
    → LooksFirst None (commit_shards l collection written stand)
commit_shards_first l collection written stand =
    each_first (commit_at l collection written stand) 0 (shards_of l.names collection)
    (λ shard. commit_first l.limit (cell_of l.names collection shard) (written shard) _)

-- and what a commit does after writes
pub finish_first : (l : Layout) (collection : ByteList) (share : ℕ → List Kind) (writes : ℕ)
    (commit : Bool) → LooksFirst None (finish_course l collection share writes commit)
finish_first l collection share writes false = tt
finish_first l collection share writes true =
    commit_shards_first l collection (λ shard. length (share shard)) writes

-- and the writes
pub writes_first : (l : Layout) (collection : ByteList) (share : ℕ → List Kind) (commit : Bool)
    → LooksFirst None (writes_course l collection share commit)
writes_first l collection share commit =
    each_first (write_at l collection share commit) 0 (shards_of l.names collection)
    (λ shard. write_first l.limit (cell_of l.names collection shard)
    (closed commit (share shard)) _)

-- and a collection's part of a cut
cut_shards_first : (names : List NameShards) (collection : ByteList) (shard left : ℕ)
    (cut : List CutPart) → LooksFirst None (cut_shards names collection shard left cut)
cut_shards_first names collection shard zero cut = tt
cut_shards_first names collection shard (suc left) cut =
    λ log. after_look _ _ (cut_shards_first names collection (shard + 1) left
    (cut ++ part_of collection shard (history_in log) ∷ []))

-- and a cut
pub cut_first : (names : List NameShards) (cut : List CutPart) (collections : List ByteList)
    → LooksFirst None (cut_course names cut collections)
cut_first names cut [] = tt
cut_first names cut (c ∷ collections) =
    then_first None (cut_shards names c 0 (shards_of names c) cut) _
    (cut_shards_first names c 0 (shards_of names c) cut)
    (λ cut. cut_first names cut collections)

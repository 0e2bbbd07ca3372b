-- The writers of a load at its end, and their site's.
use Rattle.std.proofs.Common.{◌≡◌, ◌≢◌, ℕ, zero, suc, ◌<◌, ◌+◌, ◌^◌, List, [], ◌∷◌, length, map, get_or, replicate, refl, sym, ap, ◌∙◌, subst, arith}
use Rattle.std.specs.Prelude.{All, Contains}
use Rattle.std.specs.List.{AllZip}
use Rattle.std.proofs.lemmas.List.{get_or_default}
use Rattle.std.proofs.lemmas.List.Elements.{All-map}
use Rattle.tuple_values.specs.declared.names.NameShards.{NameShards}
use Rattle.topic_book.specs.Cells.{cells_in}
use Rattle.once_core.specs.Law.{IsLaw}
use Rattle.once_core.specs.declared.world.Histories.{Histories}
use Rattle.exchange_rules.specs.Cells.{Log, author_of}
use Rattle.exchange_rules.specs.Following.{Writer}
use Rattle.exchange_rules.specs.Own.{by_writer}
use Rattle.turn_table.specs.Histories.{GrewBy}
use Rattle.stream_site.specs.Logs.{logs_in}
use Rattle.site_cells.specs.Cells.{no_logs}
use Rattle.running_site.specs.Plain.{SiteCell}
use Rattle.running_site.specs.Passes.{new_writer, number_of, numbers_to, writer_of}
use Rattle.running_site.specs.Plain.{TablePass}
use Rattle.running_site.specs.declared.pass.PassOf.{PassOf}
use Rattle.running_site.specs.declared.site.SiteOf.{SiteOf}
use Rattle.load_rules.specs.Finished.{AreFinished, FinishedLoadsAreMade, HasEnded, HasWorked, IsEndOf, IsFinished, IsNew, load_roles}
use Rattle.load_rules.specs.Loaded.{IsLoaded}
use Rattle.load_rules.specs.Topic.{load_names}
use Rattle.load_rules.specs.Worked.{own_at}
use Rattle.load_mix.specs.Workers.{Worker, IsEnded, IsWorked, role_in, writer_at}

-- where no cell has an entry, none is there
nothing-at : (n cell : ℕ) → get_or {A = Log} (replicate n []) cell [] ≡ []
nothing-at zero cell = refl
nothing-at (suc n) zero = refl
nothing-at (suc n) (suc cell) = nothing-at n cell

-- a pass that is new has appended nothing
new-none : (names : List NameShards) (number : ℕ) → IsNew (new_writer names number)
new-none names number cell = ap (by_writer number) (nothing-at (cells_in names + 1) cell)

-- the writers are new, with the numbers from this one on
abbrev pub AreNew : List NameShards → ℕ → List Writer → Type 0
AreNew names number [] = Unit {0}
AreNew names number (w ∷ writers) =
    (w ≡ new_writer names number) × AreNew names (suc number) writers

-- eight new ones
pub eight_new : (names : List NameShards) (writers : List Writer)
    → writers ≡ map (new_writer names) (numbers_to 8) → AreNew names 1 writers
eight_new names writers e =
    subst (AreNew names 1) (sym e)
    (refl, (refl, (refl, (refl, (refl, (refl, (refl, (refl, tt))))))))

-- the shards of a load
nine : cells_in load_names ≡ 9
unfolding cells_in
nine = refl

-- each of a list is in it
all-there : (xs : List ℕ) → All (λ x. Contains xs x) xs
all-there xs k d lt = (k, lt, get_or_default xs k _ _ lt)

-- what each is, of what each is
map-of : {X Y Z : Type 0} (g : Y → Z) (f : X → Y) (xs : List X)
    → map g (map f xs) ≡ map (λ x. g (f x)) xs
map-of g f [] = refl
map-of g f (x ∷ xs) = ap (λ l. g (f x) ∷ l) (map-of g f xs)

module _ {A B C D E : Type 0} (n : ℕ) (site : SiteOf SiteCell A B C D E) where
  -- new writers that worked, and then ended, have finished
  finished : (names : List NameShards) (number : ℕ) (old new : List Worker)
      (passes : List (PassOf TablePass)) → AreNew names number (map writer_at old)
      → AllZip (IsWorked n site) old new → AllZip (IsEnded site) new passes
      → AreFinished n number (map role_in old) (map writer_of passes)
  finished names number [] [] [] first worked ended = tt
  finished names number [] [] (p ∷ passes) first worked ended = absurd ended
  finished names number [] (y ∷ new) passes first worked ended = absurd worked
  finished names number (x ∷ old) [] passes first worked ended = absurd worked
  finished names number (x ∷ old) (y ∷ new) [] first worked ended = absurd ended
  finished names number (x ∷ old) (y ∷ new) (p ∷ passes) first worked ended =
      let w = worked.0 in
      let e = ended.0 in
      let end : IsFinished n x.role (writer_of p) = record {
        first = new_writer names number;
        is_new = new-none names number;
        mid = writer_of y.pass;
        worked = subst (λ v. HasWorked n x.role v (writer_of y.pass)) first.0 (w.done e.done);
        ended = subst (λ r. HasEnded r (writer_of y.pass) (writer_of p)) w.role e.ended;
      } in (
        e.number ∙ (w.number ∙ ap (λ (v : Writer). v.me) first.0),
        end,
        finished names (suc number) old new passes first.1 worked.1 ended.1,
      )

  -- their numbers are those that they had
  kept-numbers : (old new : List Worker) (passes : List (PassOf TablePass))
      → AllZip (IsWorked n site) old new → AllZip (IsEnded site) new passes
      → map number_of passes ≡ map (λ (w : Worker). number_of w.pass) old
  kept-numbers [] [] [] worked ended = refl
  kept-numbers [] [] (p ∷ passes) worked ended = absurd ended
  kept-numbers [] (y ∷ new) passes worked ended = absurd worked
  kept-numbers (x ∷ old) [] passes worked ended = absurd worked
  kept-numbers (x ∷ old) (y ∷ new) [] worked ended = absurd ended
  kept-numbers (x ∷ old) (y ∷ new) (p ∷ passes) worked ended =
      let one : number_of p ≡ number_of x.pass = ended.0.number ∙ worked.0.number in
      λ i. one i ∷ kept-numbers old new passes worked.1 ended.1 i

  -- of new ones, those from 1 on
  pub all-numbers : (names : List NameShards) (count : ℕ) (old new : List Worker)
      (passes : List (PassOf TablePass))
      → map writer_at old ≡ map (new_writer names) (numbers_to count)
      → AllZip (IsWorked n site) old new → AllZip (IsEnded site) new passes
      → map number_of passes ≡ numbers_to count
  all-numbers names count old new passes first worked ended =
      kept-numbers old new passes worked ended
      ∙ (sym (map-of (λ (w : Writer). w.me) writer_at old)
      ∙ (ap (map (λ (w : Writer). w.me)) first
      ∙ new-numbers (numbers_to count)))
    where
      new-numbers : (ns : List ℕ)
          → map (λ (w : Writer). w.me) (map (new_writer names) ns) ≡ ns
      new-numbers [] = refl
      new-numbers (m ∷ ns) = ap (λ l. m ∷ l) (new-numbers ns)

  -- the load was made, where its workers were new, worked and ended, and the site was closed
  pub load-made : (old new : List Worker) (passes : List (PassOf TablePass)) (hs : Histories)
      → FinishedLoadsAreMade → n < 2 ^ 64
      → map role_in old ≡ load_roles
      → map writer_at old ≡ map (new_writer load_names) (numbers_to 8)
      → AllZip (IsWorked n site) old new → AllZip (IsEnded site) new passes
      → IsLaw load_names hs → length hs.shards ≡ cells_in load_names
      → All (λ pass. GrewBy (λ entry. author_of entry ≢ number_of pass) (writer_of pass).seen
      (logs_in hs.shards hs.book)) passes
      → All (All (λ entry. Contains (numbers_to 8) (author_of entry)))
      (logs_in hs.shards hs.book)
      → IsLoaded n hs
  load-made old new passes hs law few roles first worked ended is_law count seen signed =
      law n (map writer_of passes) hs few
      (subst (λ r. AreFinished n 1 r (map writer_of passes)) roles
      (finished load_names 1 old new passes (eight_new load_names (map writer_at old) first) worked
      ended))
      (record {
        law = is_law;
        counted = count ∙ nine;
        signed = subst (λ ns. All (All (λ entry. Contains ns (author_of entry)))
            (logs_in hs.shards hs.book))
            (sym (map-of (λ (w : Writer). w.me) writer_of passes
            ∙ all-numbers load_names 8 old new passes first worked ended)) signed;
        seen = All-map (λ (w : Writer). GrewBy (λ entry. author_of entry ≢ w.me) w.seen
            (logs_in hs.shards hs.book)) writer_of passes seen;
      })

-- passes with all numbers have each
pub each-there : (numbers all : List ℕ) → numbers ≡ all
    → All (λ number. Contains numbers number) all
each-there numbers all e = subst (λ ns. All (λ number. Contains ns number) all) (sym e)
    (all-there all)

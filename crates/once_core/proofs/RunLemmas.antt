-- Runs, an event at a time.
use Rattle.std.proofs.Common.{◌≡◌, ℕ, ◌+◌, ◌<◌, List, [], ◌∷◌, ◌++◌, length, get_or, take, refl, sym, ap, ◌∙◌, subst, arith}
use Rattle.std.proofs.lemmas.List.{take_more}
use Rattle.tuple_values.specs.declared.names.NameShards.{NameShards}
use Rattle.once_core.specs.Law.{IsLaw}
use Rattle.once_core.specs.Worlds.{IsAllowedIn, AreAllowed, next, run, nothing_yet}
use Rattle.once_core.specs.Replays.{IsRun}
use Rattle.once_core.specs.declared.event.Event.{Event}
use Rattle.once_core.specs.declared.world.World.{World}
use Rattle.once_core.proofs.KeepingLemmas.{law_nothing, law_run}

-- a run of one event more
run-push : (events : List Event) (e : Event) (w : World) → run (events ++ e ∷ []) w ≡ next (run events w) e
run-push [] e w = refl
run-push (x ∷ events) e w = run-push events e (next w x)

-- which is allowed where that event is, in the world after the others
allowed-push : (names : List NameShards) (events : List Event) (e : Event) (w : World) → AreAllowed names events w
    → IsAllowedIn names (run events w) e → AreAllowed names (events ++ e ∷ []) w
allowed-push names [] e w a b = (b, tt)
allowed-push names (x ∷ events) e w a b = (a.0, allowed-push names events e (next w x) a.1 b)

-- nothing happened yet
pub run-none : (names : List NameShards) (events : List Event) (w : World) → w ≡ nothing_yet names → IsRun names events 0 w
run-none names events w e = record { within = omega arith; allowed = tt; leads = e }

-- one event more
pub run-more : (names : List NameShards) (events : List Event) (i : ℕ) (w : World) (e : Event) (after : World)
    → IsRun names events i w → i < length events → e ≡ get_or events i e → IsAllowedIn names w e → after ≡ next w e
    → IsRun names events (i + 1) after
run-more names events i w e after r lt is allowed leads =
    let more : take (i + 1) events ≡ take i events ++ e ∷ [] =
    take_more events i e lt ∙ ap (λ x. take i events ++ x ∷ []) (sym is) in
    let here = subst (λ (v : World). IsAllowedIn names v e) r.leads allowed in
    record {
      within = omega arith;
      allowed = subst (λ es. AreAllowed names es (nothing_yet names)) (sym more)
          (allowed-push names (take i events) e (nothing_yet names) r.allowed here);
      leads = leads ∙ (ap (λ v. next v e) r.leads
          ∙ (sym (run-push (take i events) e (nothing_yet names)) ∙ ap (λ es. run es (nothing_yet names)) (sym more)));
    }

-- the same, where lists are taken as slices
pub run-goes : (names names' : List NameShards) (events events' : List Event) (i : ℕ) (w : World) (e : Event) (after : World)
    → names' ≡ names → events' ≡ events → IsRun names events i w → i < length events' → e ≡ get_or events' i e
    → IsAllowedIn names' w e → after ≡ next w e → IsRun names events (i + 1) after
run-goes names names' events events' i w e after n es r lt is allowed leads =
    run-more names events i w e after r (omega (arith, ap length es)) (is ∙ ap (λ l. get_or l i e) es)
    (subst (λ ns. IsAllowedIn ns w e) n allowed) leads

-- the law holds after a run
pub run-law : (names : List NameShards) (events : List Event) (i : ℕ) (w : World) → IsRun names events i w → IsLaw names w.histories
run-law names events i w r =
    subst (λ (v : World). IsLaw names v.histories) (sym r.leads)
    (law_run names (take i events) (nothing_yet names) (law_nothing names) r.allowed)

-- What is claimed.
use Rattle.std.proofs.Common.{◌≡◌, ℕ, zero, suc, Bool, true, false, cond, List, [], ◌∷◌, Option, Some, None, refl, sym, ap, ◌∙◌, subst, true≢false}
use Rattle.std.specs.Prelude.{slice_get, option_map, ◌&&◌}
use Rattle.std.specs.Map.{values_of}
use Rattle.std.specs.Option.{is_some}
use Rattle.tuple_values.specs.Document.{ByteList}
use Rattle.daemon_board.specs.Calls.{IsClaimOf, IsOf}
use Rattle.daemon_board.specs.Daemons.{Entry, first_such, is_running, may_run, is_due}
use Rattle.daemon_board.specs.Finding.{IsAtRest, IsFirst, passes, shown_entries, wanted_in}
use Rattle.daemon_board.specs.declared.claim.Claim.{Claim}
use Rattle.daemon_board.specs.declared.daemon.Daemon.{Daemon}
use Rattle.daemon_board.specs.declared.finding.Wanted.{Wanted}
use Rattle.daemon_board.specs.declared.finding.Wanted.TheVariants.{After, Due, Away}
use Rattle.daemon_board.proofs.PlaceLemmas.{same, none_is_no_some, first-at}

-- the first of two tests that are passed together is passed
left-of : (a b : Bool) → (a && b) ≡ true → a ≡ true
left-of true b h = refl
left-of false b h = h

right-of : (a b : Bool) → (a && b) ≡ true → b ≡ true
right-of true b h = h
right-of false b h = absurd (true≢false (sym h))

-- a daemon that is looked for to be run is at rest
rests : (wanted : Wanted) → IsAtRest wanted → (d : Daemon) → passes wanted d ≡ true
    → is_some d.checked ≡ true
rests (After n) free d h = right-of (is_running d.state) _ (left-of (may_run d) _ h)
rests (Due now time) free d h =
    right-of (is_running d.state) _ (left-of (may_run d) _ (left-of (is_due now d) _ h))
rests (Away n) free d h = absurd free

module _ {K : Type 0} (bytes : K → ByteList) where
  -- the daemon at the place passes
  passes-at : (wanted : Wanted) (es : List (K × Daemon)) (i : ℕ) (d : Daemon)
      → IsFirst (wanted_in wanted) (shown_entries bytes es) i → Some d ≡ slice_get (values_of es) i
      → passes wanted d ≡ true
  passes-at wanted [] i d h at = absurd h
  passes-at wanted (e ∷ es) zero d h at = subst (λ x. passes wanted x ≡ true) (sym (same at)) h
  passes-at wanted (e ∷ es) (suc i) d h at = passes-at wanted es i d h.1 at

  -- its claim is of it
  pub claim-at : (wanted : Wanted) → IsAtRest wanted → (es : List (K × Daemon)) (i : ℕ) (d : Daemon)
      (claim : Option Claim)
      → IsFirst (wanted_in wanted) (shown_entries bytes es) i → Some d ≡ slice_get (values_of es) i
      → option_map (λ c. c.checked) claim ≡ d.checked
      → option_map (λ c. c.number) claim ≡ option_map (λ e. d.number) d.checked
      → IsClaimOf (first_such (wanted_in wanted) (shown_entries bytes es)) claim
  claim-at wanted free es i d claim h at whole number =
      let first = first-at bytes (wanted_in wanted) es i d h at in
      subst (λ e. IsClaimOf e claim) (sym first.1)
      (by claim whole number)
    where
      some : is_some d.checked ≡ true
      some = rests wanted free d (passes-at wanted es i d h at)

      by : (claim : Option Claim) → option_map (λ c. c.checked) claim ≡ d.checked
          → option_map (λ c. c.number) claim ≡ option_map (λ e. d.number) d.checked
          → (c : Claim) × (claim ≡ Some c)
          × IsOf (record { id = (first-at bytes (wanted_in wanted) es i d h at).0; daemon = d }) c
      by None whole number = absurd (true≢false (sym some ∙ sym (ap is_some whole)))
      by (Some c) whole number = (
        c,
        refl,
        record {
          number = same (number ∙ sym (ap (option_map (λ e. d.number)) whole));
          whole = whole;
        },
      )

-- What a log knows after a call, from what it knew before (own).
use Rattle.std.proofs.Common.{◌≡◌, inl, inr, ℕ, ◌+◌, ◌<◌, ◌≤◌, ◌^◌, List, [], ◌∷◌, ◌++◌, length, Option, Some, None, refl, sym, ◌∙◌, ap, subst, arith}
use denote.Struct.Props.{props}
use Rattle.std.proofs.lemmas.Option.{same_Some}
use Rattle.disk_edge.specs.Disk.{IfTold, Only}
use Rattle.commit_log.specs.Frames.{at_rest, end_of}
use Rattle.log_codec.specs.Steps.{body_of}
use Rattle.commit_log.specs.Steps.{bodies_of, IsStep, Step}
use Rattle.commit_log.specs.Disks.{Has, HasAll, IsGated}
use Rattle.commit_log.specs.Stops.{file_of, Halfway}
use Rattle.commit_log.specs.Logs.{IsInFlight, IsSettled}
use Rattle.commit_log.specs.declared.log.Log.{Log}
use Rattle.commit_log.proofs.FrameLemmas.{end-push}
use Rattle.commit_log.proofs.StepLemmas.{bodies-push, file-of-push, steps-push}
use Rattle.commit_log.proofs.FileLemmas.{length-closed, length-open}
use Rattle.commit_log.proofs.StopLemmas.{after-told, if-all, if-told}

halfway-long : (steps : List Step) (step : Step) (file : List ℕ) → Halfway steps step file
    → end_of (bodies_of steps) + 1 ≤ length file
halfway-long steps step file (inl was) = omega (arith, ap length was.1, length-closed (bodies_of steps) was.0)
halfway-long steps step file (inr was) = omega
    (arith, ap length was, length-open (bodies_of steps) (body_of step))

-- how long a told file is has one proof
pub told-long-prop : (told : Option (List ℕ)) (n : ℕ) → IsProp (IfTold told (λ c. n ≤ length c))
told-long-prop None n = search props
told-long-prop (Some c) n = search props

module _ {D : Type 0} (seen : D → Option (List ℕ)) (may_leave : D → List ℕ → Type 0) where
  -- the file of a settled log reaches behind its last byte
  pub settled-long : (steps : List Step) (log : Log D)
      → IsSettled seen may_leave steps log → IfTold (seen log.disk) (λ c. log.end + 1 ≤ length c)
  settled-long steps log s = if-all (seen log.disk)
      (λ x. (x ≡ file_of steps) × Only x (may_leave log.disk))
      (λ c. log.end + 1 ≤ length c) s.told
      (λ file p. subst (λ (n : ℕ). n + 1 ≤ length file) (sym s.place)
      (halfway-long steps [] file (inl ([], p.0))))

  -- the disk of a settled log, where it tells
  pub settled-has : (steps : List Step) (log : Log D) (file : List ℕ)
      → IsSettled seen may_leave steps log → seen log.disk ≡ Some file
      → Has seen may_leave log.disk (at_rest (bodies_of steps))
  settled-has steps log file s is =
      let p = if-told (seen log.disk) (λ x. (x ≡ file_of steps) × Only x
      (may_leave log.disk)) file s.told is in
      record { told = is ∙ ap Some p.0; durable = λ d left. p.1 d left ∙ p.0 }

  -- the disk of a log whose append failed, where it tells
  pub in-flight-all : (steps : List Step) (step : Step) (log : Log D) (file : List ℕ)
      → IsInFlight seen may_leave steps step log → seen log.disk ≡ Some file
      → HasAll seen may_leave (IsGated (bodies_of steps) (body_of step)) log.disk
  in-flight-all steps step log file f is =
      let t = if-told (seen log.disk) (λ x. Halfway steps step x ×
      ((c : List ℕ) → may_leave log.disk c → Halfway steps step c)) file f.told is in
      record { file = file; told = is; is = t.0; leaves = t.1 }

  pub in-flight-long : (steps : List Step) (step : Step) (log : Log D)
      → IsInFlight seen may_leave steps step log → IfTold (seen log.disk) (λ c. log.end + 1 ≤ length c)
  in-flight-long steps step log f = if-all (seen log.disk)
      (λ x. Halfway steps step x × ((c : List ℕ) → may_leave log.disk c → Halfway steps step c))
      (λ c. log.end + 1 ≤ length c) f.told
      (λ file p. subst (λ (n : ℕ). n + 1 ≤ length file) (sym f.place) (halfway-long steps step file p.0))

  -- what the disk tells, once it has the step
  told-pushed : (steps : List Step) (step : Step) (disk : D)
      → IfTold (seen disk) (λ file. (file ≡ at_rest (bodies_of steps ++ body_of step ∷ [])) × Only file
      (may_leave disk))
      → IfTold (seen disk) (λ file. (file ≡ file_of (steps ++ step ∷ [])) × Only file (may_leave disk))
  told-pushed steps step disk told = subst (λ (f : List ℕ). IfTold (seen disk)
      (λ file. (file ≡ f) × Only file (may_leave disk))) (sym (file-of-push steps step)) told

  place-pushed : (steps : List Step) (step : Step) (end : ℕ) → end ≡ end_of (bodies_of steps)
      → end + (9 + length (body_of step)) ≡ end_of (bodies_of (steps ++ step ∷ []))
  place-pushed steps step end place = omega (
    arith,
    place,
    end-push (bodies_of steps)
        (body_of step),
    ap end_of (bodies-push steps step),
  )

  -- an append that was acknowledged
  pub appended : (steps : List Step) (step : Step) (old : Log D) (disk : D) (size : ℕ)
      → IsSettled seen may_leave steps old → IsStep step → size ≡ length (body_of step)
      → (seen old.disk ≡ None → seen disk ≡ None)
      → (Has seen may_leave old.disk (at_rest (bodies_of steps))
      → Has seen may_leave disk (at_rest (bodies_of steps ++ body_of step ∷ [])))
      → IsSettled seen may_leave (steps ++ step ∷ [])
      (record { disk = disk; end = old.end + (9 + size); flight = old.flight; shut = old.shut })
  appended steps step old disk size s fits one untold stands =
      let here : IfTold (seen disk) (λ file. (file ≡ at_rest (bodies_of steps ++ body_of step ∷ [])) × Only file (may_leave disk)) =
      after-told (seen old.disk) _ _ _ s.told untold (λ file is p.
      let now = stands (settled-has steps old file s is) in
      (at_rest (bodies_of steps ++ body_of step ∷ []), now.told, (refl, now.durable))) in
      record {
        fits = steps-push steps step s.fits fits;
        place = omega (arith, one, place-pushed steps step old.end s.place);
        idle = s.idle;
        sound = s.sound;
        told = told-pushed steps step disk here;
      }

  -- an append that failed
  pub in-flight : (steps : List Step) (step : Step) (old : Log D) (disk : D) (size : ℕ)
      → IsSettled seen may_leave steps old → IsStep step → old.end < 2 ^ 62 → size < 2 ^ 62
      → size ≡ length (body_of step) → (seen old.disk ≡ None → seen disk ≡ None)
      → (Has seen may_leave old.disk (at_rest (bodies_of steps))
      → HasAll seen may_leave (IsGated (bodies_of steps) (body_of step)) disk)
      → IsInFlight seen may_leave steps step (record { disk = disk; end = old.end; flight = Some size; shut = old.shut })
  in-flight steps step old disk size s fits near low one untold failed = record {
    fits = s.fits;
    step_fits = fits;
    place = s.place;
    near = near;
    low = omega (arith, low, one);
    flight = ap Some one;
    sound = s.sound;
    told = after-told (seen old.disk) _ _ _ s.told untold (λ file is p.
        let now = failed (settled-has steps old file s is) in
        (now.file, now.told, (now.is, now.leaves)));
  }

  -- a reopening after which the step stands
  pub reopened-with : (steps : List Step) (step : Step) (old : Log D) (disk : D) (size : ℕ)
      (flight : Option ℕ) → IsInFlight seen may_leave steps step old → old.flight ≡ Some size
      → flight ≡ None → (seen old.disk ≡ None → seen disk ≡ None)
      → (HasAll seen may_leave (IsGated (bodies_of steps) (body_of step)) old.disk
      → Has seen may_leave disk (at_rest (bodies_of steps ++ body_of step ∷ [])))
      → IsSettled seen may_leave (steps ++ step ∷ [])
      (record { disk = disk; end = old.end + (9 + size); flight = flight; shut = old.shut })
  reopened-with steps step old disk size flight f was none untold stands =
      let here : IfTold (seen disk) (λ file. (file ≡ at_rest (bodies_of steps ++ body_of step ∷ [])) × Only file (may_leave disk)) =
      after-told (seen old.disk) _ _ _ f.told untold (λ file is p.
      let now = stands (in-flight-all steps step old file f is) in
      (at_rest (bodies_of steps ++ body_of step ∷ []), now.told, (refl, now.durable))) in
      let one : size ≡ length (body_of step) = same_Some size (length (body_of step)) (sym was ∙ f.flight) in
      record {
        fits = steps-push steps step f.fits f.step_fits;
        place = omega (arith, one, place-pushed steps step old.end f.place);
        idle = none;
        sound = f.sound;
        told = told-pushed steps step disk here;
      }

  -- and one after which it doesn't
  pub reopened-without : (steps : List Step) (step : Step) (old : Log D) (disk : D) (flight : Option ℕ)
      → IsInFlight seen may_leave steps step old → flight ≡ None → (seen old.disk ≡ None → seen disk ≡ None)
      → (HasAll seen may_leave (IsGated (bodies_of steps) (body_of step)) old.disk
      → Has seen may_leave disk (at_rest (bodies_of steps)))
      → IsSettled seen may_leave steps (record { disk = disk; end = old.end; flight = flight; shut = old.shut })
  reopened-without steps step old disk flight f none untold absent = record {
    fits = f.fits;
    place = f.place;
    idle = none;
    sound = f.sound;
    told = after-told (seen old.disk) _ _ _ f.told untold (λ file is p.
        let now = absent (in-flight-all steps step old file f is) in
        (file_of steps, now.told, (refl, now.durable)));
  }

-- What a command leaves of a row of doors.
use Rattle.std.proofs.Common.{◌≡◌, ◌++◌, ◌∷◌, [], ℕ, List, map, refl, sym, ap, ◌∙◌, subst, inl, inr}
use Rattle.std.specs.Prelude.{◌||◌, Bool, true, false, suc, Option, Some, None}
use Rattle.std.specs.List.{list_any}
use Rattle.tuple_values.specs.Document.{ByteList}
use Rattle.exchange_rules.specs.Rows.{Layout}
use Rattle.command_words.specs.declared.command.Command.{Command}
use Rattle.pass_calls.specs.Serving.{HasFailed}
use Rattle.site_server.specs.Doors.{Doors}
use Rattle.site_server.specs.Ended.{AreWorked, IsRowServed, Worked, has_failed, new_in, old_in}
use Rattle.stream_commands.specs.DoorRows.{Row}
use Rattle.stream_commands.specs.Endings.{EndsFor, HasCounted, HasOneRisen}
use Rattle.stream_commands.specs.Lines.{status_of}
use Rattle.stream_commands.specs.Servers.{HasServedRow, LeavesRow}
use Rattle.stream_commands.specs.Servers.{ending_by}
use Rattle.stream_commands.specs.declared.ending.Ending.{Ending}
use Rattle.stream_commands.specs.declared.ending.Ending.TheVariants.{Done, Shown, InputFailed, OutputFailed, DoorsFailed}
use Rattle.stream_commands.specs.declared.ending.Ending.TheVariants.{WordsRefused, WordsTold, Faulty, OutOfMemory, InputCut, MessageRefused}

-- what is left of a row
module _ {D I O : Type 0} (kind : Doors D I O) (tells : ℕ → Type 0) (old : List D) (new : Row D) where
  -- what a server leaves where a door failed or none did
  pub leaves_by : (command : Option Command) (failed : Bool)
      → HasServedRow kind tells command failed old new
      → LeavesRow kind tells command old new (ending_by failed)
  leaves_by command true served = served
  leaves_by command false served = served

  -- at 0 none did, and where words are shown a text there is no server
  pub served_at : (words : List ByteList) (command : Option Command) (end : Ending)
      → EndsFor words command end → status_of end ≡ 0 → LeavesRow kind tells command old new end
      → HasServedRow kind tells command false old new
  served_at words command Done ends is left = left
  served_at words None Shown ends is left = left
  served_at words (Some command) Shown ends is left = absurd ends
  served_at words command InputFailed ends is left = absurd (cc)
  served_at words command OutputFailed ends is left = absurd (cc)
  served_at words command DoorsFailed ends is left = absurd (cc)
  served_at words command WordsRefused ends is left = absurd (cc)
  served_at words command (WordsTold text) ends is left = absurd (cc)
  served_at words command Faulty ends is left = absurd (cc)
  served_at words command OutOfMemory ends is left = absurd (cc)
  served_at words command InputCut ends is left = absurd (cc)
  served_at words command (MessageRefused status) ends is left = absurd (cc)

-- how often the doors have failed that workers served
module _ {D I O : Type 0} (kind : Doors D I O) (tells : ℕ → Type 0) (l : Layout) where
  still_at : (x : Worked D) (ws : List (Worked D)) (left : List D)
      → HasFailed x.run.failed (kind.faults x.old) (kind.faults x.new)
      → (list_any has_failed ws ≡ false
      → map kind.faults (map new_in ws ++ left) ≡ map kind.faults (map old_in ws ++ left))
      → (b : Bool) → x.run.failed ≡ b → (b || list_any has_failed ws) ≡ false
      → map kind.faults (map new_in (x ∷ ws) ++ left) ≡ map kind.faults (map old_in (x ∷ ws) ++ left)
  still_at x ws left failed rest true e any = absurd (cc)
  still_at x ws left failed rest false e any =
      let same : kind.faults x.new ≡ kind.faults x.old =
      subst (λ b. HasFailed b (kind.faults x.old) (kind.faults x.new)) e failed in
      (λ i. same i ∷ rest any i)

  still_of : (n : ℕ) (ws : List (Worked D)) (left : List D) → AreWorked kind tells l n ws
      → list_any has_failed ws ≡ false
      → map kind.faults (map new_in ws ++ left) ≡ map kind.faults (map old_in ws ++ left)
  still_of n [] left each any = refl
  still_of n (x ∷ ws) left each any =
      still_at x ws left each.0.served.failed (still_of (suc n) ws left each.1) x.run.failed
      refl any

  risen_at : (x : Worked D) (ws : List (Worked D)) (left : List D)
      → HasFailed x.run.failed (kind.faults x.old) (kind.faults x.new)
      → (list_any has_failed ws ≡ true
      → HasOneRisen (map kind.faults (map old_in ws ++ left)) (map kind.faults (map new_in ws ++ left)))
      → (b : Bool) → x.run.failed ≡ b → (b || list_any has_failed ws) ≡ true
      → HasOneRisen (map kind.faults (map old_in (x ∷ ws) ++ left)) (map kind.faults (map new_in (x ∷ ws) ++ left))
  risen_at x ws left failed rest true e any =
      inl (subst (λ b. HasFailed b (kind.faults x.old) (kind.faults x.new)) e failed)
  risen_at x ws left failed rest false e any = inr (rest any)

  risen_of : (n : ℕ) (ws : List (Worked D)) (left : List D) → AreWorked kind tells l n ws
      → list_any has_failed ws ≡ true
      → HasOneRisen (map kind.faults (map old_in ws ++ left)) (map kind.faults (map new_in ws ++ left))
  risen_of n [] left each any = absurd (cc)
  risen_of n (x ∷ ws) left each any =
      risen_at x ws left each.0.served.failed (risen_of (suc n) ws left each.1) x.run.failed refl any

  -- none of a row's did, or one did
  pub row_still : (count : ℕ) (old new : List D) → IsRowServed kind tells l count old new false
      → map kind.faults new ≡ map kind.faults old
  row_still count old new row =
      ap (map kind.faults) row.after
      ∙ (still_of 1 row.workers row.left row.each (sym row.failed_is)
      ∙ ap (map kind.faults) (sym row.before))

  pub row_risen : (count : ℕ) (old new : List D) → IsRowServed kind tells l count old new true
      → HasOneRisen (map kind.faults old) (map kind.faults new)
  row_risen count old new row =
      subst (λ xs. HasOneRisen (map kind.faults xs) (map kind.faults new)) (sym row.before)
      (subst (λ ys. HasOneRisen (map kind.faults (map old_in row.workers ++ row.left)) (map kind.faults ys))
      (sym row.after) (risen_of 1 row.workers row.left row.each (sym row.failed_is)))

  -- so their counts say how it ended
  pub row_counted : (count : ℕ) (old new : List D) (failed : Bool)
      → IsRowServed kind tells l count old new failed
      → HasCounted (ending_by failed) (map kind.faults old) (map kind.faults new)
  row_counted count old new true row = row_risen count old new row
  row_counted count old new false row = row_still count old new row

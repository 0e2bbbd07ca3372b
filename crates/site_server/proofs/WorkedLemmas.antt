-- The workers of a row, by the items that were carried out.
use Rattle.std.proofs.Common.{ℕ, zero, suc, ◌≡◌, ◌≤◌, List, [], ◌∷◌, ◌++◌, map, length, refl, sym, ap, subst, ◌∙◌, arith, Bool, false, ◌||◌, ◌&&◌}
use Rattle.std.specs.Prelude.{Contains, Some, None, is_some, option_to_list}
use Rattle.std.specs.List.{AllByRecursion, list_any}
use Rattle.exchange_rules.specs.Following.{Writer}
use Rattle.exchange_rules.specs.Rows.{Layout}
use Rattle.running_site.specs.Plain.{SiteCell}
use Rattle.running_site.specs.Passes.{new_writer, writer_of}
use Rattle.running_site.specs.Plain.{TablePass}
use Rattle.running_site.specs.Sites.{layout_at}
use Rattle.running_site.specs.declared.pass.PassOf.{PassOf}
use Rattle.running_site.specs.declared.site.SiteOf.{SiteOf}
use Rattle.pass_calls.specs.declared.doors.DoorRun.{DoorRun}
use Rattle.site_server.specs.Doors.{Doors, IsDoorServed}
use Rattle.site_server.specs.Ended.{AreWorked, IsRowServedBy, Worked, has_failed, new_in, old_in}
use Rattle.site_server.specs.Items.{Item, IsItemServed}
use Rattle.site_server.specs.Rows.{behind, doors_in, failed_by, failed_in, item_of, items_for, pass_in}
use Rattle.site_server.proofs.ItemLemmas.{AreServed}
use Rattle.site_server.proofs.ListLemmas.{each-weaker, there-behind}
use Rattle.site_server.proofs.NumberLemmas.{numbers_from}

-- where no worker is to be made all doors are left
behind-none : {D P : Type 0} (doors : List D) (passes : List P)
    → (behind zero doors passes).1 ≡ doors
behind-none doors [] = refl
behind-none doors (p ∷ passes) = behind-none doors passes

-- the first and the others, where two lists begin so
heads : (x y : Writer) (xs ys : List Writer)
    → let l : List Writer = x ∷ xs in l ≡ y ∷ ys → x ≡ y
heads x y xs ys e = cc

tails : (x y : Writer) (xs ys : List Writer)
    → let l : List Writer = x ∷ xs in l ≡ y ∷ ys → xs ≡ ys
tails x y xs ys e = cc

module _ {D I O A B C E F : Type 0} (kind : Doors D I O) (tells : ℕ → Type 0)
    (site : SiteOf SiteCell A B C E F) where
  -- no runner has a door, and none failed
  record Idle (after : List (Item D)) : Type 0 where
    none : doors_in after ≡ []
    sound : list_any failed_in after ≡ false

  -- so it is where no worker was to be made
  idle : (doors : List D) (passes : List (PassOf TablePass)) (after : List (Item D))
      → AreServed kind tells site (items_for zero doors passes) after → Idle after
  idle doors [] [] served = record { none = refl; sound = refl }
  idle doors [] (y ∷ after) served = absurd served
  idle doors (p ∷ passes) [] served = absurd served
  idle doors (p ∷ passes) (y ∷ after) served =
      let rest : Idle after = idle doors passes after served.1 in
      let gone : y.door ≡ None = served.0.door in record {
        none = ap (λ o. option_to_list o ++ doors_in after) gone ∙ rest.none;
        sound =
            ap (λ o. (is_some o && failed_by y.run) || list_any failed_in after) gone
            ∙ rest.sound;
      }

  -- the workers among items that were carried out, whose passes had the numbers from this one on,
  -- and the doors that are left
  record Workers (n number : ℕ) (doors : List D) (passes : List (PassOf TablePass))
      (after : List (Item D)) : Type 0 where
    workers : List (Worked D)
    left : List D
    counted : length workers ≡ n
    before : doors ≡ map old_in workers ++ left
    back : doors_in after ++ (behind n doors passes).1 ≡ map new_in workers ++ left
    each : AreWorked kind tells (layout_at site) number workers
    failed : list_any failed_in after ≡ list_any has_failed workers
    among : AllByRecursion (λ x. Contains (map writer_of (map pass_in after)) x.writer) workers

  -- one more worker before others
  one-more : (n number : ℕ) (d : D) (doors : List D) (p : PassOf TablePass)
      (passes : List (PassOf TablePass)) (y : Item D) (after : List (Item D))
      → writer_of p ≡ new_writer site.names number
      → IsItemServed kind tells site (item_of (Some d) p) y
      → Workers n (suc number) doors passes after
      → Workers (suc n) number (d ∷ doors) (p ∷ passes) (y ∷ after)
  one-more n number d doors p passes y after new served rest =
      let now : D = served.door.0 in
      let run : DoorRun = served.door.1 in
      let is_now : y.door ≡ Some now = served.door.2 in
      let is_run : y.run ≡ Some run = served.door.3 in
      let writer : Writer = writer_of y.pass in
      let worker : Worked D = record { old = d; new = now; run = run; writer = writer } in
      let l : Layout = layout_at site in
      let did : IsDoorServed kind tells l (new_writer l.names number) writer d now run =
      subst (λ w. IsDoorServed kind tells l w writer d now run) new served.door.4 in
      let left_behind : List D = (behind n doors passes).1 in record {
        workers = worker ∷ rest.workers;
        left = rest.left;
        counted = ap suc rest.counted;
        before = ap (λ l. d ∷ l) rest.before;
        back =
            ap (λ o. (option_to_list o ++ doors_in after) ++ left_behind) is_now
            ∙ ap (λ l. now ∷ l) rest.back;
        each = (
          record { numbered = served.number ∙ ap (λ (w : Writer). w.me) new; served = did },
          rest.each,
        );
        failed =
            ap (λ o. (is_some o && failed_by y.run) || list_any failed_in after) is_now
            ∙ (ap (λ o. failed_by o || list_any failed_in after) is_run
            ∙ ap (λ b. run.failed || b) rest.failed);
        among = (
          (zero, omega arith, refl),
          each-weaker (λ x. Contains (map writer_of (map pass_in after)) x.writer)
              (λ x. Contains (map writer_of (map pass_in (y ∷ after))) x.writer)
              (λ x there. there-behind writer (map writer_of (map pass_in after)) x.writer there)
              rest.workers rest.among,
        );
      }

  -- the workers of all of them
  workers-of : (n number : ℕ) (doors : List D) (passes : List (PassOf TablePass))
      (after : List (Item D)) → n ≤ length doors → n ≤ length passes
      → map writer_of passes ≡ map (new_writer site.names) (numbers_from number (length passes))
      → AreServed kind tells site (items_for n doors passes) after
      → Workers n number doors passes after
  workers-of zero number doors passes after few fits new served =
      let none : Idle after = idle doors passes after served in record {
        workers = [];
        left = doors;
        counted = refl;
        before = refl;
        back = ap (λ l. l ++ (behind zero doors passes).1) none.none ∙ behind-none doors passes;
        each = tt;
        failed = none.sound;
        among = tt;
      }
  workers-of (suc n) number [] passes after few fits new served = absurd (omega (arith, few))
  workers-of (suc n) number (d ∷ doors) [] after few fits new served = absurd (omega (arith, fits))
  workers-of (suc n) number (d ∷ doors) (p ∷ passes) [] few fits new served = absurd served
  workers-of (suc n) number (d ∷ doors) (p ∷ passes) (y ∷ after) few fits new served =
      one-more n number d doors p passes y after (heads _ _ _ _ new) served.0
      (workers-of n (suc number) doors passes after (omega (arith, few)) (omega (arith, fits))
      (tails _ _ _ _ new) served.1)

  -- a row was served, where its items were carried out, and its doors are those of the items and
  -- those behind them
  pub row-served : (n : ℕ) (old doors new : List D) (passes ended : List (PassOf TablePass))
      (before after : List (Item D)) (failed : Bool) → n ≤ length doors → n ≤ length passes
      → map writer_of passes ≡ map (new_writer site.names) (numbers_from 1 (length passes))
      → before ≡ items_for n doors passes → AreServed kind tells site before after → doors ≡ old
      → new ≡ doors_in after ++ (behind n doors passes).1 → failed ≡ list_any failed_in after
      → ended ≡ map pass_in after
      → IsRowServedBy kind tells (layout_at site) n old new failed (map writer_of ended)
  row-served n old doors new passes ended before after failed few fits fresh made served same e f
      there =
      let w : Workers n 1 doors passes after =
      workers-of n 1 doors passes after few fits fresh
      (subst (λ xs. AreServed kind tells site xs after) made served) in record {
        row = record {
          workers = w.workers;
          left = w.left;
          counted = w.counted;
          before = sym same ∙ w.before;
          after = e ∙ w.back;
          each = w.each;
          failed_is = f ∙ w.failed;
        };
        among =
            subst (λ ps. AllByRecursion (λ x. Contains (map writer_of ps) x.writer) w.workers)
            (sym there) w.among;
      }

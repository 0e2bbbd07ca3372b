-- How a daemon that is due is run by a pass (own).
use Rattle.std.specs.Prelude.{ℕ, ◌≡◌, ◌⊎◌, Bool, true, false, Option, Some, None}
use Rattle.exchange_rules.specs.Following.{Begins, Writer, cleared}
use Rattle.exchange_rules.specs.Rows.{Layout}
use Rattle.expr_types.specs.ExprTree.{ExprTree}
use Rattle.expr_check.specs.Parts.{input_of}
use Rattle.expr_check.specs.Views.{tree_of}
use Rattle.daemon_board.specs.Calls.{Claims, Finishes, WhereTold}
use Rattle.daemon_board.specs.Daemons.{Shown, is_first_due}
use Rattle.daemon_board.specs.declared.claim.Claim.{Claim}
use Rattle.daemon_steps.specs.Runs.{IsFollowed}
use Rattle.daemon_steps.specs.Steps.{once_course, unknown_run}
use Rattle.daemon_steps.specs.declared.once.Once.{Once}

-- nothing of the run is known: a beginning of it was carried out, or nothing
abbrev pub IsUnknown : Layout → Writer → Writer → ExprTree → Once → Type 0
IsUnknown l w v t run =
    (run ≡ unknown_run)
    × ((v ≡ w) ⊎ Begins (cleared w) v (once_course l (input_of t)))

-- the input of an expression was run once, whole, or nothing of its run is known
abbrev pub IsRunOf : Layout → Writer → Writer → ExprTree → Once → Type 0
IsRunOf l w v t run =
    IsFollowed w v (once_course l (input_of t)) run ⊎ IsUnknown l w v t run

-- a claim's expression was run, and the board got it back with what the run read and its fault, at a
-- time that the clock told
pub record IsFinished (tells : ℕ → Type 0) (l : Layout) (w v : Writer) (old new : Option Shown)
    (claim : Claim) : Type 0 where
  pub run : Once
  pub ran : IsRunOf l w v (tree_of claim.checked) run
  pub now : ℕ
  pub told : tells now
  pub finished : WhereTold old new (Finishes claim run.read run.fault now)

-- a claim, where there is one, was run and finished; where there is none, nothing was done
abbrev pub IsCarriedOut : (ℕ → Type 0) → Layout → Writer → Writer → Option Shown → Option Shown
    → Option Claim → Bool → Type 0
IsCarriedOut tells l w v old new None ran = (ran ≡ false) × (v ≡ w) × (new ≡ old)
IsCarriedOut tells l w v old new (Some claim) ran =
    (ran ≡ true) × IsFinished tells l w v old new claim

-- the daemon that is due first, at a time that the clock told, was claimed, run and finished, where
-- there is one
pub record IsTurn (tells : ℕ → Type 0) (l : Layout) (w v : Writer) (old new : Option Shown)
    (ran : Bool) : Type 0 where
  pub now : ℕ
  pub told : tells now
  pub claim : Option Claim
  pub between : Option Shown
  pub claimed : WhereTold old between (λ a b. Claims (is_first_due now a.daemons) claim a b)
  pub carried : IsCarriedOut tells l w v between new claim ran

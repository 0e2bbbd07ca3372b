-- What every board keeps of its daemons, it keeps whatever it is asked.
use Rattle.std.proofs.Common.{◌≡◌, ℕ, Some, sym, ap, subst}
use Rattle.std.specs.Prelude.{Result, Ok, Err, unwrap_or}
use Rattle.tuple_values.specs.declared.memory.Memory.{Memory}
use Rattle.daemon_board.specs.Boards.{Told}
use Rattle.daemon_board.specs.Rising.{IsKept}
use Rattle.daemon_board.proofs.RisingLemmas.{kills-kept, lists-kept, resumes-kept, starts-kept, stops-kept}
use Rattle.stream_handler.specs.Boards.{Ask, BoardState, IsAsked, Says, board_state, nothing, lists, stops, resumes, kills, starts}
use Rattle.stream_handler.specs.declared.outcome.Outcome.{Outcome}

-- a board, as what is asked of it sees it
abbrev pub state_of : Told → BoardState
state_of b = board_state (Some b.shown) b.answers

-- a board that is the same
same_kept : (a b : Told) → state_of b ≡ state_of a → IsKept a.shown → IsKept b.shown
same_kept a b same kept =
    subst IsKept (sym (ap (λ (x : BoardState). unwrap_or x.shown a.shown) same)) kept

-- a board that said something
said_kept : (now : ℕ) (a b : Told) (o : Outcome) (ask : Ask) → IsKept a.shown
    → Says now ask (state_of a) (state_of b) o → IsKept b.shown
said_kept now a b o nothing kept s = same_kept a b s kept
said_kept now a b o lists kept s = lists-kept (Ok s.docs) a.shown b.shown s.told kept
said_kept now a b o (stops id) kept s = stops-kept id s.answer a.shown b.shown s.told kept
said_kept now a b o (resumes id) kept s = resumes-kept id now s.answer a.shown b.shown s.told kept
said_kept now a b o (kills id) kept s = kills-kept id s.answer a.shown b.shown s.told kept
said_kept now a b o (starts id t interval terminate) kept s =
    starts-kept id s.expr interval terminate now s.answer a.shown b.shown s.told kept

-- a board that was asked, or for which memory was wanting
pub asked_kept : (now : ℕ) (a b : Told) (ask : Ask) (r : Result Outcome Memory) → IsKept a.shown
    → IsAsked now ask (state_of a) (state_of b) r → IsKept b.shown
asked_kept now a b ask (Ok o) kept s = said_kept now a b o ask kept s
asked_kept now a b ask (Err memory) kept same = same_kept a b same kept

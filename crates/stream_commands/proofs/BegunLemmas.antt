-- A script of which a part is written.
use Rattle.std.proofs.Common.{ℕ, false, List, [], refl, sym, subst, append-nil, inl, inr, arith}
use Rattle.std.specs.Prelude.{Option, Some, None}
use Rattle.tuple_values.specs.declared.names.NameShards.{NameShards}
use Rattle.io_edge.specs.Edge.{Appends}
use Rattle.form_request.specs.Streams.{begun}
use Rattle.form_request.specs.declared.reading.After.{After}
use Rattle.command_words.specs.declared.command.Command.{Command}
use Rattle.command_words.specs.declared.command.Command.TheVariants.{Eval, Script, Serve, Load}
use Rattle.stream_handler.specs.Sessions.{Came}
use Rattle.stream_handler.proofs.PassLemmas.{passes_none}
use Rattle.stream_handler.proofs.WireLemmas.{appends_none}
use Rattle.stream_commands.specs.Endings.{Writes}
use Rattle.stream_commands.specs.declared.ending.Ending.TheVariants.{OutOfMemory}
use Rattle.stream_commands.specs.Scripts.{IsScriptBegun, IsScriptRead, IsScriptRun, script_text, tail_text}
use Rattle.stream_commands.specs.Inputs.{IsReadWithin}

-- nothing was read, and nothing is written
pub script_none : (names : List NameShards) (all : List ℕ) (old new : Option (List ℕ))
    → Appends old new [] → IsScriptBegun names all (Some all) old new
script_none names all old new app = record {
  read = [];
  lost = [];
  came = (all, refl, refl);
  messages = [];
  text = [];
  behind = inr (false, begun, passes_none names false begun refl, refl);
  front = [];
  rest = [];
  written = app;
  begins = refl;
  lawful = λ upto lt. absurd (omega (arith, lt));
}

-- all is written
pub script_run : (names : List NameShards) (all : List ℕ) (left : Option (List ℕ)) (after : After)
    (old new : Option (List ℕ)) → IsScriptRun names all left after old new
    → IsScriptBegun names all left old new
script_run names all left after old new r = record {
  read = r.read;
  lost = [];
  came = subst (Came (Some all) left) (sym (append-nil r.read)) r.came;
  messages = r.messages;
  text = tail_text after;
  behind = inl (after, r.reads, refl);
  front = script_text names r.messages after;
  rest = [];
  written = r.written;
  begins = sym (append-nil (script_text names r.messages after));
  lawful = λ upto lt. r.lawful upto;
}

-- all that the bytes ask for is written
pub script_read : (names : List NameShards) (all : List ℕ) (left old new : Option (List ℕ))
    → IsScriptRead names all left old new → IsScriptBegun names all left old new
script_read names all left old new r = record {
  read = r.read;
  lost = [];
  came = subst (Came (Some all) left) (sym (append-nil r.read)) r.came;
  messages = r.messages;
  text = tail_text r.after;
  behind = inl (r.after, r.reads, refl);
  front = script_text names r.messages r.after;
  rest = [];
  written = r.written;
  begins = sym (append-nil (script_text names r.messages r.after));
  lawful = λ upto lt. r.lawful upto;
}

-- memory was wanting before anything was read
pub script_unbegun : (names : List NameShards) (left written : Option (List ℕ))
    → Writes OutOfMemory (Some (Script names)) left left written written
script_unbegun names None written = tt
script_unbegun names (Some all) written =
    script_none names all written written (appends_none written)

-- none of an input was taken
unread : (all : List ℕ) → IsReadWithin all (Some all)
unread all = ([], (omega arith, refl, refl), omega arith)

-- the same of any command
pub nothing_left : (command : Option Command) (left written : Option (List ℕ))
    → Writes OutOfMemory command left left written written
nothing_left command None written = tt
nothing_left None (Some all) written = refl
nothing_left (Some (Eval names)) (Some all) written = (unread all, refl)
nothing_left (Some (Script names)) (Some all) written = script_unbegun names (Some all) written
nothing_left (Some (Serve settings names)) (Some all) written = (refl, refl)
nothing_left (Some (Load n)) (Some all) written = (refl, refl)

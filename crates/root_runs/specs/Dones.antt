-- What an expression did, and what is told of it (own).
use Rattle.std.specs.Prelude.{ℕ, Bool, List, [], ◌++◌, codes, length, Option, Some, None, option_map, Result, Ok, Err, if◌then◌else◌}
use Rattle.tuple_values.specs.Document.{ByteList, Doc}
use Rattle.exchange_rules.specs.declared.fault.SiteFault.{SiteFault}
use Rattle.exchange_rules.specs.declared.run.Ran.{Ran}
use Rattle.exchange_rules.specs.declared.run.RunFault.{RunFault}
use Rattle.exchange_rules.specs.declared.run.TopicFault.{TopicFault}
use Rattle.exchange_rules.specs.declared.run.TopicRead.{TopicRead}
use Rattle.exchange_rules.specs.declared.run.TopicRun.{TopicRun}
use Rattle.topic_book.specs.declared.topic.TopicKey.{TopicKey}
use Rattle.expr_types.specs.ExprTree.{ExprTree, operator_in}
use Rattle.expr_types.specs.Names.{function_name}
use Rattle.root_runs.specs.Texts.{run_told, site_told, topic_told}
use Rattle.root_runs.specs.declared.done.Done.{Done}

-- tuples that are given
abbrev pub given : List Doc → Done
given docs = record { docs = docs; exception = None; read = 0; stand = 0 }

-- tuples that a commit passes on
abbrev pub passed : List Doc → Done
passed docs = record { docs = docs; exception = None; read = length docs; stand = 0 }

-- a fault before anything was done
abbrev pub stopped : ByteList → Done
stopped text = record { docs = []; exception = Some text; read = 0; stand = 0 }

-- the fault of an expression that stands where it isn't carried out; a check refuses it before
abbrev pub misplaced : ExprTree → Done
misplaced e = stopped (codes "BadPlace " ++ function_name (operator_in e))

-- the fault of a collection that isn't there
abbrev pub unknown : ByteList → Done
unknown name = stopped (codes "UnknownCollection " ++ name)

-- how many tuples an update read, where it has no fault
abbrev pub read_by : ℕ → Option RunFault → ℕ
read_by tuples None = tuples
read_by tuples (Some fault) = 0

-- an update of so many tuples ran so
abbrev pub ran_over : ℕ → Ran → Done
ran_over tuples ran = record {
  docs = ran.summaries;
  exception = option_map (run_told ran.stand) ran.fault;
  read = read_by tuples ran.fault;
  stand = ran.stand;
}

-- what stands of it after a commit round it, or after that was refused; summaries stay
abbrev pub committed : Bool → Done → Result (Unit {0}) SiteFault → Done
committed summaries done (Ok unit) = done
committed summaries done (Err fault) = record {
  docs = if summaries then done.docs else [];
  exception = Some (site_told done.stand fault);
  read = 0;
  stand = done.stand;
}

-- a topic that gives its tuples ran so
abbrev pub followed : TopicKey → Result TopicRead SiteFault → Done
followed key (Ok read) = given read.tuples
followed key (Err fault) = stopped (topic_told key 0 fault)

-- a topic that is delivered ran so
abbrev pub delivered : TopicKey → Result TopicRun TopicFault → Done
delivered key (Ok run) = record {
  docs = run.summaries;
  exception = None;
  read = run.read;
  stand = run.stand;
}
delivered key (Err stop) = record {
  docs = stop.summaries;
  exception = Some (topic_told key stop.stand stop.fault);
  read = 0;
  stand = stop.stand;
}

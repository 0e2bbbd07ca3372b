-- What a cell takes has a spelling, and what a log answers.
use Rattle.std.proofs.Common.{◌≡◌, Bool, true, false, not, ◌&&◌, List, [], ◌∷◌, refl}
use Rattle.std.specs.Prelude.{OnErr, OnOk, Result, Ok, Err, is_some}
use Rattle.std.specs.List.{AllByRecursion}
use Rattle.tuple_values.specs.Document.{Doc, value_at}
use Rattle.shard_versions.specs.Documents.{has_group, is_storable, version_name}
use Rattle.shard_versions.specs.Fitness.{is_storable_kind, AreStorable}
use Rattle.shard_versions.specs.declared.entry.Entry.{Entry}
use Rattle.shard_versions.specs.declared.entry.Kind.{Kind}
use Rattle.shard_versions.specs.declared.entry.Kind.TheVariants.{Put, Del, Sent, Mark}
use Rattle.exchange_rules.specs.Cells.{log_of}
use Rattle.log_codec.specs.Entries.{holds_group}
use Rattle.log_codec.specs.Steps.{has_group_in, HoldsNoGroup}
use Rattle.site_laws.specs.Sealings.{entries_of}
use Rattle.site_laws.specs.declared.sealing.Sealing.{Sealing}
use Rattle.site_laws.specs.declared.sealing.Sealing.TheVariants as sealing
use Rattle.site_cells.specs.Values.{CanReserve}
use Rattle.site_cells.specs.declared.cell_value.CellValue.{CellValue}
use Rattle.site_cells.specs.declared.cell_value.CellValue.TheVariants as value

-- the second of three tests fails
second_fails : (a b c : Bool) → (not a && not b && not c) ≡ true → b ≡ false
second_fails a false c e = refl
second_fails true true c e = absurd (cc)
second_fails false true c e = absurd (cc)

-- a document that a shard takes holds no group
document_plain : (doc : Doc) → is_storable doc ≡ true → has_group doc ≡ false
unfolding is_storable
document_plain doc e = second_fails _ (has_group doc) (is_some (value_at version_name doc)) e

-- so no entry's does
kind_plain : (k : Kind) → is_storable_kind k ≡ true → holds_group k ≡ false
kind_plain (Put doc) e = document_plain doc e
kind_plain (Del id) e = refl
kind_plain (Sent src version doc) e = document_plain doc e
kind_plain Mark e = refl

-- nor one of several
step_plain : (step : List Entry) → AllByRecursion (λ e. is_storable_kind e.kind ≡ true) step
    → AllByRecursion (λ e. has_group_in e ≡ false) (log_of step)
step_plain [] a = tt
step_plain (e ∷ step) a = (kind_plain e.kind a.0, step_plain step a.1)

-- what a cell takes holds no group
pub sealing_plain : (v : CellValue) (x : Sealing) → CanReserve v x → HoldsNoGroup (entries_of x)
unfolding AreStorable
sealing_plain (value.Shard s) (sealing.Shard step) can = step_plain step can
sealing_plain (value.Shard s) (sealing.Book e) can = absurd can
sealing_plain (value.Book b) (sealing.Shard step) can = absurd can
sealing_plain (value.Book b) (sealing.Book e) can = (refl, tt)

-- what follows from what holds at Ok holds there
pub ok_also : {T E : Type 0} (P Q : Type 0) (r : Result T E) → (P → Q) → OnOk r P → OnOk r Q
ok_also P Q (Ok x) f h = f h
ok_also P Q (Err e) f h = tt

-- and what follows from what holds at Err
pub err_also : {T E : Type 0} (P Q : Type 0) (r : Result T E) → (P → Q) → OnErr r P → OnErr r Q
err_also P Q (Ok x) f h = tt
err_also P Q (Err e) f h = f h

use Rattle.std.proofs.Common.{◌∙◌, ap}
use Rattle.tuple_values.specs.Document.{put}
use Rattle.tuple_values.specs.Views.{datum_of}
use Rattle.log_codec.specs.Codes.{spelled_text}
use Rattle.log_codec.specs.Documents.{spelled_value, IsNextName, IsSpellableValue}
use Rattle.log_codec.proofs.PairLemmas.{pair-no_second, pair-read}
use Rattle.log_codec.proofs.FieldLemmas.{name-one}
use Rattle.log_codec.proofs.RiseLemmas.{put-last}
use Rattle.log_codec.proofs.documents.take_field.Goals as goal

pub returns-in_ok-put-in-Some-2-clause-some : goal.returns-in_ok-put-in-Some-2-clause-some
returns-in_ok-put-in-Some-2-clause-some c =
    let old = c.args.document.now in
    let value = rw c.in-Some-2.is at c.in_ok-value-in-Some.ensures.some in record {
      field = (c.in-Some.name.now, datum_of c.in-Some-2.value);
      front = pair-read (IsNextName old) IsSpellableValue spelled_text spelled_value _ _ _ _ _ c.in-Some.ensures.some value;
      added = c.in_ok-put-in-Some-2.ensures.ok ∙ ap (λ name. put name (datum_of c.in-Some-2.value) old) c.in_ok-of-in-Some-2.ensures
          ∙ put-last old c.in-Some.name.now (datum_of c.in-Some-2.value) c.in-Some.ensures.some.fits.1;
    }

pub returns-in-None-2-clause-none : goal.returns-in-None-2-clause-none
returns-in-None-2-clause-none c =
    let none = rw c.in-None-2.is at c.in_ok-value-in-Some.ensures.none in
    let old = c.args.document.now in
    pair-no_second (IsNextName old) IsSpellableValue spelled_text spelled_value (name-one old) _ _ _ c.in-Some.ensures.some none

use Rattle.form_request.proofs.OneReading as law
use Rattle.form_request.proofs.SomeReading as existence
use Rattle.form_request.proofs.reading.one_reading.Goals as goal

pub returns-clause-one : goal.returns-clause-one
returns-clause-one c = law.one_reading

pub returns-clause-some : goal.returns-clause-some
returns-clause-some c = existence.some_reading

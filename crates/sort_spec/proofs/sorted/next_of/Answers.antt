use Rattle.sort_spec.proofs.sorted.next_of.Goals as goal

pub returns-in_err-row-in-Merged-clause-sound : goal.returns-in_err-row-in-Merged-clause-sound
returns-in_err-row-in-Merged-clause-sound g c =
    rw c.as_slice.ensures at c.in_err-row-in-Merged.ensures.sound

pub returns-in_ok-row-in-Merged-clause-sound : goal.returns-in_ok-row-in-Merged-clause-sound
returns-in_ok-row-in-Merged-clause-sound g c =
    rw c.as_slice.ensures at c.in_ok-row-in-Merged.ensures.sound

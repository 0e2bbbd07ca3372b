-- What the slots of a shard's writes are seen as (own).
use Rattle.std.specs.Prelude.{ℕ, List, refl}
use Rattle.std.specs.Coded.{Coded, code_by, coded×, coded_ℕ, coded_list}
use Rattle.shard_segments.specs.declared.slot.Slot.{Slot}

-- slots in their order, and for how many more there is room
pub record Held : Type 0 where
  pub slots : List Slot
  pub room : ℕ

-- they are stored as the pair of both
abbrev pub held_code : Coded Slot → Coded Held
held_code slot_code =
    code_by (List Slot × ℕ) (coded× (coded_list slot_code) coded_ℕ) (λ h. (h.slots, h.room))
    (λ p. record { slots = p.0; room = p.1 }) (λ _. refl)

-- The items of a server, by its passes and the doors of a row (own).
use Rattle.std.specs.Prelude.{ℕ, zero, suc, ◌++◌, ◌&&◌, List, [], ◌∷◌, Bool, false, Option, Some, None, is_some, option_to_list}
use Rattle.pass_calls.specs.declared.doors.DoorRun.{DoorRun}
use Rattle.site_server.specs.declared.item.ItemOf.{ItemOf}

-- the first door, while a worker is to be made and a door is there
abbrev pub first_of : {D : Type 0} → ℕ → List D → Option D
first_of zero doors = None
first_of (suc n) [] = None
first_of (suc n) (d ∷ doors) = Some d

-- how many workers are to be made behind it, and the doors that are left
abbrev pub rest_of : {D : Type 0} → ℕ → List D → ℕ × List D
rest_of zero doors = (zero, doors)
rest_of (suc n) [] = (suc n, [])
rest_of (suc n) (d ∷ doors) = (n, doors)

-- an item that wasn't carried out
abbrev pub item_of : {D P : Type 0} → Option D → P → ItemOf D P
item_of door pass = record { door = door; pass = pass; run = None }

-- an item for each pass, of which so many first ones have the first doors
abbrev pub items_for : {D P : Type 0} → ℕ → List D → List P → List (ItemOf D P)
items_for n doors [] = []
items_for n doors (p ∷ passes) =
    item_of (first_of n doors) p ∷ items_for (rest_of n doors).0 (rest_of n doors).1 passes

-- how many workers are to be made behind them, and the doors that are left
abbrev pub behind : {D P : Type 0} → ℕ → List D → List P → ℕ × List D
behind n doors [] = (n, doors)
behind n doors (p ∷ passes) = behind (rest_of n doors).0 (rest_of n doors).1 passes

-- the doors of items, in their order
abbrev pub doors_in : {D P : Type 0} → List (ItemOf D P) → List D
doors_in [] = []
doors_in (x ∷ items) = option_to_list x.door ++ doors_in items

-- the pass of an item
abbrev pub pass_in : {D P : Type 0} → ItemOf D P → P
pass_in x = x.pass

-- whether a door failed, by how its serving went
abbrev pub failed_by : Option DoorRun → Bool
failed_by None = false
failed_by (Some run) = run.failed

-- whether the door of an item failed; where there is none, none did
abbrev pub failed_in : {D P : Type 0} → ItemOf D P → Bool
failed_in x = is_some x.door && failed_by x.run

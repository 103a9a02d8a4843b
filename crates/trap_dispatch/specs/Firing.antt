-- Which interrupts an event's changes fire (RAPID Instructions: ISignalDI, ISignalDO, IPers).
use Rattle.std.specs.Prelude.{ℕ, ◌-◌, Bool, false, not, ◌&&◌, ◌==◌, if◌then◌else◌, List, length, filter, slice_index_or, Option, None, Some}
use Rattle.std.specs.List.{list_any, range_with_len}
use Rattle.rapid_model.specs.Truths.{same_truth}
use Rattle.rapid_model.specs.declared.watched.Watched.{Watched}
use Rattle.rapid_model.specs.declared.watched.Watched.TheVariants.{Signal, Pers}
use Rattle.trap_dispatch.specs.declared.connected.Connected.{Connected}
use Rattle.trap_dispatch.specs.declared.order.Order.{Order}

-- what a number is connected with; numbers count from 1, and no other number is connected
abbrev pub connected_at : List (Option Connected) → ℕ → Option Connected
connected_at numbers number = if number == 0 then None else slice_index_or numbers (number - 1) None

-- the change is the one that is watched
abbrev pub is_change : Watched → Watched → Bool
is_change (Signal s v) (Signal t w) = s == t && same_truth v w
is_change (Pers p) (Pers q) = p == q
is_change _ _ = false

-- an order is on one of the changes
abbrev pub is_on : List Watched → Option Order → Bool
is_on changes None = false
is_on changes (Some order) = list_any (is_change order.on) changes

-- an interrupt fires: its order is on one of the changes, and it does not sleep
abbrev pub fires : List Watched → Option Connected → Bool
fires changes None = false
fires changes (Some c) = not c.asleep && is_on changes c.order

-- the numbers that fire, ascending; there are as many numbers as entries, from 1
abbrev pub fired_numbers : List Watched → List (Option Connected) → List ℕ
fired_numbers changes numbers = filter (λ number. fires changes (connected_at numbers number)) (range_with_len 1 (length numbers))

-- a Single order ends
abbrev pub after_its_firing : Option Order → Option Order
after_its_firing None = None
after_its_firing (Some order) = if order.single then None else Some order

-- an interrupt after the changes: a Single order that fires ends, and the number stays connected
abbrev pub after_firing : List Watched → Option Connected → Option Connected
after_firing changes None = None
after_firing changes (Some c) = if fires changes (Some c) then Some (record c { order = after_its_firing c.order }) else Some c

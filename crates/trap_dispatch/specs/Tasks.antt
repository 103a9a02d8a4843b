-- The interrupts of one task (RAPID Instructions: CONNECT, ISleep, IWatch, IDelete, IDisable, IEnable).
use Rattle.std.specs.Prelude.{◌≡◌, ◌≤◌, ℕ, ◌+◌, ◌-◌, Bool, true, false, not, ◌||◌, ◌==◌, nat_lt, IsTrue, if◌then◌else◌, List, [], ◌∷◌, ◌++◌, length, take, map, filter, replicate, slice_set, Option, None, Some, is_some, is_none, Result, Ok, Err}
use Rattle.std.specs.List.{list_all, position_from}
use Rattle.rapid_limits.specs.declared.TheConstants.{LONGEST_QUEUE, MOST_INTERRUPTS}
use Rattle.rapid_model.specs.declared.watched.Watched.{Watched}
use Rattle.trap_dispatch.specs.declared.connect_fault.ConnectFault.{ConnectFault}
use Rattle.trap_dispatch.specs.declared.connect_fault.ConnectFault.TheVariants as connect_faults
use Rattle.trap_dispatch.specs.declared.connected.Connected.{Connected}
use Rattle.trap_dispatch.specs.declared.due.Due.{Due}
use Rattle.trap_dispatch.specs.declared.due.Due.TheVariants as dues
use Rattle.trap_dispatch.specs.declared.order.Order.{Order}
use Rattle.trap_dispatch.specs.Firing.{connected_at, fired_numbers, after_firing}

-- number n has index n - 1, with no entry while it is free; the queue holds the numbers that wait for their traps
pub record TaskData : Type 0 where
  pub numbers : List (Option Connected)
  pub queue : List ℕ
  pub flood : Bool
  pub disabled : Bool
  pub in_trap : Bool

-- there are 64 numbers and room for 1,024 firings, and each number that waits is connected
pub record IsTask (numbers : List (Option Connected)) (queue : List ℕ) : Type 0 where
  pub count : length numbers ≡ MOST_INTERRUPTS
  pub room : length queue ≤ LONGEST_QUEUE
  pub connected : IsTrue (list_all (λ number. is_some (connected_at numbers number)) queue)

-- no number is connected
abbrev pub before_all : TaskData
before_all = record { numbers = replicate MOST_INTERRUPTS None; queue = []; flood = false; disabled = false; in_trap = false }

-- the least free number, counted from 1
abbrev pub least_free : Option ℕ → Result ℕ ConnectFault
least_free None = Err connect_faults.NoMore
least_free (Some index) = Ok (index + 1)

-- the answer to a connection: `Already` if the old number is connected, `NoMore` if no number is free, otherwise the
-- least free one
abbrev pub connect_answer : TaskData → ℕ → Result ℕ ConnectFault
connect_answer t old = if is_some (connected_at t.numbers old) then Err connect_faults.Already else least_free (position_from is_none 0 t.numbers)

-- the same with another interrupt for a number, or none
abbrev pub with_number : TaskData → ℕ → Option Connected → TaskData
with_number t number connected = record t { numbers = slice_set t.numbers (number - 1) connected }

-- newly connected: awake, with no order
abbrev pub fresh : ℕ → Option Connected
fresh trap = Some (record { trap = trap; order = None; asleep = false })

-- an interrupt, if there is one, with an order
abbrev pub with_order : Option Order → Option Connected → Option Connected
with_order order None = None
with_order order (Some c) = Some (record c { order = order })

-- an interrupt, if there is one, asleep or awake
abbrev pub with_sleep : Bool → Option Connected → Option Connected
with_sleep asleep None = None
with_sleep asleep (Some c) = Some (record c { asleep = asleep })

-- the number has the order
abbrev pub ordered : TaskData → ℕ → Order → TaskData
ordered t number order = with_number t number (with_order (Some order) (connected_at t.numbers number))

-- the number is asleep, or awake
abbrev pub slept : TaskData → ℕ → Bool → TaskData
slept t number asleep = with_number t number (with_sleep asleep (connected_at t.numbers number))

-- the number is free, and no longer waits
abbrev pub deleted : TaskData → ℕ → TaskData
deleted t number = record t { numbers = slice_set t.numbers (number - 1) None; queue = filter (λ n. not (n == number)) t.queue }

-- the numbers that fire are queued while there is room; if one finds none, the flood is marked for good
abbrev pub after_changes : List Watched → TaskData → TaskData
after_changes changes t =
    let fired = fired_numbers changes t.numbers in
    record { numbers = map (after_firing changes) t.numbers; queue = take LONGEST_QUEUE (t.queue ++ fired); flood = t.flood || nat_lt LONGEST_QUEUE (length t.queue + length fired); disabled = t.disabled; in_trap = t.in_trap }

-- the trap of an interrupt
abbrev pub trap_of : Option Connected → ℕ
trap_of None = 0
trap_of (Some c) = c.trap

-- the first number that waits, with its trap
abbrev pub first_due : TaskData → List ℕ → Due
first_due t [] = dues.None
first_due t (number ∷ _) = dues.Trap number (trap_of (connected_at t.numbers number))

-- whether a trap is to run: a marked flood takes precedence
abbrev pub look_answer : TaskData → Due
look_answer t = if t.flood then dues.Flood else if t.in_trap || t.disabled then dues.None else first_due t t.queue

abbrev pub is_due : Due → Bool
is_due dues.None = false
is_due _ = true

-- the first number leaves the queue, and its trap runs
abbrev pub in_first_trap : TaskData → List ℕ → TaskData
in_first_trap t [] = t
in_first_trap t (_ ∷ queue) = record t { queue = queue; in_trap = true }

abbrev pub after_look : TaskData → TaskData
after_look t = if t.flood || t.in_trap || t.disabled then t else in_first_trap t t.queue

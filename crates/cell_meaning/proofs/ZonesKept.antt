-- Each arm has ten entries for zones, and the least free number is one of them.
use Rattle.std.proofs.Common.{◌≡◌, ℕ, zero, suc, ◌+◌, ◌-◌, ◌≤◌, ◌<◌, Bool, true, false, List, length, get_or, replicate, Option, None, Some, is_some, refl, sym, ◌∙◌, ap, subst, arith, IfSome}
use Rattle.std.specs.Prelude.{is_none, Result, Ok, Err, if◌then◌else◌}
use Rattle.std.specs.List.{position_from}
use Rattle.std.proofs.lemmas.List.{length-set}
use Rattle.rapid_model.specs.CellData.{CellData}
use Rattle.rapid_model.specs.declared.answer.Answer.{Answer}
use Rattle.rapid_model.specs.declared.answer.Answer.TheVariants as answers
use Rattle.rapid_model.specs.declared.event.Event.{Event}
use Rattle.rapid_model.specs.declared.request.Request.{Request}
use Rattle.rapid_model.specs.declared.request.Request.TheVariants as requests
use Rattle.trap_dispatch.proofs.Positions.{position_from-below}
use Rattle.world_zones.specs.declared.own_zone.OwnZone.{OwnZone}
use Rattle.world_zones.specs.declared.zone_fault.ZoneFault.{ZoneFault}
use Rattle.world_zones.specs.declared.zone_fault.ZoneFault.TheVariants as zone_faults
use Rattle.world_zones.specs.Outputs.{tying, unless_tied}
use Rattle.world_zones.specs.Zones.{ZonesData, no_zones, arm_at, with_arm, zone_at, with_zone, given, switched, least_free, set_answer}
use Rattle.cell_meaning.specs.Zones.{zones_with, zones_after}
use Rattle.cell_meaning.proofs.Lists.{from_front, written_keeps}
use Rattle.cell_meaning.proofs.MoreEvents.{zones_after-more}

abbrev HasTen : List (Option OwnZone) → Type 0
HasTen zones = length zones ≡ 10

abbrev AllHaveTen : ZonesData → Type 0
AllHaveTen zones = (task : ℕ) → HasTen (arm_at zones task)

none_yet : (count task : ℕ) → HasTen (get_or (replicate count no_zones) task no_zones)
none_yet zero task = refl
none_yet (suc count) zero = refl
none_yet (suc count) (suc task) = none_yet count task

one_written : (zones : ZonesData) (task number : ℕ) (zone : Option OwnZone) → AllHaveTen zones → AllHaveTen (with_arm zones task (with_zone (arm_at zones task) number zone))
one_written zones task number zone ten k =
    written_keeps HasTen zones.arms task k (with_zone (arm_at zones task) number zone) no_zones (ten k)
    (λ same. length-set (arm_at zones task) (number - 1) zone ∙ ten task)

ten_with : (zones : ZonesData) (task : ℕ) (request : Request) (answer : Answer) → AllHaveTen zones → AllHaveTen (zones_with zones task request answer)
ten_with zones task (requests.ZoneSet old temporary shape) (answers.Number number) ten = one_written zones task number (given temporary shape) ten
ten_with zones task (requests.ZoneTie old temporary shape signal value) (answers.Number number) ten =
    one_written zones task number (tying temporary shape (record { signal = signal; value = value })) ten
ten_with zones task (requests.ZoneOn zone) answers.Ok ten = one_written zones task zone (switched true (zone_at (arm_at zones task) zone)) ten
ten_with zones task (requests.ZoneOff zone) answers.Ok ten = one_written zones task zone (switched false (zone_at (arm_at zones task) zone)) ten
ten_with zones task (requests.ZoneFree zone) answers.Ok ten = one_written zones task zone None ten
ten_with zones task _ _ ten = ten

pub zones_kept : (cell : CellData) (history : List Event) (task : ℕ) → length (arm_at (zones_after cell history) task) ≡ 10
zones_kept cell history =
    from_front (λ h. AllHaveTen (zones_after cell h)) history (none_yet (length cell.tasks))
    (λ before after e is ten. subst AllHaveTen (sym (zones_after-more cell before e)) (ten_with (zones_after cell before) e.actor e.request e.answer ten))

-- the least free number is one of the ten
pub free_zone : (zones : List (Option OwnZone)) (old number : ℕ) → length zones ≡ 10 → set_answer zones old ≡ Ok number → (1 ≤ number) × (number ≤ 10)
free_zone zones old number entries is = by (is_some (zone_at zones old)) is
  where
    least : (index : Option ℕ) → IfSome index (λ p. p < 10) → least_free index ≡ Ok number → (1 ≤ number) × (number ≤ 10)
    least None below e = cc
    least (Some p) below e = let same : p + 1 ≡ number = cc in (omega arith, omega arith)

    by : (b : Bool) → (if b then Err zone_faults.ZoneUsed else least_free (position_from is_none 0 zones)) ≡ Ok number → (1 ≤ number) × (number ≤ 10)
    by true e = cc
    by false e = least (position_from is_none 0 zones) (position_from-below is_none 0 10 zones (omega (arith, entries))) e

-- a zone that sets an output gets a number if its signal is not tied, as another zone would
pub tie_given : (tied : Bool) (result : Result ℕ ZoneFault) (number : ℕ) → unless_tied tied result ≡ Ok number → (tied ≡ false) × (result ≡ Ok number)
tie_given tied (Err zone_faults.ZoneUsed) number is = cc
tie_given tied (Err zone_faults.ZoneFull) number is = cc
tie_given true (Ok k) number is = cc
tie_given false (Ok k) number is = let same : k ≡ number = cc in (refl, ap (λ (n : ℕ). Ok n) same)

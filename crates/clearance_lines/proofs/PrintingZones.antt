-- The lines of one zone after another.
use Rattle.std.proofs.Common.{◌≡◌, ℕ, zero, suc, ◌+◌, ◌<◌, ◌≤◌, true, List, [], ◌∷◌, ◌++◌, length, get_or, take, refl, sym, ◌∙◌, ap, subst, arith, append-nil, append_assoc}
use Rattle.std.specs.Prelude.{Bool, Result, Ok, Err, ⊤}
use Rattle.std.specs.List.{list_all}
use Rattle.std.proofs.lemmas.Bool.{and_parts}
use Rattle.outside.specs.declared.failed.Failed.{Failed}
use Rattle.rapid_model.specs.CellData.{CellData}
use Rattle.rapid_model.specs.declared.event.Event.{Event}
use Rattle.rapid_model.specs.declared.zone_row.ZoneRow.{ZoneRow}
use Rattle.cell_meaning.specs.Fates.{fates_after}
use Rattle.history_text.specs.Lines.{fate_lines}
use Rattle.clearance_lines.specs.ArmPaths.{path_of}
use Rattle.clearance_lines.specs.Clearances.{AreClearances, Clearance, IsClearance, clearance_lines, zone_lines}
use Rattle.clearance_lines.specs.Measured.{WritesMeasured, WritesZone, WritesZones}
use Rattle.sink_lines.specs.Printed.{Seen, Sunk}
use Rattle.sink_lines.specs.Written.{Writes}
use Rattle.sink_lines.proofs.Gains.{between, gained_none, writes_then, wrote_first}
use Rattle.sink_lines.proofs.Lists.{take-element}
use Rattle.run_lines.proofs.PrintingList.{writes_same}

-- these zones are measured, and their lines are written
pub record ZonesPrinted (cell : CellData) (history : List Event) (zones : List ZoneRow) (result : Result ⊤ Failed) (sink : Sunk) : Type 0 where
  pub clearances : List Clearance
  pub are : AreClearances cell history zones clearances
  pub written : Writes (clearance_lines cell history zones clearances) result sink

pub zones_begin : (cell : CellData) (history : List Event) (u : ⊤) (a : Seen) → ZonesPrinted cell history [] (Ok u) (between a a)
zones_begin cell history u a = record {
  clearances = [];
  are = tt;
  written = record {
    bytes = gained_none a.bytes;
    calls = record { calls = []; holds = refl; gained = gained_none a.calls };
    faults = omega arith;
  };
}

one_more : (cell : CellData) (history : List Event) (zones : List ZoneRow) (clearances : List Clearance) (zone : ZoneRow) (clearance : Clearance) → AreClearances cell history zones clearances
    → IsClearance zone.shape (path_of cell history zone.task) clearance → AreClearances cell history (zones ++ zone ∷ []) (clearances ++ clearance ∷ [])
one_more cell history [] [] zone clearance all is = (is, tt)
one_more cell history [] (c ∷ clearances) zone clearance all is = absurd all
one_more cell history (z ∷ zones) [] zone clearance all is = absurd all
one_more cell history (z ∷ zones) (c ∷ clearances) zone clearance all is = (all.0, one_more cell history zones clearances zone clearance all.1 is)

lines_more : (cell : CellData) (history : List Event) (zones : List ZoneRow) (clearances : List Clearance) (zone : ZoneRow) (clearance : Clearance) → AreClearances cell history zones clearances
    → clearance_lines cell history zones clearances ++ zone_lines zone.name (path_of cell history zone.task) clearance ≡ clearance_lines cell history (zones ++ zone ∷ []) (clearances ++ clearance ∷ [])
lines_more cell history [] [] zone clearance all = sym (append-nil (zone_lines zone.name (path_of cell history zone.task) clearance))
lines_more cell history [] (c ∷ clearances) zone clearance all = absurd all
lines_more cell history (z ∷ zones) [] zone clearance all = absurd all
lines_more cell history (z ∷ zones) (c ∷ clearances) zone clearance all =
    let head = zone_lines z.name (path_of cell history z.task) c in
    append_assoc head (clearance_lines cell history zones clearances) (zone_lines zone.name (path_of cell history zone.task) clearance)
    ∙ ap (λ (lines : List (List ℕ)). head ++ lines) (lines_more cell history zones clearances zone clearance all.1)

zone_more : (cell : CellData) (history : List Event) (zones : List ZoneRow) (zone : ZoneRow) (before printed : Result ⊤ Failed) (a b c : Seen) → ZonesPrinted cell history zones before (between a b)
    → WritesZone cell history zone before printed (between b c) → ZonesPrinted cell history (zones ++ zone ∷ []) printed (between a c)
zone_more cell history zones zone before printed a b c z w = record {
  clearances = z.clearances ++ w.clearance ∷ [];
  are = one_more cell history zones z.clearances zone w.clearance z.are w.is;
  written =
      writes_same (clearance_lines cell history zones z.clearances ++ zone_lines zone.name (path_of cell history zone.task) w.clearance) (clearance_lines cell history (zones ++ zone ∷ []) (z.clearances ++ w.clearance ∷ [])) printed (between a c)
      (lines_more cell history zones z.clearances zone w.clearance z.are) (w.on.on a (clearance_lines cell history zones z.clearances) z.written);
}

-- the zones up to and including zone k
pub zone_printed : (cell : CellData) (history : List Event) (k : ℕ) (zone : ZoneRow) (before printed : Result ⊤ Failed) (a b c : Seen) → k < length cell.zones → zone ≡ get_or cell.zones k zone
    → ZonesPrinted cell history (take k cell.zones) before (between a b) → WritesZone cell history zone before printed (between b c) → ZonesPrinted cell history (take (k + 1) cell.zones) printed (between a c)
zone_printed cell history k zone before printed a b c lt is z w =
    subst (λ (zones : List ZoneRow). ZonesPrinted cell history zones printed (between a c)) (sym (take-element cell.zones k zone lt is))
    (zone_more cell history (take k cell.zones) zone before printed a b c z w)

-- as they are looked up
pub zone_printed_of : (cell : CellData) (history : List Event) (items : List ZoneRow) (k : ℕ) (zone : ZoneRow) (before printed : Result ⊤ Failed) (a b c : Seen) → items ≡ cell.zones → k < length items → zone ≡ get_or items k zone
    → ZonesPrinted cell history (take k cell.zones) before (between a b) → WritesZone cell history zone before printed (between b c) → ZonesPrinted cell history (take (k + 1) cell.zones) printed (between a c)
zone_printed_of cell history items k zone before printed a b c same lt is z w =
    zone_printed cell history k zone before printed a b c (subst (λ (zones : List ZoneRow). k < length zones) same lt) (subst (λ (zones : List ZoneRow). zone ≡ get_or zones k zone) same is) z w

take_all : (n : ℕ) (zones : List ZoneRow) → length zones ≤ n → take n zones ≡ zones
take_all zero [] all = refl
take_all (suc n) [] all = refl
take_all zero (z ∷ zones) all = absurd (omega (arith, all))
take_all (suc n) (z ∷ zones) all = ap (λ (zs : List ZoneRow). z ∷ zs) (take_all n zones (omega (arith, all)))

pub zones_printed : (cell : CellData) (history : List Event) (k : ℕ) (printed : Result ⊤ Failed) (sink : Sunk) → length cell.zones ≤ k → ZonesPrinted cell history (take k cell.zones) printed sink → WritesZones cell history printed sink
zones_printed cell history k printed sink all z =
    let whole = subst (λ (zones : List ZoneRow). ZonesPrinted cell history zones printed sink) (take_all k cell.zones all) z in
    record { clearances = whole.clearances; are = whole.are; written = whole.written }

-- a test that all zones pass, each passes
pub zone_passes : (test : ZoneRow → Bool) (zones : List ZoneRow) (k : ℕ) (zone : ZoneRow) → list_all test zones ≡ true → k < length zones → zone ≡ get_or zones k zone → test zone ≡ true
zone_passes test [] k zone all lt is = absurd (omega (arith, lt))
zone_passes test (z ∷ zones) zero zone all lt is = subst (λ (x : ZoneRow). test x ≡ true) (sym is) (and_parts (test z) (list_all test zones) all).0
zone_passes test (z ∷ zones) (suc k) zone all lt is = zone_passes test zones k zone (and_parts (test z) (list_all test zones) all).1 (omega (arith, lt)) is

-- and then the fates of the tasks
abbrev ends_of : CellData → List Event → List (List ℕ)
ends_of cell history = fate_lines cell.tasks (fates_after cell history (length cell.tasks))

pub measured_failed : (cell : CellData) (history : List Event) (e f : Failed) (sink : Sunk) → WritesZones cell history (Err e) sink → WritesMeasured cell history (Err f) sink
measured_failed cell history e f sink z = record {
  clearances = z.clearances;
  are = z.are;
  written = wrote_first (clearance_lines cell history cell.zones z.clearances) (ends_of cell history) sink z.written;
}

pub measured_written : (cell : CellData) (history : List Event) (u : ⊤) (result : Result ⊤ Failed) (a b c : Seen) → WritesZones cell history (Ok u) (between a b) → Writes (ends_of cell history) result (between b c)
    → WritesMeasured cell history result (between a c)
measured_written cell history u result a b c z w = record {
  clearances = z.clearances;
  are = z.are;
  written = writes_then (clearance_lines cell history cell.zones z.clearances) (ends_of cell history) result a b c z.written w;
}

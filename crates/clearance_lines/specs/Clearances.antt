-- How near the arms came to the zones of the cell, and what is printed of it.
use Rattle.std.specs.Prelude.{ℕ, Bool, List, [], ◌∷◌, ◌++◌, length, Option, Some, None, slice_get, codes, decimal, ℤ, nat_abs, ◌*ℤ◌, int_lt}
use Rattle.std.specs.List.{AllZip, IsFirstBest}
use Rattle.rapid_num.specs.declared.shape.Shape.{Shape}
use Rattle.rapid_model.specs.CellData.{CellData}
use Rattle.rapid_model.specs.declared.event.Event.{Event}
use Rattle.rapid_model.specs.declared.zone_row.ZoneRow.{ZoneRow}
use Rattle.zone_clearance.specs.declared.gap.Gap.{Gap}
use Rattle.zone_clearance.specs.declared.side.Side.{Side}
use Rattle.zone_clearance.specs.declared.side.Side.TheVariants.{Zero, Low, High}
use Rattle.zone_clearance.specs.Certificates.{AreFirstSides}
use Rattle.zone_clearance.specs.Gaps.{IsGap}
use Rattle.clearance_lines.specs.ArmPaths.{Segment, path_of}

-- the gap of a segment and a zone, with the first sides that prove it
pub record IsGapOf (shape : Shape) (segment : Segment) (gap : Gap) : Type 0 where
  pub least : IsGap segment.start segment.end shape gap
  pub sides : AreFirstSides segment.start segment.end shape gap

-- one gap is less than another
abbrev pub is_nearer : Gap → Gap → Bool
is_nearer one two = int_lt (one.top *ℤ two.bottom) (two.top *ℤ one.bottom)

-- the gaps of the segments of a path, in order, and the place among them of the first one that is the least
pub record Clearance : Type 0 where
  pub gaps : List Gap
  pub nearest : ℕ

pub record IsClearance (shape : Shape) (path : List Segment) (clearance : Clearance) : Type 0 where
  pub each : AllZip (IsGapOf shape) path clearance.gaps
  pub nearest : IsFirstBest is_nearer clearance.gaps (length clearance.gaps) clearance.nearest

-- a clearance for each zone of the cell, of the path of the zone's arm
abbrev pub AreClearances : CellData → List Event → List ZoneRow → List Clearance → Type 0
AreClearances cell history zones clearances = AllZip (λ zone clearance. IsClearance zone.shape (path_of cell history zone.task) clearance) zones clearances

-- a fraction, which is not negative
abbrev pub fraction_words : ℤ → ℤ → List ℕ
fraction_words top bottom = decimal (nat_abs top) ++ (47 ∷ decimal (nat_abs bottom))

abbrev pub side_words : Side → List ℕ
side_words Zero = codes "zero"
side_words (Low axis) = decimal axis ++ codes "low"
side_words (High axis) = decimal axis ++ codes "high"

abbrev pub second_words : Option Side → List ℕ
second_words None = codes "-"
second_words (Some side) = side_words side

-- the number of an event, if there is one
abbrev pub event_words : Option ℕ → List ℕ
event_words None = codes "start"
event_words (Some number) = decimal number

-- G, the zone, the event, the distance, the fraction of the way, and the sides that prove it
abbrev pub gap_line : List ℕ → Option ℕ → Gap → List ℕ
gap_line name event gap =
    codes "G " ++ (name ++ (32 ∷ event_words event ++ (32 ∷ fraction_words gap.top gap.bottom ++ (32 ∷ fraction_words gap.at_top gap.at_bottom
    ++ (32 ∷ side_words gap.first ++ (32 ∷ second_words gap.second ++ codes "\n"))))))

-- C, the zone, the event and the distance
abbrev pub nearest_line : List ℕ → Option ℕ → Gap → List ℕ
nearest_line name event gap = codes "C " ++ (name ++ (32 ∷ event_words event ++ (32 ∷ fraction_words gap.top gap.bottom ++ codes "\n")))

-- a line for each segment and its gap
abbrev pub gap_lines : List ℕ → List Segment → List Gap → List (List ℕ)
gap_lines name (segment ∷ segments) (gap ∷ gaps) = gap_line name segment.event gap ∷ gap_lines name segments gaps
gap_lines name _ _ = []

-- the line of the first segment with the least gap
abbrev pub nearest_lines : List ℕ → Option Segment → Option Gap → List (List ℕ)
nearest_lines name (Some segment) (Some gap) = nearest_line name segment.event gap ∷ []
nearest_lines name _ _ = []

abbrev pub zone_lines : List ℕ → List Segment → Clearance → List (List ℕ)
zone_lines name path clearance = gap_lines name path clearance.gaps ++ nearest_lines name (slice_get path clearance.nearest) (slice_get clearance.gaps clearance.nearest)

-- the lines of the zones in order
abbrev pub clearance_lines : CellData → List Event → List ZoneRow → List Clearance → List (List ℕ)
clearance_lines cell history (zone ∷ zones) (clearance ∷ clearances) = zone_lines zone.name (path_of cell history zone.task) clearance ++ clearance_lines cell history zones clearances
clearance_lines cell history _ _ = []

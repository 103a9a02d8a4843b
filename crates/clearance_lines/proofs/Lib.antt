mod ClearanceExamples
pub mod ArmPositions
pub mod NearestGaps
pub mod PathGaps
pub mod Walking
pub mod PrintingZones

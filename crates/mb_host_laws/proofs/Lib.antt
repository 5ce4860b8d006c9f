-- Small facts (`Cases`), walks through a step (`Walks`, `KeptByEvents`, `RoomForRules`, `KeptForms`), earlier moments (`Moments`), what each entry
-- rests on (`Rests`, `RestsGiven`, `RestsRules`, `RestsEvents`), what stands in the parts of a given message (`PartClaims`, `Parts`), what is
-- executed (`Executing`, `Rising`, `Marked`), and what is known of all that a host holds (`HeldViews`, `HeldStable`, `HeldFloors`) and stamps (from
-- `OwnKnown` to `OwnStamped`), where it is known of what the host accepted.
pub mod Cases
pub mod Marked
pub mod Rising
pub mod RoomForRules
pub mod Walks
pub mod KeptForms
pub mod KeptByEvents
pub mod PartsHeld
pub mod FloorCerts
pub mod Found
pub mod FirstBatches
pub mod DistinctHosts
pub mod Rests
pub mod RestsGiven
pub mod RestsRules
pub mod RestsEvents
pub mod Moments
pub mod PlanShows
pub mod PlanFits
pub mod PartClaims
pub mod Parts
pub mod OwnKnown
pub mod FloorsReached
pub mod OwnGates
pub mod HeldViews
pub mod OwnSlots
pub mod HeldStable
pub mod OwnViews
pub mod HeldFloors
pub mod OwnPlanGood
pub mod OwnLogs
pub mod OwnMade
pub mod OwnStamped
pub mod Unspent
pub mod Executing

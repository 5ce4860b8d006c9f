-- Views agree, and what correct hosts hold of other views is sound: over the facts of a world.
-- What a gate took is a part of its sender's ordered prefix (`Follows`), a certified floor is where the prefix led (`Certified`), so gates jump to sound
-- floors alone (`Jumps`, by induction over worlds). Issued evidence is of the plan of usable logs (`Evidenced`), so the record of what was stamped is
-- consistent, and views agree (`Agreed`). The plan that a host holds is known (`HeldPlans`), and so are the members of its certificates (`KnownMembers`).
pub mod Prefixes
pub mod Follows
pub mod CorrectOne
pub mod Floors
pub mod Certified
pub mod PrefixesGrow
pub mod Jumps
pub mod ChangeClaims
pub mod Planned
pub mod KnownPlans
pub mod UsableChanges
pub mod HeldChanges
pub mod GoodPlans
pub mod MadeOf
pub mod OwnPlans
pub mod EvidenceHost
pub mod AcceptedIn
pub mod Evidenced
pub mod Agreed
pub mod HeldPlans
pub mod SoundPlans
pub mod PlanMoments
pub mod HeldSound
pub mod OwnSeen
pub mod ShownLists
pub mod GateGiven
pub mod KnownCerts
pub mod KnownStable
pub mod KnownHeld
pub mod KnownMembers
pub mod InWorlds

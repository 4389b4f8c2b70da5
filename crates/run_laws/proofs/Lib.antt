pub mod Sets
pub mod Codes
pub mod WorldStamps
pub mod Few
pub mod Growing
pub mod LockWrites
pub mod OneLock
pub mod LocksFirst
pub mod Fits
pub mod Recovering
pub mod Passing
pub mod WorldChecked
pub mod ShardKinds
pub mod Checked
pub mod TurnStep
pub mod Rests
pub mod OtherLanes
pub mod Nodes
pub mod Proper
pub mod Ends
pub mod PartCalls
pub mod Seen
pub mod LastRecords
pub mod OpenLanes
pub mod NewRecords
pub mod NewBatches
pub mod TurnKinds
pub mod BatchTurns
pub mod WaveTurns
pub mod Members
pub mod Flights
pub mod Granting
pub mod Stopping
pub mod Sharing
pub mod Between
pub mod FreeReplies
pub mod Told
pub mod WaveRecords
pub mod Confirmed
pub mod Placed
pub mod FreeRuns
mod Row
pub mod Sums
pub mod Scales
pub mod Numbers
pub mod Weights
mod Lanes
mod Budgets
mod Growth
mod Planned
mod Stamps
pub mod Room

-- What always holds of the parts of a shard.
use Rattle.std.specs.Prelude.{◌≡◌, ℕ, ◌+◌, ◌*◌, ◌≤◌, Bool, List, length, vec_capacity, Some, None, slice_get}
use Rattle.std.specs.Global.{Vec}
use Rattle.cbdc_types.specs.declared.calls.LockCall.{LockCall}
use Rattle.cbdc_types.specs.declared.calls.Replied.{Replied}
use Rattle.cbdc_model.specs.Records.{Record, lock_of, Lock}
use Rattle.cbdc_model.specs.Replies.{entries, replies}
use Rattle.cbdc_model.specs.Slots.{slot, InLock}
use Rattle.cbdc_model.specs.Room.{kept_room}
use Rattle.cbdc_model.specs.Due.{used_of, open_batch}
use Rattle.outside.specs.declared.disk.Disk.{Ghosts}
use Rattle.gate_journal.specs.Shown.{disk_of, broken_of}
use Rattle.record_log.specs.declared.log.RecordLog.{RecordLog}
use Rattle.record_log.specs.Logs.{HasLogRoom}
use Rattle.shard_core.specs.Stands.{ShardStands}
use Rattle.shard_core.specs.declared.core_state.ShardCore.{ShardCore}
use Rattle.shard_node.specs.declared.parts.Parts.{Parts}
use Rattle.node_journal.specs.Sound.{IsNode, IsOpened, journal_of}
use Rattle.node_journal.specs.declared.nodes.Node.{Node}
use Rattle.record_grammar.specs.Kinds.{IsShardHeader}

-- for each locked batch there is memory for a decision on each entry
abbrev pub HaveDecisions : List Record → List (Vec Bool) → Type 0
HaveDecisions J memory =
    (lane : ℕ) (m : Vec Bool) → slice_get memory lane ≡ Some m → (slot J lane).phase ≡ InLock
    → length (lock_of J (open_batch J lane)) ≤ vec_capacity m

-- there is memory for the records behind those of unfinished batches, of which each takes 34 bytes at least, up to the largest Finish
pub record HasRecords {D : Type 0} {G : Ghosts D} (log : RecordLog D G) (kept : ℕ) : Type 0 where
  pub count : ℕ
  pub room : HasLogRoom log count 1057
  pub enough : kept ≤ 34 * count

-- the memory for the unfinished batches is there
pub record HasMemory {D : Type 0} {G : Ghosts D} (p : Parts D G) : Type 0 where
  pub decisions : HaveDecisions (journal_of p.node) p.decisions.items
  pub records : HasRecords p.node.log (kept_room p.node.log.header.shape (journal_of p.node))

-- the core stands for the journal, which is a shard's; its unfinished batches have the room that they still need, and until an append fails their
-- memory
pub record IsShardOf {D : Type 0} {G : Ghosts D} (p : Parts D G) : Type 0 where
  pub node : IsNode IsShardHeader p.node
  pub header : p.node.core.header ≡ p.node.log.header
  pub stands : ShardStands p.node.core (journal_of p.node)
  pub lanes : length p.decisions.items ≡ p.node.log.header.shape.coordinators * p.node.log.header.shape.lanes
  pub room : used_of (journal_of p.node) + kept_room p.node.log.header.shape (journal_of p.node) ≤ G.limit (disk_of p.node.log.journal)
  pub memory : broken_of p.node.log.journal ≡ None → HasMemory p

-- a shard that was just opened
abbrev pub IsShardOpened : {D : Type 0} {G : Ghosts D} → Node ShardCore D G → Type 0
IsShardOpened n = IsOpened (λ core. core.header) ShardStands IsShardHeader n

-- the record is the Lock of this call with these replies
abbrev pub IsLockOf : Record → LockCall → Replied → Type 0
IsLockOf (Lock stamp b es) c a = (stamp ≡ a.stamp) × (b ≡ c.batch) × (entries es ≡ c.part) × (replies es ≡ a.replies)
IsLockOf other c a = ⊥

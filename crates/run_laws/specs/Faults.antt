-- What checked journals say of a lane's fault.
use Rattle.std.specs.Prelude.{◌≡◌, ℕ, ◌+◌, ◌-◌, ◌^◌, ◌<◌, ◌≤◌, true, nat_lt, if◌then◌else◌, List, Some}
use Rattle.cbdc_types.specs.declared.calls.Refused.{Refused}
use Rattle.cbdc_types.specs.declared.calls.NodeFault.{NodeFault}
use Rattle.cbdc_types.specs.declared.calls.NodeFault.TheVariants.{Broken, Refused as Refuses, ClockEnd, Full, DiskFault, Memory}
use Rattle.cbdc_model.specs.Records.{Shape, Batch, Compact, Record, record_of, stamp_of, Prepare, lock_kind, finish_kind, forget_kind, prepare_kind}
use Rattle.cbdc_model.specs.Slots.{Phase, slot, Idle, InPrepare, InCommit}
use Rattle.cbdc_model.specs.Ranges.{home_of, shard_node, part}
use Rattle.cbdc_model.specs.Room.{need_of}
use Rattle.cbdc_model.specs.Due.{used_of, prepare_record, lock_record}
use Rattle.cbdc_types.specs.Limits.{IsWithinLimits}
use Rattle.cbdc_model.specs.History.{Minted}
use Rattle.cbdc_model.specs.Sights.{Sight, HasRisen}
use Rattle.lane_laws.specs.Calls.{is_concerned}
use Rattle.lane_laws.specs.Faults.{HaveBelow, IsOpenFault, IsBatchFault}
use Rattle.run_laws.specs.Checked.{CheckedJournals}
use Rattle.run_laws.specs.Runs.{seen_by}

-- in checked journals no shard refuses a call of a lane's open batch
abbrev pub GrantLaw : Type 0
GrantLaw = (K : Shape) (m : Minted) (logs shards : ℕ → Sight) (b : Batch) (txs : List Compact) (node : ℕ) (why : Refused)
    → 0 < K.shards → home_of K b.lane < K.coordinators → CheckedJournals K m (seen_by K logs shards)
    → IsOpenFault K b txs (logs (home_of K b.lane)) shards node (Refuses why) → ⊥

-- the record that the lane needs next at this node: where it is idle, its next Prepare at its coordinator, of transactions that are next; where its
-- batch is prepared, the Lock of a concerned shard that has not come to this batch, each lesser one having its Lock
pub data IsNext (K : Shape) (lane : ℕ) (next : List Compact → Type 0) (J : ℕ → List Record) (node : ℕ) (r : Record) : Type 0 where
  next_prepare : (txs : List Compact) → next txs → node ≡ home_of K lane → (slot (J node) lane).phase ≡ Idle → r ≡ prepare_record (J node) lane txs
      → IsNext K lane next J node r
  next_lock : (b : Batch) (t : ℕ) (txs : List Compact) (s : ℕ) → b.lane ≡ lane → node ≡ shard_node K s → is_concerned K txs s ≡ true
      → (slot (J (home_of K b.lane)) b.lane).phase ≡ InPrepare
      → record_of prepare_kind (J (home_of K b.lane)) b ≡ Some (Prepare t b txs) → HaveBelow K txs (λ k. J (shard_node K k)) lock_kind b s
      → (slot (J node) b.lane).number < b.number
      → r ≡ lock_record (J node) (record { batch = b; part = part K s 0 txs; cause = t }) → IsNext K lane next J node r

-- the node, on a disk of so many bytes, has no room for what that record needs, whose stamp is not past the last one
pub record HasNoRoom (K : Shape) (lane : ℕ) (next : List Compact → Type 0) (J : ℕ → List Record) (limit node used need capacity : ℕ) : Type 0 where
  pub wanted : Record
  pub is_next : IsNext K lane next J node wanted
  pub early : stamp_of wanted ≤ 2 ^ 62
  pub limit_is : capacity ≡ limit
  pub used_is : used ≡ used_of (J node)
  pub need_is : need ≡ need_of K (J node) wanted
  pub above : capacity < used + need

-- or no stamp for it
pub record HasNoStamp (K : Shape) (lane : ℕ) (next : List Compact → Type 0) (J : ℕ → List Record) (node stamp : ℕ) : Type 0 where
  pub wanted : Record
  pub is_next : IsNext K lane next J node wanted
  pub stamp_is : stamp ≡ stamp_of wanted
  pub above : 2 ^ 62 < stamp

-- the kind of record that a lane waits for at the shards behind a batch's Prepare, Commit or Discard: the Lock, the Finish or the Forget
abbrev pub awaited : Phase → ℕ
awaited InPrepare = lock_kind
awaited InCommit = finish_kind
awaited other = forget_kind

-- the batch is the lane's last one and is open still, its Prepare stands, and each concerned shard below n has the record that the lane waits for
pub record HasHeard (K : Shape) (lane : ℕ) (J : ℕ → List Record) (b : Batch) (txs : List Compact) (n : ℕ) : Type 0 where
  pub of_lane : b.lane ≡ lane
  pub number : (slot (J (home_of K lane)) lane).number ≡ b.number
  pub busy : (slot (J (home_of K lane)) lane).phase ≡ Idle → ⊥
  pub stamp : ℕ
  pub prepare : record_of prepare_kind (J (home_of K lane)) b ≡ Some (Prepare stamp b txs)
  pub heard : HaveBelow K txs (λ s. J (shard_node K s)) (awaited (slot (J (home_of K lane)) lane).phase) b n

-- the lane asks this node: its coordinator, for its next Prepare, where it is idle and has transactions that are next; where it has an open batch, a
-- concerned shard, once it has heard from each lesser one, or its coordinator, once it has heard from all
pub data IsAsked (K : Shape) (lane : ℕ) (next : List Compact → Type 0) (J : ℕ → List Record) (node : ℕ) : Type 0 where
  asks_prepare : (txs : List Compact) → next txs → node ≡ home_of K lane → (slot (J (home_of K lane)) lane).phase ≡ Idle → IsAsked K lane next J node
  asks_log : (b : Batch) (txs : List Compact) → node ≡ home_of K lane → HasHeard K lane J b txs K.shards → IsAsked K lane next J node
  asks_shard : (b : Batch) (txs : List Compact) (s : ℕ) → node ≡ shard_node K s → is_concerned K txs s ≡ true → HasHeard K lane J b txs s
      → IsAsked K lane next J node

-- it is a node of the ledger that the lane asks, whose disk has failed since it was opened
pub record HasFailed (K : Shape) (lane : ℕ) (next : List Compact → Type 0) (J : ℕ → List Record) (opened faults : ℕ → ℕ) (node : ℕ) : Type 0 where
  pub node_is : node < K.coordinators + K.shards
  pub asked : IsAsked K lane next J node
  pub rose : HasRisen (opened node) (faults node)

-- why a lane stopped at a node, by the journals at its stop and what each node is: the lane asks it, and its disk has failed since it was opened;
-- Full and ClockEnd are those of the record that the lane needs next there; nothing is refused
abbrev pub IsStopBy : Shape → ℕ → (List Compact → Type 0) → (ℕ → List Record) → (ℕ → ℕ) → (ℕ → ℕ) → (ℕ → ℕ) → ℕ → NodeFault → Type 0
IsStopBy K lane next J opened faults capacity node (Broken since) = HasFailed K lane next J opened faults node
IsStopBy K lane next J opened faults capacity node (Refuses why) = ⊥
IsStopBy K lane next J opened faults capacity node (ClockEnd stamp) = HasNoStamp K lane next J node stamp
IsStopBy K lane next J opened faults capacity node (Full used need limit) = HasNoRoom K lane next J (capacity node) node used need limit
IsStopBy K lane next J opened faults capacity node DiskFault = HasFailed K lane next J opened faults node
IsStopBy K lane next J opened faults capacity node Memory = Unit {0}

-- how often the disk of each node had failed when the node was opened, the coordinators first
abbrev pub opened_by : Shape → (ℕ → Sight) → (ℕ → Sight) → ℕ → ℕ
opened_by K logs shards n = if nat_lt n K.coordinators then (logs n).opened else (shards (n - K.coordinators)).opened

-- how often the disk of each node has failed by now, the coordinators first
abbrev pub faults_by : Shape → (ℕ → Sight) → (ℕ → Sight) → ℕ → ℕ
faults_by K logs shards n = if nat_lt n K.coordinators then (logs n).faults else (shards (n - K.coordinators)).faults

-- how many bytes the disk of each node may hold, the coordinators first
abbrev pub capacity_by : Shape → (ℕ → Sight) → (ℕ → Sight) → ℕ → ℕ
capacity_by K logs shards n = if nat_lt n K.coordinators then (logs n).capacity else (shards (n - K.coordinators)).capacity

-- in checked journals a fault of a new batch, of these transactions, and one of an open batch, is one of these
abbrev pub StopLaw : Type 0
StopLaw = (K : Shape) (m : Minted) (lane : ℕ) (logs shards : ℕ → Sight) (txs : List Compact) (node : ℕ) (f : NodeFault)
    → IsWithinLimits K → home_of K lane < K.coordinators → (logs (home_of K lane)).header.shape ≡ K
    → ((s : ℕ) → s < K.shards → (shards s).header.shape ≡ K)
    → CheckedJournals K m (seen_by K logs shards)
    → (IsBatchFault K lane txs (logs (home_of K lane)) shards node f
    → IsStopBy K lane (λ t. t ≡ txs) (seen_by K logs shards) (opened_by K logs shards) (faults_by K logs shards) (capacity_by K logs shards) node f)
    × ((b : Batch) → b.lane ≡ lane → IsOpenFault K b txs (logs (home_of K lane)) shards node f
    → IsStopBy K lane (λ t. ⊥) (seen_by K logs shards) (opened_by K logs shards) (faults_by K logs shards) (capacity_by K logs shards) node f)

-- A node's disk is refused in one way at most.
use Rattle.std.specs.Prelude.{◌≡◌, ◌+◌, ◌≤◌, ℕ, List}
use Rattle.cbdc_types.specs.declared.calls.NodeOpenFault.{NodeOpenFault}
use Rattle.cbdc_types.specs.declared.calls.NodeOpenFault.TheVariants.{DiskFault, NotReady, OtherKind, Damaged, Full, Memory}
use Rattle.cbdc_model.specs.Records.{Header, Record}
use Rattle.cbdc_model.specs.Room.{kept_room}
use Rattle.cbdc_model.specs.Due.{used_of}
use Rattle.shard_node.specs.Opening.{IsShardJournal, IsNoShard}
use Rattle.coord_log.specs.Opening.{IsCoordJournal, IsNoCoord}

-- a refusal that the bytes and the capacity alone decide: not a fault of the disk, nor that memory ran out
abbrev pub IsRefusalOfBytes : NodeOpenFault → Type 0
IsRefusalOfBytes DiskFault = ⊥
IsRefusalOfBytes Memory = ⊥
IsRefusalOfBytes NotReady = Unit {0}
IsRefusalOfBytes OtherKind = Unit {0}
IsRefusalOfBytes (Damaged at) = Unit {0}
IsRefusalOfBytes (Full used need capacity) = Unit {0}

-- two such refusals of a disk are one, where this tells for what a disk with such room and bytes is refused
abbrev pub OneRefusal : (ℕ → List ℕ → NodeOpenFault → Type 0) → Type 0
OneRefusal IsNo = (limit : ℕ) (bytes : List ℕ) (e f : NodeOpenFault) → IsRefusalOfBytes e → IsRefusalOfBytes f → IsNo limit bytes e
    → IsNo limit bytes f → e ≡ f

-- a disk whose bytes are such a journal, with the room that it needs, has none
abbrev pub NoRefusal : (Header → List Record → List ℕ → Type 0) → (ℕ → List ℕ → NodeOpenFault → Type 0) → Type 0
NoRefusal Is IsNo = (h : Header) (J : List Record) (limit : ℕ) (bytes : List ℕ) (e : NodeOpenFault) → IsRefusalOfBytes e → Is h J bytes
    → used_of J + kept_room h.shape J ≤ limit → IsNo limit bytes e → ⊥

-- a disk is refused in one way at most as a shard, and in one way at most as a coordinator (`OneRefusal`)
abbrev pub OneRefusalLaw : Type 0
OneRefusalLaw = OneRefusal IsNoShard × OneRefusal IsNoCoord

-- a disk with a shard's journal, and the room that it needs, is not refused as a shard, and so of coordinators (`NoRefusal`)
abbrev pub NoRefusalLaw : Type 0
NoRefusalLaw = NoRefusal IsShardJournal IsNoShard × NoRefusal IsCoordJournal IsNoCoord

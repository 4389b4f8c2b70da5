-- What holds of a coordinator's parts.
use Rattle.std.specs.Prelude.{◌≡◌, ℕ, ◌+◌, ◌≤◌, ◌<◌, None}
use Rattle.outside.specs.declared.disk.Disk.{Ghosts}
use Rattle.gate_journal.specs.Shown.{disk_of, gate_of, broken_of}
use Rattle.cbdc_types.specs.declared.calls.NodeFault.{NodeFault}
use Rattle.cbdc_types.specs.declared.calls.NodeFault.TheVariants.{Full, Memory}
use Rattle.cbdc_model.specs.Records.{Record}
use Rattle.cbdc_model.specs.Grammar.{IsInGrammar}
use Rattle.cbdc_model.specs.Due.{used_of}
use Rattle.cbdc_model.specs.Room.{size_of, need_of}
use Rattle.record_log.specs.declared.log.RecordLog.{RecordLog}
use Rattle.record_log.specs.Logs.{HasLogRoom}
use Rattle.coord_core.specs.Lanes.{CoordOf, CoordAdmits, CoordTakes, AllRoomed, kept_of, ahead_of}
use Rattle.coord_core.specs.Stands.{CoordStands}
use Rattle.record_grammar.specs.Kinds.{IsCoord}
use Rattle.node_journal.specs.Sound.{IsNode, journal_of}
use Rattle.node_journal.specs.declared.nodes.Node.{Node}

-- the most bytes of a later record's body
abbrev pub largest : ℕ
largest = 58410

-- there is room and memory for a record, and behind it for the later ones of the batches that are open then
pub record HasPlace {D : Type 0} {G : Ghosts D} (l : RecordLog D G) (c : CoordOf) (bytes count : ℕ) : Type 0 where
  pub space : gate_of l.journal + 1 + bytes + kept_of c.lanes ≤ G.limit (disk_of l.journal)
  pub rooms : AllRoomed c
  pub memory : HasLogRoom l (count + ahead_of c.lanes) largest

-- the lanes stand for the journal, which is a coordinator's, and what is kept for the open batches is free
pub record StandsOn {D : Type 0} {G : Ghosts D} (n : Node CoordOf D G) : Type 0 where
  pub node : IsNode IsCoord n
  pub header : n.core.header ≡ n.log.header
  pub stands : CoordStands n.core (journal_of n)
  pub free : used_of (journal_of n) + kept_of n.core.lanes ≤ G.limit (disk_of n.log.journal)

-- so it is, and until an append fails the open batches have their place
pub record IsCoordSound {D : Type 0} {G : Ghosts D} (n : Node CoordOf D G) : Type 0 where
  pub on : StandsOn n
  pub ready : broken_of n.log.journal ≡ None → HasPlace n.log n.core 0 0

-- the record is next, in the grammar, and has its place and the room that it needs
pub record IsDue {D : Type 0} {G : Ghosts D} (n : Node CoordOf D G) (r : Record) : Type 0 where
  pub on : StandsOn n
  pub whole : broken_of n.log.journal ≡ None
  pub next : CoordAdmits n.core r
  pub grammar : IsInGrammar n.log.header r
  pub size : HasLogRoom n.log 1 (size_of r)
  pub needs : used_of (journal_of n) + need_of n.log.header.shape (journal_of n) r ≤ G.limit (disk_of n.log.journal)
  pub place : (d : CoordOf) → CoordTakes n.core d r → HasPlace n.log d (size_of r) 1

-- why there is no room: the disk is full, with these numbers, or memory ran out
abbrev pub IsNoRoom : ℕ → ℕ → ℕ → NodeFault → Type 0
IsNoRoom used need capacity (Full u n c) = (capacity < used + need) × (u ≡ used) × (n ≡ need) × (c ≡ capacity)
IsNoRoom used need capacity Memory = Unit {0}
IsNoRoom used need capacity other = ⊥

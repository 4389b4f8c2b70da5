-- What contracts see of a node's log.
use Rattle.std.specs.Prelude.{ℕ, reverse, Option}
use Rattle.outside.specs.declared.disk.Disk.{Ghosts}
use Rattle.gate_journal.specs.Shown.{disk_of, gate_of, broken_of}
use Rattle.cbdc_model.specs.Records.{Record}
use Rattle.record_log.specs.declared.log.RecordLog.{RecordLog}
use Rattle.node_journal.specs.Nodes.{NodeOf}

-- a log on a disk that had failed so often when it was opened, with this record in flight
abbrev pub shown : {D : Type 0} {G : Ghosts D} → RecordLog D G → ℕ → Option Record → NodeOf D
shown {D} {G} l opened flight = record {
  header = l.header;
  journal = reverse l.records.items;
  flight = flight;
  faults = G.count (disk_of l.journal);
  opened = opened;
  broken = broken_of l.journal;
  gate = gate_of l.journal;
  capacity = G.limit (disk_of l.journal);
  disk = disk_of l.journal;
}

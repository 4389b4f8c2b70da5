-- A shard's parts stay a shard's behind a record.
use Rattle.std.proofs.Common.{◌≡◌, Bool, ℕ, ◌+◌, ◌*◌, ◌≤◌, List, ◌∷◌, length, reverse, refl, sym, ◌∙◌, ap, subst, arith}
use Rattle.std.specs.Global.{Vec}
use Rattle.cbdc_model.specs.Records.{Header, Record}
use Rattle.cbdc_model.specs.Room.{kept_room}
use Rattle.cbdc_model.specs.Due.{used_of}
use Rattle.cbdc_model.specs.Sights.{Stays}
use Rattle.outside.specs.declared.disk.Disk.{Ghosts}
use Rattle.gate_journal.specs.Shown.{disk_of, broken_of}
use Rattle.record_log.specs.Logs.{HasLogRoom}
use Rattle.record_grammar.specs.Kinds.{IsShardHeader}
use Rattle.shard_core.specs.declared.core_state.ShardCore.{ShardCore}
use Rattle.shard_core.specs.Stands.{ShardStands, IsSameState}
use Rattle.shard_core.proofs.Same.{stands_same}
use Rattle.node_journal.specs.Nodes.{sight}
use Rattle.node_journal.specs.Sound.{IsNode, journal_of, view_of}
use Rattle.node_journal.specs.Writing.{HasKept, HasBroken}
use Rattle.node_journal.specs.declared.nodes.Node.{Node}
use Rattle.node_journal.proofs.Behind.{pushed}
use Rattle.node_journal.proofs.Sound.{reserved, none_some}
use Rattle.shard_node.specs.declared.parts.Parts.{Parts}
use Rattle.shard_node.specs.Parts.{HaveDecisions, HasRecords, IsShardOf}

module _ {D : Type 0} {G : Ghosts D} where
  -- the record was written and taken in
  abbrev pub HasWritten : Node ShardCore D G → Node ShardCore D G → Record → Type 0
  HasWritten old new r = HasKept old.log new.log r × ((J : List Record) → ShardStands old.core J → ShardStands new.core (r ∷ J))
      × (new.core.header ≡ old.core.header)

  -- the disk failed at it
  abbrev pub HasFailed : Node ShardCore D G → Node ShardCore D G → Type 0
  HasFailed old new = HasBroken old.log new.log × (new.core ≡ old.core)

  pub made_room : (p : Parts D G) (core : ShardCore) → IsShardOf p → IsSameState p.node.core core
      → IsShardOf (record p { node = record p.node { core = core } })
  made_room p core is same = record {
    node = reserved IsShardHeader p.node p.node.log core is.node (record { disk = refl; gate = refl; broken = refl }) refl refl;
    header = same.header ∙ is.header;
    stands = stands_same p.node.core core (journal_of p.node) same is.stands;
    lanes = is.lanes;
    room = is.room;
    memory = λ none. let m = is.memory none in record { decisions = m.decisions; records = m.records };
  }

  -- behind a record for whose later ones there are room and memory
  pub wrote : (p : Parts D G) (memory : Vec (Vec Bool)) (node : Node ShardCore D G) (r : Record) → IsShardOf p
      → length memory.items ≡ length p.decisions.items → IsNode IsShardHeader node → HasWritten p.node node r
      → used_of (r ∷ journal_of p.node) + kept_room p.node.log.header.shape (r ∷ journal_of p.node) ≤ G.limit (disk_of p.node.log.journal)
      → HaveDecisions (r ∷ journal_of p.node) memory.items
      → (count : ℕ) → HasLogRoom p.node.log (count + 1) 1057 → kept_room p.node.log.header.shape (r ∷ journal_of p.node) ≤ 34 * count
      → IsShardOf (record { node = node; decisions = memory })
  wrote p memory node r s len is w free decisions count room enough =
      let J = journal_of p.node in
      let now : journal_of node ≡ r ∷ J = pushed p.node.log node.log r w.0 in
      let records : HasRecords node.log (kept_room p.node.log.header.shape (r ∷ J)) =
      record { count = count; room = w.0.room count 1057 room; enough = enough } in
      let free_now : used_of (r ∷ J) + kept_room p.node.log.header.shape (r ∷ J) ≤ G.limit (disk_of node.log.journal) =
      omega (arith, free, w.0.limit) in
      record {
        node = is;
        header = w.2 ∙ s.header ∙ sym w.0.header;
        stands = subst (λ (l : List Record). ShardStands node.core l) (sym now) (w.1 J s.stands);
        lanes = len ∙ s.lanes ∙ ap (λ (h : Header). h.shape.coordinators * h.shape.lanes) (sym w.0.header);
        room = subst (λ (h : Header). used_of (journal_of node) + kept_room h.shape (journal_of node) ≤ G.limit (disk_of node.log.journal))
            (sym w.0.header)
            (subst (λ (l : List Record). used_of l + kept_room p.node.log.header.shape l ≤ G.limit (disk_of node.log.journal)) (sym now) free_now);
        memory = λ _. record {
          decisions = subst (λ (l : List Record). HaveDecisions l memory.items) (sym now) decisions;
          records = subst (λ (h : Header). HasRecords node.log (kept_room h.shape (journal_of node))) (sym w.0.header)
              (subst (λ (l : List Record). HasRecords node.log (kept_room p.node.log.header.shape l)) (sym now) records);
        };
      }

  pub failed : (p : Parts D G) (memory : Vec (Vec Bool)) (node : Node ShardCore D G) → IsShardOf p → length memory.items ≡ length p.decisions.items
      → IsNode IsShardHeader node → HasFailed p.node node → IsShardOf (record { node = node; decisions = memory })
  failed p memory node s len is f =
      let J = journal_of p.node in
      let now : journal_of node ≡ J = ap reverse f.0.records in
      let kept : kept_room node.log.header.shape (journal_of node) ≡ kept_room p.node.log.header.shape J =
      ap (λ (l : List Record). kept_room node.log.header.shape l) now ∙ ap (λ (h : Header). kept_room h.shape J) f.0.header in
      record {
        node = is;
        header = ap (λ c. c.header) f.1 ∙ s.header ∙ sym f.0.header;
        stands = subst (λ c. ShardStands c (journal_of node)) (sym f.1) (subst (λ (l : List Record). ShardStands p.node.core l) (sym now) s.stands);
        lanes = len ∙ s.lanes ∙ ap (λ (h : Header). h.shape.coordinators * h.shape.lanes) (sym f.0.header);
        room = omega (arith, s.room, kept, ap used_of now, f.0.limit);
        memory = λ none. none_some (G.count (disk_of node.log.journal)) (broken_of node.log.journal) f.0.broken none;
      }

  -- what a caller sees where nothing was written
  pub parts_stay : (p : Parts D G) → Stays (sight (view_of p.node)) (sight (view_of p.node)) (journal_of p.node)
  parts_stay p = record { node = record { header = refl; opened = refl; capacity = refl; later = omega arith }; seen = refl; flight = refl }

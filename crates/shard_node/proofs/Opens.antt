-- A shard's disk that was opened.
use Rattle.std.proofs.Common.{◌≡◌, ℕ, zero, suc, ◌+◌, ◌*◌, ◌/◌, ◌≤◌, min, Bool, List, [], ◌∷◌, length, reverse, vec_capacity, All, Some, sym, ◌∙◌, ap}
use Rattle.std.proofs.Common.{subst, arith}
use Rattle.std.specs.Global.{Vec}
use Rattle.std.specs.Prelude.{slice_get}
use Rattle.std.proofs.lemmas.List.Elements.{All-head, All-tail}
use Rattle.cbdc_model.specs.Records.{Header, Record}
use Rattle.cbdc_model.specs.Room.{kept_room}
use Rattle.cbdc_model.specs.Due.{used_of, open_batch}
use Rattle.outside.specs.declared.disk.Disk.{Ghosts}
use Rattle.record_log.specs.declared.log.RecordLog.{RecordLog}
use Rattle.record_log.specs.Logs.{HasLogRoom, IsUntouched}
use Rattle.shard_core.specs.declared.core_state.ShardCore.{ShardCore}
use Rattle.shard_core.specs.Stands.{ShardStands}
use Rattle.record_grammar.specs.Kinds.{IsShardHeader}
use Rattle.node_journal.specs.Sound.{journal_of}
use Rattle.node_journal.specs.declared.nodes.Node.{Node}
use Rattle.node_journal.proofs.Sound.{reserved}
use Rattle.node_journal.proofs.Journals.{in_grammar}
use Rattle.node_journal.proofs.Kept.{lock_few, kept_small}
use Rattle.shard_node.specs.Parts.{HaveDecisions, IsShardOf, IsShardOpened}

all_at : {X : Type 0} (P : X → Type 0) (xs : List X) (i : ℕ) (x : X) → slice_get xs i ≡ Some x → All P xs → P x
all_at P [] i x is all = cc
all_at P (y ∷ xs) zero x is all = let same : y ≡ x = (cc) in subst P same (All-head P y xs all)
all_at P (y ∷ xs) (suc i) x is all = all_at P xs i x is (All-tail P y xs all)

module _ {D : Type 0} {G : Ghosts D} where
  -- with memory for its unfinished batches
  pub opened_shard : (n : Node ShardCore D G) (log : RecordLog D G) (memory : Vec (Vec Bool)) (kept : ℕ) → IsShardOpened n
      → ((K : List Record) → ShardStands n.core K → kept ≡ min (kept_room n.core.header.shape K) 18446744073709551615) → IsUntouched n.log log
      → log.records.items ≡ n.log.records.items → log.header ≡ n.log.header
      → length memory.items ≡ n.log.header.shape.coordinators * n.log.header.shape.lanes
      → All (λ m. n.log.header.shape.batch ≤ vec_capacity m) memory.items → HasLogRoom log (kept / 34 + 1) 1057
      → IsShardOf {D = D} {G = G} (record { node = record n { log = log }; decisions = memory })
  opened_shard n log memory kept is counted untouched records header lanes room has =
      let J : List Record = journal_of n in
      let all = in_grammar n.log.header J is.node.journal in
      let same : reverse log.records.items ≡ J = ap reverse records in
      let kept_is : kept ≡ kept_room n.log.header.shape J =
      let head : kept_room n.core.header.shape J ≡ kept_room n.log.header.shape J = ap (λ (k : Header). kept_room k.shape J) is.header in
      omega (arith, counted J is.stands, head, kept_small n.log.header J is.node.limits all) in
      let kept_now : kept_room log.header.shape (reverse log.records.items) ≡ kept_room n.log.header.shape J =
      ap (λ (l : List Record). kept_room log.header.shape l) same ∙ ap (λ (h : Header). kept_room h.shape J) header in
      record {
        node = reserved IsShardHeader n log n.core is.node untouched records header;
        header = is.header ∙ sym header;
        stands = subst (λ (l : List Record). ShardStands n.core l) (sym same) is.stands;
        lanes = lanes ∙ ap (λ (h : Header). h.shape.coordinators * h.shape.lanes) (sym header);
        room = omega (arith, ap used_of same, kept_now, is.room, ap G.limit untouched.disk);
        memory = λ _. record {
          decisions = subst (λ (l : List Record). HaveDecisions l memory.items) (sym same)
              (λ lane m get phase. omega (
                arith,
                all_at (λ (v : Vec Bool). n.log.header.shape.batch ≤ vec_capacity v) memory.items lane m get room,
                lock_few n.log.header J (open_batch J lane) all,
              ));
          records = record { count = kept / 34 + 1; room = has; enough = omega (arith, kept_now, kept_is) };
        };
      }

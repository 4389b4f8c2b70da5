-- What a write leaves of a coordinator's parts, and what the memory does that is taken before it.
use Rattle.std.proofs.Common.{◌≡◌, ℕ, ◌+◌, List, ◌∷◌, length, reverse, ap, sym, ◌∙◌, subst, arith}
use Rattle.std.specs.Prelude.{sum_by}
use Rattle.std.proofs.lemmas.List.Sums.{sum_by-cons}
use Rattle.outside.specs.declared.disk.Disk.{Ghosts}
use Rattle.gate_journal.specs.Shown.{disk_of, broken_of}
use Rattle.cbdc_model.specs.Records.{Header, Record}
use Rattle.cbdc_model.specs.After.{After, Follows}
use Rattle.cbdc_model.specs.Due.{used_of}
use Rattle.cbdc_model.specs.Room.{size_of}
use Rattle.record_grammar.specs.Kinds.{IsCoord}
use Rattle.record_log.specs.Bodies.{body_of}
use Rattle.record_log.proofs.LogSizes.{size_is}
use Rattle.record_log.specs.Logs.{HasLogRoom, IsUntouched}
use Rattle.record_log.specs.declared.log.RecordLog.{RecordLog}
use Rattle.coord_core.specs.Lanes.{CoordOf, IsSameButRoom, kept_of, ahead_of}
use Rattle.coord_core.specs.Stands.{CoordStands, CoordHasTaken}
use Rattle.coord_core.proofs.Journals.{follows_next}
use Rattle.coord_core.proofs.Same.{stands_same}
use Rattle.node_journal.specs.Sound.{IsNode, journal_of}
use Rattle.node_journal.specs.Writing.{HasKept, HasBroken}
use Rattle.node_journal.specs.declared.nodes.Node.{Node}
use Rattle.node_journal.proofs.Behind.{pushed}
use Rattle.node_journal.proofs.Sound.{reserved, none_some}
use Rattle.coord_log.specs.Inside.{largest, HasPlace, StandsOn, IsCoordSound, IsDue}

module _ {D : Type 0} {G : Ghosts D} where
  -- memory for the record itself
  pub own_memory : (n : Node CoordOf D G) (r : Record) → IsDue n r → HasLogRoom n.log 1 (length (body_of r))
  own_memory n r due =
      let size = size_is n.log.header r due.on.node.limits due.grammar in
      record { records = due.size.records; body = omega (arith, due.size.body, size); row = omega (arith, due.size.row, size) }

  -- it is next
  pub due_after : (n : Node CoordOf D G) (r : Record) → IsDue n r → After n.log.header (journal_of n) r
  due_after n r due =
      let F : Header → Type 0 = λ h. Follows h (journal_of n) r in
      (due.grammar, subst F due.on.header (follows_next n.core (journal_of n) r due.on.stands due.next))

  -- the record was written
  pub sound_after : (old new : Node CoordOf D G) (r : Record) → IsDue old r → IsNode IsCoord new → HasKept old.log new.log r
      → CoordHasTaken old.core new.core r → new.core.header ≡ old.core.header → IsCoordSound new
  sound_after old new r due is kept taken same =
      let J : journal_of new ≡ r ∷ journal_of old = pushed old.log new.log r kept in
      let size : 9 + length (body_of r) ≡ size_of r = size_is old.log.header r due.on.node.limits due.grammar in
      let place : HasPlace old.log new.core (size_of r) 1 = due.place new.core taken.taken in
      let sums : sum_by size_of (r ∷ journal_of old) ≡ size_of r + sum_by size_of (journal_of old) = sum_by-cons size_of r (journal_of old) in
      let M : ℕ → Type 0 = λ n. HasLogRoom old.log n largest in
      record {
        on = record {
          node = is;
          header = same ∙ due.on.header ∙ sym kept.header;
          stands = let S : List Record → Type 0 = λ x. CoordStands new.core x in subst S (sym J) (taken.stands (journal_of old) due.on.stands);
          free = omega (arith, ap used_of J, sums, due.on.node.used due.whole, place.space, kept.limit);
        };
        ready = λ e. record {
          space = omega (arith, place.space, kept.gate, kept.limit, size);
          rooms = place.rooms;
          memory = kept.room (0 + ahead_of new.core.lanes) largest (subst M (omega arith) place.memory);
        };
      }

  -- the disk failed at it
  pub sound_broken : (old new : Node CoordOf D G) (r : Record) → IsDue old r → IsNode IsCoord new → HasBroken old.log new.log → new.core ≡ old.core
      → IsCoordSound new
  sound_broken old new r due is failed same =
      let J : journal_of new ≡ journal_of old = ap reverse failed.records in
      record {
        on = record {
          node = is;
          header = ap (λ c. c.header) same ∙ due.on.header ∙ sym failed.header;
          stands = subst (λ d. CoordStands d (journal_of new)) (sym same) (subst (λ x. CoordStands old.core x) (sym J) due.on.stands);
          free = omega (arith, ap used_of J, ap (λ c. kept_of c.lanes) same, due.on.free, failed.limit);
        };
        ready = λ e. none_some (G.count (disk_of new.log.journal)) (broken_of new.log.journal) failed.broken e;
      }

  -- more room, and nothing else
  pub stands_on : (n : Node CoordOf D G) (l : RecordLog D G) (c : CoordOf) → IsUntouched n.log l → l.records.items ≡ n.log.records.items
      → l.header ≡ n.log.header → IsSameButRoom n.core c → StandsOn n
      → StandsOn {D = D} {G = G} (record { log = l; core = c; opened = n.opened; flight = n.flight })
  stands_on n l c untouched records header same on = record {
    node = reserved IsCoord n l c on.node untouched records header;
    header = same.header ∙ on.header ∙ sym header;
    stands = subst (λ x. CoordStands c (reverse x)) (sym records) (stands_same n.core c (journal_of n) same on.stands);
    free = omega (arith, on.free, ap (λ x. used_of (reverse x)) records, same.kept, ap G.limit untouched.disk);
  }

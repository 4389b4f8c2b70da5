-- A coordinator's disk that was opened.
use Rattle.std.proofs.Common.{◌≡◌, reverse, ap, sym, ◌∙◌, subst, arith}
use Rattle.outside.specs.declared.disk.Disk.{Ghosts}
use Rattle.cbdc_model.specs.Records.{Header}
use Rattle.cbdc_model.specs.After.{IsJournal}
use Rattle.cbdc_model.specs.Room.{kept_room}
use Rattle.cbdc_model.specs.Due.{used_of}
use Rattle.record_log.specs.Logs.{HasLogRoom, IsUntouched}
use Rattle.record_log.specs.declared.log.RecordLog.{RecordLog}
use Rattle.record_grammar.specs.Kinds.{IsCoord}
use Rattle.coord_core.specs.Lanes.{CoordOf, IsCoordWhole, kept_of, ahead_of}
use Rattle.coord_core.specs.Stands.{CoordStands, IsRoomyFor}
use Rattle.coord_core.proofs.Kept.{kept_is}
use Rattle.node_journal.specs.Sound.{IsOpened, journal_of}
use Rattle.node_journal.specs.declared.nodes.Node.{Node}
use Rattle.node_journal.proofs.Sound.{reserved}
use Rattle.coord_log.specs.Inside.{largest, IsCoordSound}

-- with memory for the records that are still to come
pub opened_sound : {D : Type 0} {G : Ghosts D} (n : Node CoordOf D G) (l : RecordLog D G) → IsOpened (λ x. x.header) IsRoomyFor IsCoord n
    → IsCoordWhole n.core → IsUntouched n.log l
    → l.records.items ≡ n.log.records.items → l.header ≡ n.log.header → HasLogRoom l (ahead_of n.core.lanes) largest
    → IsCoordSound {D = D} {G = G} (record { log = l; core = n.core; opened = n.opened; flight = n.flight })
opened_sound {D} {G} n l is whole untouched records header memory =
    let there : IsJournal n.core.header (journal_of n) = subst (λ (h : Header). IsJournal h (journal_of n)) (sym is.header) is.node.journal in
    let kept : kept_of n.core.lanes ≡ kept_room n.log.header.shape (journal_of n) =
    kept_is n.core (journal_of n) whole is.stands.stands there ∙ ap (λ (h : Header). kept_room h.shape (journal_of n)) is.header in
    let limit = ap G.limit untouched.disk in
    let used = is.node.used (is.node.unbroken is.landed) in
    record {
      on = record {
        node = reserved IsCoord n l n.core is.node untouched records header;
        header = is.header ∙ sym header;
        stands = subst (λ x. CoordStands n.core (reverse x)) (sym records) is.stands.stands;
        free = omega (arith, ap (λ x. used_of (reverse x)) records, limit, is.room, kept);
      };
      ready = λ e. record {
        space = omega (arith, untouched.gate, limit, used, is.room, kept);
        rooms = is.stands.rooms;
        memory = record { records = omega (arith, memory.records); body = memory.body; row = memory.row };
      };
    }

-- What a coordinator's journal takes, and what is kept free.
use Rattle.std.proofs.Common.{◌≡◌, ◌+◌, ◌≤◌, ap, sym, ◌∙◌, subst, arith}
use Rattle.outside.specs.declared.disk.Disk.{Ghosts}
use Rattle.gate_journal.specs.Shown.{disk_of}
use Rattle.cbdc_model.specs.Records.{Header}
use Rattle.cbdc_model.specs.After.{IsJournal}
use Rattle.cbdc_model.specs.Room.{kept_room}
use Rattle.cbdc_model.specs.Due.{used_of}
use Rattle.node_journal.specs.Sound.{journal_of}
use Rattle.node_journal.specs.declared.nodes.Node.{Node}
use Rattle.coord_core.specs.Lanes.{CoordOf, IsCoordWhole, kept_of}
use Rattle.coord_core.proofs.Kept.{kept_is}
use Rattle.coord_log.specs.Inside.{StandsOn}

-- what the journal takes, with what is kept for the open batches, lies within the capacity
pub journal_has_room : {D : Type 0} {G : Ghosts D} (n : Node CoordOf D G) → StandsOn n → IsCoordWhole n.core
    → used_of (journal_of n) + kept_room n.log.header.shape (journal_of n) ≤ G.limit (disk_of n.log.journal)
journal_has_room n on whole =
    let j : IsJournal n.core.header (journal_of n) = let P : Header
    → Type 0 = λ h. IsJournal h (journal_of n) in subst P (sym on.header) on.node.journal in
    let kept : kept_of n.core.lanes ≡ kept_room n.log.header.shape (journal_of n) =
    kept_is n.core (journal_of n) whole on.stands j ∙ ap (λ h. kept_room h.shape (journal_of n)) on.header in
    omega (arith, on.free, kept)

use Rattle.std.proofs.Common.{◌≡◌, ◌<◌, ◌++◌, ℕ, List, length, take, drop, sym, ap, ◌∙◌, subst}
use Rattle.std.specs.Prelude.{slice_index_or}
use Rattle.std.proofs.lemmas.List.{take_at}
use Rattle.std.proofs.lemmas.List.Elements.{All-same}
use Rattle.rack_ledgers.specs.declared.slots.Slot.{Slot}
use Rattle.rack_ledgers.specs.Slots.{IsWaitingSlot, SlotResult}
use Rattle.rack_ledgers.proofs.at_once.open_list.Goals as goal

pub open_slots-requires-after_bounds : goal.open_slots-requires-after_bounds
open_slots-requires-after_bounds g c κs within = All-same IsWaitingSlot c.as_mut_slice.result.now c.args.slots.items c.as_mut_slice.ensures.value
    c.requires

pub returns : goal.returns
returns g c =
    let C = SlotResult g.D.Disk g.N.OnDisk.disk_of g.N.OnDisk.opens g.N.OnDisk.fits g.N.OnDisk.refusals g.N.OnDisk.refused c.args.ledger.now in
    let olds = c.args.slots in
    let news = c.open_slots.new.slots in
    let same : length news ≡ length olds.items = c.open_slots.auto.slots ∙ ap (λ (xs : List _). length xs) c.as_mut_slice.ensures.value in
    let anew : take olds.len (news ++ drop (length news) olds.items) ≡ news =
    take_at news (drop (length news) olds.items) olds.len (same ∙ sym olds.ok.0) in
    let came = subst (λ xs. (i : ℕ) (d : _) → i < length xs → C (slice_index_or xs i d) (slice_index_or news i d)) c.as_mut_slice.ensures.value
    c.open_slots.ensures in
    record {
      same = ap (λ (xs : List _). length xs) anew ∙ same;
      came = subst (λ xs. (i : ℕ) (d : Slot g.row.D.Denot g.row.N.Denot) → i < length olds.items
          → C (slice_index_or olds.items i d) (slice_index_or xs i d)) (sym anew) came;
    }

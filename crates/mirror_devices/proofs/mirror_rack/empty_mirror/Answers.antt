use Rattle.std.proofs.Common.{◌≡◌, ◌≤◌, ◌∙◌, ◌++◌, ◌∷◌, [], List, Some, IsSome, length, false, subst, sym, ap, refl, arith}
use Rattle.std.proofs.lemmas.List.{length-append}
use Rattle.mem_devices.specs.declared.plain_disk.PlainDisk.{PlainDisk}
use Rattle.mirror_devices.specs.Empty.{AreEmpty}
use Rattle.mirror_devices.proofs.Blank.{none_empty, one_empty, empty_even, empty_told}
use Rattle.mirror_devices.proofs.Even.{never_failed}
use Rattle.mirror_devices.proofs.mirror_rack.empty_mirror.Goals as goal

pub disks-init : goal.disks-init
disks-init c = (
  ap length c.in_ok-disks.ensures.items,
  subst (AreEmpty c.args.capacity) (sym c.in_ok-disks.ensures.items) (none_empty c.args.capacity),
)

pub disks-preserved : goal.disks-preserved
disks-preserved c =
    let disks : List PlainDisk = c.disks.disks.items in
    let many = c.disks.invariant.0 in
    let long = ap length c.in_ok-push.ensures.items in
    let more = length-append disks (c.in_ok-disk.disk ∷ []) in (
      omega (arith, long, more, many),
      subst (AreEmpty c.args.capacity) (sym c.in_ok-push.ensures.items)
          (one_empty c.args.capacity disks c.in_ok-disk.disk c.disks.invariant.1 (c.in_ok-disk.ensures.empty, c.in_ok-disk.ensures.capacity)),
    )

pub new-requires-2-clause-some : goal.new-requires-2-clause-some
new-requires-2-clause-some c = let many = c.disks.invariant.0 in let past = c.disks-test.false in let end = c.disks.auto in
    omega (arith, many, past, end, c.requires)

pub new-requires-2-clause-even : goal.new-requires-2-clause-even
new-requires-2-clause-even c = empty_even c.args.capacity c.disks.disks.items c.disks.invariant.1

pub new-requires-2-clause-told : goal.new-requires-2-clause-told
new-requires-2-clause-told c = λ all.
    let many = c.disks.invariant.0 in
    let past = c.disks-test.false in
    let end = c.disks.auto in
    subst (λ o. IsSome o) (sym (empty_told c.args.capacity c.disks.disks.items (omega (arith, many, past, end, c.requires)) c.disks.invariant.1)) refl

pub new-requires-2-clause-fresh : goal.new-requires-2-clause-fresh
new-requires-2-clause-fresh c = never_failed c.disks.disks.items

pub returns : goal.returns
returns c =
    let many = c.disks.invariant.0 in
    let past = c.disks-test.false in
    let end = c.disks.auto in
    record {
      whole = c.new-2.ensures.whole;
      count = ap length c.new-2.ensures.disks ∙ omega (arith, many, past, end);
      empty = subst (AreEmpty c.args.capacity) (sym c.new-2.ensures.disks) c.disks.invariant.1;
    }

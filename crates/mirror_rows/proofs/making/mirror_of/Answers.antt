use Rattle.std.proofs.Common.{◌∷◌, [], ℕ, List, IsSome, length, subst, sym, ap, refl, arith}
use Rattle.std.proofs.lemmas.List.{length-append}
use Rattle.mem_devices.specs.declared.fault_disk.FaultDisk.{FaultDisk}
use Rattle.mirror_rows.proofs.Alike.{AreFresh, none_fresh, one_fresh, fresh_even, fresh_told, none_failed}
use Rattle.mirror_rows.proofs.making.mirror_of.Goals as goal

pub disks-init : goal.disks-init
disks-init c = (
  ap length c.in_ok-disks.ensures.items,
  subst (AreFresh c.args.bytes.now c.args.capacity) (sym c.in_ok-disks.ensures.items) (none_fresh c.args.bytes.now c.args.capacity),
)

pub disks-preserved : goal.disks-preserved
disks-preserved c =
    let disks : List FaultDisk = c.disks.disks.items in
    let bytes : List ℕ = c.args.bytes.now in
    let many = c.disks.invariant.0 in
    let long = ap length c.in_ok-push.ensures.items in
    let more = length-append disks (c.in_ok-disk.disk ∷ []) in (
      omega (arith, long, more, many),
      subst (AreFresh bytes c.args.capacity) (sym c.in_ok-push.ensures.items)
          (one_fresh bytes c.args.capacity disks c.in_ok-disk.disk c.disks.invariant.1 c.in_ok-disk.ensures),
    )

pub new-requires-clause-some : goal.new-requires-clause-some
new-requires-clause-some c = let many = c.disks.invariant.0 in let past = c.disks-test.false in let end = c.disks.auto in
    omega (arith, many, past, end, c.requires.some)

pub new-requires-clause-even : goal.new-requires-clause-even
new-requires-clause-even c = fresh_even c.args.bytes.now c.args.capacity c.disks.disks.items c.disks.invariant.1

pub new-requires-clause-told : goal.new-requires-clause-told
new-requires-clause-told c = λ all.
    let many = c.disks.invariant.0 in
    let past = c.disks-test.false in
    let end = c.disks.auto in
    subst (λ o. IsSome o) (sym (fresh_told c.args.bytes.now c.args.capacity c.disks.disks.items (omega (arith, many, past, end, c.requires.some))
    c.disks.invariant.1)) refl

pub new-requires-clause-fresh : goal.new-requires-clause-fresh
new-requires-clause-fresh c = none_failed c.args.bytes.now c.args.capacity c.disks.disks.items c.disks.invariant.1

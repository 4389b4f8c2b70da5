use Rattle.std.proofs.Common.{◌≡◌, true, false, length, drop, map, IsSome, sym, ap, ◌∙◌, subst, arith}
use Rattle.std.proofs.lemmas.List.{take_at}
use Rattle.outside.specs.Images.{NoMore}
use Rattle.mirror_devices.specs.Mirrors.{IsImageOf, AreEven, all_told}
use Rattle.mirror_devices.proofs.mirror.MirrorDisk.read.Goals as goal

pub returns-then-self-clause-cause : goal.returns-then-self-clause-cause
returns-then-self-clause-cause g c = record { later = c.fail.ensures.later; failed = c.fail.ensures.rose }

pub invariant_of-self : goal.invariant_of-self
invariant_of-self g c =
    let same = take_at c.read_first.new.disks (drop (length c.read_first.new.disks) c.args.self.now.disks.items) c.args.self.now.disks.len
    (omega (arith, c.read_first.ensures.many, c.as_mut_slice.ensures.len)) in
    record {
      some = omega (arith, c.read_first.ensures.many, c.as_mut_slice.ensures.len, ap length same, c.args.self.now.some);
      even = λ f. subst (λ xs. AreEven g.D.Disk.size g.D.Disk.limit xs) (sym same) c.in-Ok.ensures.even;
      told = λ all f.
          subst (λ xs. IsSome (all_told (map g.D.Disk.content xs))) (sym same)
          (subst (λ o. IsSome (all_told o)) (sym c.in-Ok.ensures.same)
          (subst (λ xs. IsSome (all_told (map g.D.Disk.content xs))) (sym c.as_mut_slice.ensures.value)
          (c.args.self.now.told all c.if-self.false)));
      whole = c.args.self.now.whole;
      blamed = λ t. absurd (let z : true ≡ false = sym t ∙ c.if-self.false in cc);
    }

pub returns-in-Ok-clause-crash : goal.returns-in-Ok-clause-crash
returns-in-Ok-clause-crash g c =
    subst (λ xs. NoMore (IsImageOf g.D.Disk.images c.args.self.now.disks.items) (IsImageOf g.D.Disk.images xs))
    (sym (take_at c.read_first.new.disks (drop (length c.read_first.new.disks) c.args.self.now.disks.items) c.args.self.now.disks.len
    (omega (arith, c.read_first.ensures.many, c.as_mut_slice.ensures.len))))
    (subst (λ xs. NoMore (IsImageOf g.D.Disk.images xs) (IsImageOf g.D.Disk.images c.read_first.new.disks)) c.as_mut_slice.ensures.value
    c.in-Ok.ensures.crash)

pub returns-in-Err-clause-crash : goal.returns-in-Err-clause-crash
returns-in-Err-clause-crash g c =
    subst (λ xs. NoMore (IsImageOf g.D.Disk.images c.args.self.now.disks.items) (IsImageOf g.D.Disk.images xs))
    (sym (c.fail-in-Err.ensures.disks ∙ take_at c.read_first.new.disks (drop (length c.read_first.new.disks) c.args.self.now.disks.items)
    c.args.self.now.disks.len (omega (arith, c.read_first.ensures.many, c.as_mut_slice.ensures.len))))
    (subst (λ xs. NoMore (IsImageOf g.D.Disk.images xs) (IsImageOf g.D.Disk.images c.read_first.new.disks)) c.as_mut_slice.ensures.value
    c.in-Err.ensures.crash)

use Rattle.std.proofs.Common.{◌≡◌, true, false, length, drop, map, IsSome, sym, ◌∙◌, subst, arith}
use Rattle.std.proofs.lemmas.List.{take_at}
use Rattle.outside.specs.Images.{Torn, ImagesFollow, overwritten}
use Rattle.mirror_devices.specs.Mirrors.{IsImageOf, AreEven, all_told}
use Rattle.mirror_devices.proofs.Even.{told_behind}
use Rattle.mirror_devices.proofs.mirror.MirrorDisk.write_at.Goals as goal

pub returns-then-self-clause-cause : goal.returns-then-self-clause-cause
returns-then-self-clause-cause g c = record { later = c.fail.ensures.later; failed = c.fail.ensures.rose }

pub invariant_of-self-clause-blamed : goal.invariant_of-self-clause-blamed
invariant_of-self-clause-blamed g c = λ t. absurd (let z : true ≡ false = sym t ∙ c.if-self.false in cc)

pub invariant_of-self-clause-even : goal.invariant_of-self-clause-even
invariant_of-self-clause-even g c = λ f.
    subst (λ xs. AreEven g.D.Disk.size g.D.Disk.limit xs)
    (sym (take_at c.write_all.new.disks (drop (length c.write_all.new.disks) c.args.self.now.disks.items) c.args.self.now.disks.len
    (omega (arith, c.write_all.ensures.many, c.as_mut_slice.ensures.len))))
    c.in-Ok.ensures.even

pub invariant_of-self-clause-told : goal.invariant_of-self-clause-told
invariant_of-self-clause-told g c = λ all f.
    let was = subst (λ xs. IsSome (all_told (map g.D.Disk.content xs))) (sym c.as_mut_slice.ensures.value) (c.args.self.now.told all c.if-self.false)
    in
    subst (λ xs. IsSome (all_told (map g.D.Disk.content xs)))
    (sym (take_at c.write_all.new.disks (drop (length c.write_all.new.disks) c.args.self.now.disks.items) c.args.self.now.disks.len
    (omega (arith, c.write_all.ensures.many, c.as_mut_slice.ensures.len))))
    (told_behind _ _ (λ b. overwritten b c.args.at c.args.bytes.now) was c.in-Ok.ensures.written)

pub returns-in-Ok-clause-crash : goal.returns-in-Ok-clause-crash
returns-in-Ok-clause-crash g c =
    subst (λ xs. ImagesFollow (Torn c.args.at (length c.args.bytes.now)) (IsImageOf g.D.Disk.images c.args.self.now.disks.items)
    (IsImageOf g.D.Disk.images xs))
    (sym (take_at c.write_all.new.disks (drop (length c.write_all.new.disks) c.args.self.now.disks.items) c.args.self.now.disks.len
    (omega (arith, c.write_all.ensures.many, c.as_mut_slice.ensures.len))))
    (subst (λ xs. ImagesFollow (Torn c.args.at (length c.args.bytes.now)) (IsImageOf g.D.Disk.images xs)
    (IsImageOf g.D.Disk.images c.write_all.new.disks)) c.as_mut_slice.ensures.value c.in-Ok.ensures.crash)

pub returns-in-Err-clause-crash : goal.returns-in-Err-clause-crash
returns-in-Err-clause-crash g c =
    subst (λ xs. ImagesFollow (Torn c.args.at (length c.args.bytes.now)) (IsImageOf g.D.Disk.images c.args.self.now.disks.items)
    (IsImageOf g.D.Disk.images xs))
    (sym (c.fail-in-Err.ensures.disks ∙ take_at c.write_all.new.disks (drop (length c.write_all.new.disks) c.args.self.now.disks.items)
    c.args.self.now.disks.len (omega (arith, c.write_all.ensures.many, c.as_mut_slice.ensures.len))))
    (subst (λ xs. ImagesFollow (Torn c.args.at (length c.args.bytes.now)) (IsImageOf g.D.Disk.images xs)
    (IsImageOf g.D.Disk.images c.write_all.new.disks)) c.as_mut_slice.ensures.value c.in-Err.ensures.crash)

-- The invariant is kept by a Lock.
use Rattle.std.proofs.Common.{◌≡◌, ℕ, ◌+◌, ◌<◌, ◌≤◌, false, sym, ◌∙◌, subst, arith}
use Rattle.cbdc_model.specs.Records.{Digest, Batch, Compact, same_batch}
use Rattle.cbdc_model.specs.Status.{Unspent, Locked, Absent}
use Rattle.ledger_laws.proofs.View.{View, Inv, Awaited, same, other, same_or_not, none, some, none_or_some}

-- Lock: hashes that were Unspent become Locked
pub record Locks (v w : View) (b : Batch) (new : Digest → ℕ) : Type 0 where
  pub was : (x : Digest) → 0 < new x → v.status x ≡ Unspent
  pub once : (x : Digest) → new x ≤ 1
  pub fresh : (x : Digest) → 0 < new x → (v.finished b x ≡ false) × (v.holds b x ≡ 0)
  pub locked : (x : Digest) → 0 < new x → w.status x ≡ Locked b
  pub others : (x : Digest) → new x ≡ 0 → w.status x ≡ v.status x
  pub holds : (x : Digest) → w.holds b x ≡ v.holds b x + new x
  pub other_batches : (c : Batch) (x : Digest) → same_batch b c ≡ false → w.holds c x ≡ v.holds c x
  pub arrived : (x : Digest) → w.arrived x ≡ v.arrived x
  pub spent : (x : Digest) → w.spent x ≡ v.spent x
  pub made : (x : Digest) → w.made x ≡ v.made x
  pub takes : (c : Batch) (x : Digest) → w.takes c x ≡ v.takes c x
  pub makes : (c : Batch) (x : Digest) → w.makes c x ≡ v.makes c x
  pub finished : (c : Batch) (x : Digest) → w.finished c x ≡ v.finished c x

module _ {genesis : Digest → ℕ} {P : Compact → Type 0} {v w : View} (inv : Inv genesis P v) (b : Batch) (new : Digest → ℕ) (step : Locks v w b new)
  where
    lock_unspent : (x : Digest) → w.status x ≡ Unspent → (w.arrived x ≡ 1) × (w.spent x ≡ 0)
    lock_unspent x e = grind (arith, inv.unspent x, step.others x, step.locked x, step.arrived x, step.spent x)

    lock_locked : (x : Digest) (c : Batch) → w.status x ≡ Locked c
        → (w.arrived x ≡ 1) × (w.finished c x ≡ false) × (w.spent x ≡ w.takes c x) × (0 < w.holds c x)
    lock_locked x c e = elim (none_or_some (new x)) [
      | none z ↦ let was : v.status x ≡ Locked c = sym (step.others x z) ∙ e in
          let h : (v.arrived x ≡ 1) × (v.finished c x ≡ false) × (v.spent x ≡ v.takes c x) × (0 < v.holds c x) = inv.locked x c was in
          (step.arrived x ∙ h.0, step.finished c x ∙ h.1, step.spent x ∙ h.2 ∙ sym (step.takes c x), more_holds x c h.3)
      | some n ↦ let is : Locked b ≡ Locked c = sym (step.locked x n) ∙ e in
          let same : b ≡ c = cc in
          let h : (v.arrived x ≡ 1) × (v.spent x ≡ 0) = inv.unspent x (step.was x n) in
          let t : v.takes c x ≡ 0 = omega (arith, inv.takes_le x c) in (
            step.arrived x ∙ h.0,
            step.finished c x ∙ subst (λ d. v.finished d x ≡ false) same (step.fresh x n).0,
            step.spent x ∙ h.1 ∙ sym t ∙ sym (step.takes c x),
            subst (λ d. 0 < w.holds d x) same (omega (arith, step.holds x)),
          )
    ]
      where
        more_holds : (x : Digest) (c : Batch) → 0 < v.holds c x → 0 < w.holds c x
        more_holds x c h = elim (same_or_not b c) [
          | same e ↦ subst (λ d. 0 < w.holds d x) e (let h' : 0 < v.holds b x = subst (λ d. 0 < v.holds d x) (sym e) h in omega (arith, step.holds x))
          | other e ↦ rw (step.other_batches c x e) h
        ]

    lock_absent : (x : Digest) → w.status x ≡ Absent → w.arrived x ≡ w.spent x
    lock_absent x e = grind (arith, inv.absent x, step.others x, step.locked x, step.arrived x, step.spent x)

    -- of another batch, or of an earlier Lock
    lock_held_before : (x : Digest) (c : Batch) → 0 < v.holds c x → w.finished c x ≡ false → w.status x ≡ Locked c
    lock_held_before x c h f =
        let was : v.status x ≡ Locked c = inv.held x c h (sym (step.finished c x) ∙ f) in
        grind (arith, step.was x, step.others x)

    lock_held : (x : Digest) (c : Batch) → 0 < w.holds c x → w.finished c x ≡ false → w.status x ≡ Locked c
    lock_held x c h f = elim (same_or_not b c) [
      | same e ↦ elim (none_or_some (new x)) [
        | none z ↦ lock_held_before x c (subst (λ d. 0 < v.holds d x) e
            (let h' : 0 < w.holds b x = subst (λ d. 0 < w.holds d x) (sym e) h in omega (arith, step.holds x))) f
        | some n ↦ subst (λ d. w.status x ≡ Locked d) e (step.locked x n)
      ]
      | other e ↦ lock_held_before x c (rw (step.other_batches c x e) at h) f
    ]

    lock_held_once : (x : Digest) (c : Batch) → w.holds c x ≤ 1
    lock_held_once x c = elim (same_or_not b c) [
      | same e ↦ subst (λ d. w.holds d x ≤ 1) e (grind (arith, step.holds x, step.fresh x, step.once x, inv.held_once x b))
      | other e ↦ rw (step.other_batches c x e) (inv.held_once x c)
    ]

    lock_awaited : (x : Digest) → w.arrived x ≡ 0 → 0 < genesis x + w.made x → Awaited w x
    lock_awaited x n m =
        let a : Awaited v x = inv.awaited x (sym (step.arrived x) ∙ n) (rw (step.made x) at m) in
        record { batch = a.batch; makes = rw (step.makes a.batch x) a.makes; unfinished = step.finished a.batch x ∙ a.unfinished }

    pub lock_kept : Inv genesis P w
    lock_kept = record {
      unspent = lock_unspent;
      locked = lock_locked;
      absent = lock_absent;
      held = lock_held;
      held_once = lock_held_once;
      spent_le = λ x. omega (arith, step.spent x, step.arrived x, inv.spent_le x);
      arrived_le = λ x. omega (arith, step.arrived x, step.made x, inv.arrived_le x);
      made_once = λ x. omega (arith, step.made x, inv.made_once x);
      takes_le = λ x c. omega (arith, step.takes c x, step.spent x, inv.takes_le x c);
      makes_le = λ x c. omega (arith, step.makes c x, step.made x, inv.makes_le x c);
      one_maker = λ x c d m n. inv.one_maker x c d (rw (step.makes c x) at m) (rw (step.makes d x) at n);
      pending = λ x c m f. step.arrived x ∙ inv.pending x c (rw (step.makes c x) at m) (sym (step.finished c x) ∙ f);
      awaited = lock_awaited;
      respent = λ t x y p m n i. rw (step.spent y) (inv.respent t x y p m (rw (step.made x) at n) i);
    }

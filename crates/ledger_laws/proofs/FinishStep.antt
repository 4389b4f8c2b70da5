-- The invariant is kept by a Finish.
use Rattle.std.proofs.Common.{◌≡◌, ℕ, ◌+◌, ◌<◌, ◌≤◌, true, false, sym, ◌∙◌, subst, arith}
use Rattle.cbdc_model.specs.Records.{Digest, Batch, Compact, same_batch}
use Rattle.cbdc_model.specs.Status.{Unspent, Locked, Absent}
use Rattle.ledger_laws.proofs.View.{View, Inv, Awaited, same, other, same_or_not, not_same, none, some, none_or_some}

-- Finish of b at a hash of this shard: it is made, returned and taken so often
pub record FinishesAt (v w : View) (b : Batch) (x : Digest) (makes returns takes : ℕ) : Type 0 where
  pub unfinished : v.finished b x ≡ false
  pub makes_is : makes ≡ v.makes b x
  pub takes_is : takes ≡ v.takes b x
  pub holds_is : v.holds b x ≡ returns + takes
  pub to_made : 0 < makes → w.status x ≡ Unspent
  pub to_returned : makes ≡ 0 → 0 < returns → w.status x ≡ Unspent
  pub to_taken : makes ≡ 0 → returns ≡ 0 → 0 < takes → w.status x ≡ Absent
  pub untouched : makes ≡ 0 → returns ≡ 0 → takes ≡ 0 → w.status x ≡ v.status x
  pub arrived : w.arrived x ≡ v.arrived x + makes
  pub finished : w.finished b x ≡ true

-- at a hash of another shard nothing changes
pub record SameAt (v w : View) (x : Digest) : Type 0 where
  pub status : w.status x ≡ v.status x
  pub arrived : w.arrived x ≡ v.arrived x
  pub finished : (c : Batch) → w.finished c x ≡ v.finished c x

pub data FinishedOrNot (v w : View) (b : Batch) (x : Digest) : Type 0 where
  here : (makes returns takes : ℕ) → FinishesAt v w b x makes returns takes → FinishedOrNot v w b x
  elsewhere : SameAt v w x → FinishedOrNot v w b x

pub record Finishes (v w : View) (b : Batch) : Type 0 where
  pub at : (x : Digest) → FinishedOrNot v w b x
  pub others : (c : Batch) (x : Digest) → same_batch b c ≡ false → w.finished c x ≡ v.finished c x
  pub spent : (x : Digest) → w.spent x ≡ v.spent x
  pub made : (x : Digest) → w.made x ≡ v.made x
  pub takes : (c : Batch) (x : Digest) → w.takes c x ≡ v.takes c x
  pub makes : (c : Batch) (x : Digest) → w.makes c x ≡ v.makes c x
  pub holds : (c : Batch) (x : Digest) → w.holds c x ≡ v.holds c x

-- what the Finish did at the hash
data Did (v w : View) (b : Batch) (x : Digest) : Type 0 where
  came : v.arrived x ≡ 0 → v.spent x ≡ 0 → w.status x ≡ Unspent → w.arrived x ≡ 1 → (0 < v.makes b x) → w.finished b x ≡ true → Did v w b x
  returned : v.status x ≡ Locked b → v.arrived x ≡ 1 → v.spent x ≡ 0 → w.status x ≡ Unspent → w.arrived x ≡ 1 → v.makes b x ≡ 0
      → w.finished b x ≡ true → Did v w b x
  went : v.status x ≡ Locked b → v.arrived x ≡ 1 → v.spent x ≡ 1 → w.status x ≡ Absent → w.arrived x ≡ 1 → v.makes b x ≡ 0 → w.finished b x ≡ true
      → Did v w b x
  nothing : w.status x ≡ v.status x → w.arrived x ≡ v.arrived x → (v.status x ≡ Locked b → ⊥) → v.makes b x ≡ 0 → w.finished b x ≡ true → Did v w b x
  away : SameAt v w x → Did v w b x

module _ {genesis : Digest → ℕ} {P : Compact → Type 0} {v w : View} (inv : Inv genesis P v) (b : Batch) (step : Finishes v w b) where
  did_here : (x : Digest) (m r t : ℕ) → FinishesAt v w b x m r t → Did v w b x
  did_here x m r t f = elim (none_or_some m) [
    | some k ↦
        let a : v.arrived x ≡ 0 = inv.pending x b (omega (arith, f.makes_is)) f.unfinished in
        came a (omega (arith, inv.spent_le x)) (f.to_made k) (omega (arith, f.arrived, f.makes_is, inv.makes_le x b, inv.made_once x))
        (omega (arith, f.makes_is)) f.finished
    | none z ↦ elim (none_or_some r) [
      | some k ↦
          let is : v.status x ≡ Locked b = inv.held x b (omega (arith, f.holds_is)) f.unfinished in
          let h : (v.arrived x ≡ 1) × (v.finished b x ≡ false) × (v.spent x ≡ v.takes b x) × (0 < v.holds b x) = inv.locked x b is in
          returned is h.0 (omega (arith, h.2, f.takes_is, f.holds_is, inv.held_once x b)) (f.to_returned z k) (omega (arith, h.0, f.arrived))
          (omega (arith, f.makes_is)) f.finished
      | none y ↦ elim (none_or_some t) [
        | some k ↦
            let is : v.status x ≡ Locked b = inv.held x b (omega (arith, f.holds_is)) f.unfinished in
            let h : (v.arrived x ≡ 1) × (v.finished b x ≡ false) × (v.spent x ≡ v.takes b x) × (0 < v.holds b x) = inv.locked x b is in
            went is h.0 (omega (arith, h.2, f.takes_is, f.holds_is, inv.held_once x b)) (f.to_taken z y k) (omega (arith, h.0, f.arrived))
            (omega (arith, f.makes_is)) f.finished
        | none u ↦ nothing (f.untouched z y u) (omega (arith, f.arrived)) (λ is. omega (arith, (inv.locked x b is).3, f.holds_is))
            (omega (arith, f.makes_is)) f.finished
      ]
    ]
  ]

  did : (x : Digest) → Did v w b x
  did x = elim (step.at x) [ here m r t f ↦ did_here x m r t f | elsewhere s ↦ away s ]

  finish_unspent : (x : Digest) → w.status x ≡ Unspent → (w.arrived x ≡ 1) × (w.spent x ≡ 0)
  finish_unspent x e = elim (did x) [
    | came a s is n m f ↦ (n, step.spent x ∙ s)
    | returned was a s is n m f ↦ (n, step.spent x ∙ s)
    | went was a s is n m f ↦ let no : Absent ≡ Unspent = sym is ∙ e in cc
    | nothing is n unheld m f ↦ let h : (v.arrived x ≡ 1) × (v.spent x ≡ 0) = inv.unspent x (sym is ∙ e) in (n ∙ h.0, step.spent x ∙ h.1)
    | away s ↦ let h : (v.arrived x ≡ 1) × (v.spent x ≡ 0) = inv.unspent x (sym s.status ∙ e) in (s.arrived ∙ h.0, step.spent x ∙ h.1)
  ]

  finish_locked : (x : Digest) (c : Batch) → w.status x ≡ Locked c
      → (w.arrived x ≡ 1) × (w.finished c x ≡ false) × (w.spent x ≡ w.takes c x) × (0 < w.holds c x)
  finish_locked x c e = elim (did x) [
    | came a s is n m f ↦ let no : Unspent ≡ Locked c = sym is ∙ e in cc
    | returned was a s is n m f ↦ let no : Unspent ≡ Locked c = sym is ∙ e in cc
    | went was a s is n m f ↦ let no : Absent ≡ Locked c = sym is ∙ e in cc
    | nothing is n unheld m f ↦
        let was : v.status x ≡ Locked c = sym is ∙ e in
        still x c was n (elim (same_or_not b c) [
          | same k ↦ absurd (unheld (subst (λ d. v.status x ≡ Locked d) (sym k) was))
          | other k ↦ step.others c x k
        ])
    | away s ↦ still x c (sym s.status ∙ e) s.arrived (s.finished c)
  ]
    where
      still : (x : Digest) (c : Batch) → v.status x ≡ Locked c → w.arrived x ≡ v.arrived x → w.finished c x ≡ v.finished c x
          → (w.arrived x ≡ 1) × (w.finished c x ≡ false) × (w.spent x ≡ w.takes c x) × (0 < w.holds c x)
      still x c is a f =
          let h : (v.arrived x ≡ 1) × (v.finished c x ≡ false) × (v.spent x ≡ v.takes c x) × (0 < v.holds c x) = inv.locked x c is in
          (a ∙ h.0, f ∙ h.1, step.spent x ∙ h.2 ∙ sym (step.takes c x), rw (step.holds c x) h.3)

  finish_absent : (x : Digest) → w.status x ≡ Absent → w.arrived x ≡ w.spent x
  finish_absent x e = elim (did x) [
    | came a s is n m f ↦ let no : Unspent ≡ Absent = sym is ∙ e in cc
    | returned was a s is n m f ↦ let no : Unspent ≡ Absent = sym is ∙ e in cc
    | went was a s is n m f ↦ omega (arith, step.spent x)
    | nothing is n unheld m f ↦ omega (arith, inv.absent x (sym is ∙ e), step.spent x)
    | away s ↦ omega (arith, inv.absent x (sym s.status ∙ e), step.spent x, s.arrived)
  ]

  finish_held : (x : Digest) (c : Batch) → 0 < w.holds c x → w.finished c x ≡ false → w.status x ≡ Locked c
  finish_held x c h f =
      let k : 0 < v.holds c x = rw (step.holds c x) at h in
      elim (did x) [
        | came a s is n m g ↦ elim (same_or_not b c) [
          | same e ↦ absurd (true_false (sym (subst (λ d. w.finished d x ≡ true) e g) ∙ f))
          | other o ↦
              let was : v.status x ≡ Locked c = inv.held x c k (sym (step.others c x o) ∙ f) in
              absurd (omega (arith, (inv.locked x c was).0))
        ]
        | returned was a s is n m g ↦ absurd (not_two x c k f was g)
        | went was a s is n m g ↦ absurd (not_two x c k f was g)
        | nothing is n unheld m g ↦ elim (same_or_not b c) [
          | same e ↦ absurd (true_false (sym (subst (λ d. w.finished d x ≡ true) e g) ∙ f))
          | other o ↦ is ∙ inv.held x c k (sym (step.others c x o) ∙ f)
        ]
        | away s ↦ s.status ∙ inv.held x c k (sym (s.finished c) ∙ f)
      ]
    where
      true_false : true ≡ false → ⊥
      true_false e = cc

      not_two : (x : Digest) (c : Batch) → 0 < v.holds c x → w.finished c x ≡ false → v.status x ≡ Locked b → w.finished b x ≡ true → ⊥
      not_two x c k f was g = elim (same_or_not b c) [
        | same e ↦ let no : true ≡ false = sym (subst (λ d. w.finished d x ≡ true) e g) ∙ f in cc
        | other o ↦ let both : Locked b ≡ Locked c = sym was ∙ inv.held x c k (sym (step.others c x o) ∙ f) in
            let e : b ≡ c = cc in not_same b c o e
      ]

  finish_sums : (x : Digest) → (w.spent x ≤ w.arrived x) × (w.arrived x ≤ genesis x + w.made x)
  finish_sums x = elim (did x) [
    | came a s is n m f ↦ (omega (arith, step.spent x), omega (arith, step.made x, inv.makes_le x b))
    | returned was a s is n m f ↦ (omega (arith, step.spent x), omega (arith, step.made x, inv.arrived_le x))
    | went was a s is n m f ↦ (omega (arith, step.spent x), omega (arith, step.made x, inv.arrived_le x))
    | nothing is n unheld m f ↦ (omega (arith, step.spent x, inv.spent_le x), omega (arith, step.made x, inv.arrived_le x))
    | away s ↦ (omega (arith, step.spent x, inv.spent_le x, s.arrived), omega (arith, step.made x, inv.arrived_le x, s.arrived))
  ]

  finish_pending : (x : Digest) (c : Batch) → 0 < w.makes c x → w.finished c x ≡ false → w.arrived x ≡ 0
  finish_pending x c m f =
      let k : 0 < v.makes c x = rw (step.makes c x) at m in
      elim (same_or_not b c) [
        | same e ↦ of_b x (subst (λ d. 0 < v.makes d x) (sym e) k) (subst (λ d. w.finished d x ≡ false) (sym e) f)
        | other o ↦ of_other x c o k (sym (step.others c x o) ∙ f)
      ]
    where
      of_b : (x : Digest) → 0 < v.makes b x → w.finished b x ≡ false → w.arrived x ≡ 0
      of_b x k f = elim (did x) [
        | came a s is n m g ↦ let no : true ≡ false = sym g ∙ f in cc
        | returned was a s is n m g ↦ let no : true ≡ false = sym g ∙ f in cc
        | went was a s is n m g ↦ let no : true ≡ false = sym g ∙ f in cc
        | nothing is n unheld m g ↦ let no : true ≡ false = sym g ∙ f in cc
        | away s ↦ s.arrived ∙ inv.pending x b k (sym (s.finished b) ∙ f)
      ]

      of_other : (x : Digest) (c : Batch) → same_batch b c ≡ false → 0 < v.makes c x → v.finished c x ≡ false → w.arrived x ≡ 0
      of_other x c o k f = elim (did x) [
        | came a s is n m g ↦ absurd (not_same b c o (inv.one_maker x b c m k))
        | returned was a s is n m g ↦ absurd (omega (arith, inv.pending x c k f))
        | went was a s is n m g ↦ absurd (omega (arith, inv.pending x c k f))
        | nothing is n unheld m g ↦ n ∙ inv.pending x c k f
        | away s ↦ s.arrived ∙ inv.pending x c k f
      ]

  finish_awaited : (x : Digest) → w.arrived x ≡ 0 → 0 < genesis x + w.made x → Awaited w x
  finish_awaited x n k = elim (did x) [
    | came a s is n' m f ↦ absurd (omega arith)
    | returned was a s is n' m f ↦ absurd (omega arith)
    | went was a s is n' m f ↦ absurd (omega arith)
    | nothing is n' unheld m f ↦
        let a : Awaited v x = inv.awaited x (sym n' ∙ n) (rw (step.made x) at k) in
        record {
          batch = a.batch;
          makes = rw (step.makes a.batch x) a.makes;
          unfinished = elim (same_or_not b a.batch) [
            | same e ↦ absurd (let z : 0 < v.makes b x = subst (λ d. 0 < v.makes d x) (sym e) a.makes in omega arith)
            | other o ↦ step.others a.batch x o ∙ a.unfinished
          ];
        }
    | away s ↦
        let a : Awaited v x = inv.awaited x (sym s.arrived ∙ n) (rw (step.made x) at k) in
        record { batch = a.batch; makes = rw (step.makes a.batch x) a.makes; unfinished = s.finished a.batch ∙ a.unfinished }
  ]

  pub finish_kept : Inv genesis P w
  finish_kept = record {
    unspent = finish_unspent;
    locked = finish_locked;
    absent = finish_absent;
    held = finish_held;
    held_once = λ x c. rw (step.holds c x) (inv.held_once x c);
    spent_le = λ x. (finish_sums x).0;
    arrived_le = λ x. (finish_sums x).1;
    made_once = λ x. omega (arith, step.made x, inv.made_once x);
    takes_le = λ x c. omega (arith, step.takes c x, step.spent x, inv.takes_le x c);
    makes_le = λ x c. omega (arith, step.makes c x, step.made x, inv.makes_le x c);
    one_maker = λ x c d m n. inv.one_maker x c d (rw (step.makes c x) at m) (rw (step.makes d x) at n);
    pending = finish_pending;
    awaited = finish_awaited;
    respent = λ t x y p m n i. rw (step.spent y) (inv.respent t x y p m (rw (step.made x) at n) i);
  }

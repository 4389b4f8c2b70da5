-- The invariant is kept by a Commit.
use Rattle.std.proofs.Common.{◌≡◌, ℕ, ◌+◌, ◌<◌, ◌≤◌, false, List, [], ◌∷◌, sym, ◌∙◌, subst, arith}
use Rattle.cbdc_model.specs.History.{all_inputs, all_outputs}
use Rattle.cbdc_model.specs.Records.{Digest, Batch, Compact, same_batch}
use Rattle.cbdc_model.specs.Status.{Unspent, Locked}
use Rattle.ledger_laws.proofs.Next.{Each}
use Rattle.ledger_laws.proofs.Counts.{count, count-append}
use Rattle.ledger_laws.proofs.View.{View, Inv, Awaited, same, other, same_or_not, not_same, none, some, none_or_some}

-- what is known of the transactions: no two share an output's hash, none has a genesis hash as output, each has an input, and none has a hash twice
pub record Apart (genesis : Digest → ℕ) (P : Compact → Type 0) : Type 0 where
  pub one_owner : (t u : Compact) (x : Digest) → P t → P u → 0 < count x t.outputs → 0 < count x u.outputs → t ≡ u
  pub not_genesis : (t : Compact) (x : Digest) → P t → 0 < count x t.outputs → genesis x ≡ 0
  pub first_input : Compact → Digest
  pub has_input : (t : Compact) → P t → 0 < count (first_input t) t.inputs
  pub inputs_once : (t : Compact) (x : Digest) → P t → count x t.inputs ≤ 1
  pub outputs_once : (t : Compact) (x : Digest) → P t → count x t.outputs ≤ 1
  pub genesis_once : (x : Digest) → genesis x ≤ 1

-- Commit: the transactions ts are committed
pub record Commits (P : Compact → Type 0) (v w : View) (b : Batch) (ts : List Compact) : Type 0 where
  pub each : Each P ts
  pub held : (x : Digest) → count x (all_inputs ts) ≤ v.holds b x
  pub unfinished : (x : Digest) → v.finished b x ≡ false
  pub took_none : (x : Digest) → v.takes b x ≡ 0
  pub made_none : (x : Digest) → v.makes b x ≡ 0
  pub spent : (x : Digest) → w.spent x ≡ v.spent x + count x (all_inputs ts)
  pub made : (x : Digest) → w.made x ≡ v.made x + count x (all_outputs ts)
  pub takes : (x : Digest) → w.takes b x ≡ count x (all_inputs ts)
  pub makes : (x : Digest) → w.makes b x ≡ count x (all_outputs ts)
  pub other_takes : (c : Batch) (x : Digest) → same_batch b c ≡ false → w.takes c x ≡ v.takes c x
  pub other_makes : (c : Batch) (x : Digest) → same_batch b c ≡ false → w.makes c x ≡ v.makes c x
  pub status : (x : Digest) → w.status x ≡ v.status x
  pub arrived : (x : Digest) → w.arrived x ≡ v.arrived x
  pub finished : (c : Batch) (x : Digest) → w.finished c x ≡ v.finished c x
  pub holds : (c : Batch) (x : Digest) → w.holds c x ≡ v.holds c x

-- a transaction of the list that has the hash as an output
pub record Makes (P : Compact → Type 0) (ts : List Compact) (x : Digest) : Type 0 where
  pub tx : Compact
  pub proper : P tx
  pub makes : 0 < count x tx.outputs
  pub takes : (y : Digest) → count y tx.inputs ≤ count y (all_inputs ts)

pub maker : (P : Compact → Type 0) (ts : List Compact) (x : Digest) → Each P ts → 0 < count x (all_outputs ts) → Makes P ts x
maker P [] x each n = absurd (omega arith)
maker P (t ∷ ts) x each n = elim (none_or_some (count x t.outputs)) [
  | some here ↦ record { tx = t; proper = each.0; makes = here; takes = λ y. omega (arith, count-append y t.inputs (all_inputs ts)) }
  | none z ↦
      let m : Makes P ts x = maker P ts x each.1 (omega (arith, count-append x t.outputs (all_outputs ts))) in
      record { tx = m.tx; proper = m.proper; makes = m.makes; takes = λ y. omega (arith, m.takes y, count-append y t.inputs (all_inputs ts)) }
]

-- transactions that share no input share no output
pub outputs_apart : {genesis : Digest → ℕ} {P : Compact → Type 0} (apart : Apart genesis P) (ts : List Compact) → Each P ts
    → ((y : Digest) → count y (all_inputs ts) ≤ 1) → (x : Digest) → count x (all_outputs ts) ≤ 1
outputs_apart apart [] each inputs x = omega arith
outputs_apart {P = P} apart (t ∷ ts) each inputs x =
    let rest : count x (all_outputs ts) ≤ 1
    = outputs_apart apart ts each.1 (λ y. omega (arith, inputs y, count-append y t.inputs (all_inputs ts))) x in
    elim (none_or_some (count x t.outputs)) [
      | none z ↦ omega (arith, count-append x t.outputs (all_outputs ts))
      | some here ↦ elim (none_or_some (count x (all_outputs ts))) [
        | none z ↦ omega (arith, count-append x t.outputs (all_outputs ts), apart.outputs_once t x each.0)
        | some later ↦
            let m : Makes P ts x = maker P ts x each.1 later in
            let same : t ≡ m.tx = apart.one_owner t m.tx x each.0 m.proper here m.makes in
            let y = apart.first_input t in
            let twice : 0 < count y m.tx.inputs = subst (λ u. 0 < count y u.inputs) same (apart.has_input t each.0) in
            absurd (omega (arith, inputs y, count-append y t.inputs (all_inputs ts), apart.has_input t each.0, m.takes y))
      ]
    ]

-- the invariant behind a Commit: where no hash is taken twice, and what is made is new and made once
module _ {genesis : Digest → ℕ} {P Q : Compact → Type 0} {v w : View} (inv : Inv genesis Q v) (b : Batch) (ts : List Compact)
    (step : Commits P v w b ts) where
  -- a hash that is taken was held
  pub held_before : (x : Digest) → 0 < count x (all_inputs ts) → (v.status x ≡ Locked b) × (v.arrived x ≡ 1) × (v.spent x ≡ 0)
  held_before x n =
      let is : v.status x ≡ Locked b = inv.held x b (omega (arith, step.held x)) (step.unfinished x) in
      (is, (inv.locked x b is).0, (inv.locked x b is).2 ∙ step.took_none x)

  module _ (takes_once : (x : Digest) → count x (all_inputs ts) ≤ 1)
      (is_new : (x : Digest) → 0 < count x (all_outputs ts) → (v.made x ≡ 0) × (genesis x ≡ 0))
      (made_once : (x : Digest) → genesis x + w.made x ≤ 1)
      (respent : (t : Compact) (x y : Digest) → Q t → 0 < count x t.outputs → 0 < w.made x → 0 < count y t.inputs → 0 < w.spent y) where
    commit_unspent : (x : Digest) → w.status x ≡ Unspent → (w.arrived x ≡ 1) × (w.spent x ≡ 0)
    commit_unspent x e = grind (arith, inv.unspent x, step.status x, step.arrived x, step.spent x, held_before x)

    commit_locked : (x : Digest) (c : Batch) → w.status x ≡ Locked c
        → (w.arrived x ≡ 1) × (w.finished c x ≡ false) × (w.spent x ≡ w.takes c x) × (0 < w.holds c x)
    commit_locked x c e =
        let is : v.status x ≡ Locked c = sym (step.status x) ∙ e in
        let h : (v.arrived x ≡ 1) × (v.finished c x ≡ false) × (v.spent x ≡ v.takes c x) × (0 < v.holds c x) = inv.locked x c is in
        (step.arrived x ∙ h.0, step.finished c x ∙ h.1, spends x c is h.2, rw (step.holds c x) h.3)
      where
        spends : (x : Digest) (c : Batch) → v.status x ≡ Locked c → v.spent x ≡ v.takes c x → w.spent x ≡ w.takes c x
        spends x c is e = elim (same_or_not b c) [
          | same e' ↦ subst (λ d. w.spent x ≡ w.takes d x) e' (let e2 : v.spent x ≡ v.takes b x = subst (λ d. v.spent x ≡ v.takes d x) (sym e') e in
              omega (arith, step.spent x, step.takes x, step.took_none x))
          | other n ↦ elim (none_or_some (count x (all_inputs ts))) [
            | none z ↦ omega (arith, step.spent x, step.other_takes c x n)
            | some k ↦ let no : Locked b ≡ Locked c = sym (held_before x k).0 ∙ is in let e' : b ≡ c = cc in absurd (not_same b c n e')
          ]
        ]

    commit_one_maker : (x : Digest) (c d : Batch) → 0 < w.makes c x → 0 < w.makes d x → c ≡ d
    commit_one_maker x c d m n = elim (same_or_not b c) [
      | same e ↦ elim (same_or_not b d) [
        | same f ↦ sym e ∙ f
        | other g ↦ absurd (new_and_old c d e g m n)
      ]
      | other f ↦ elim (same_or_not b d) [
        | same e ↦ absurd (new_and_old d c e f n m)
        | other g ↦ inv.one_maker x c d (rw (step.other_makes c x f) at m) (rw (step.other_makes d x g) at n)
      ]
    ]
      where
        new_and_old : (c d : Batch) → b ≡ c → same_batch b d ≡ false → 0 < w.makes c x → 0 < w.makes d x → ⊥
        new_and_old c d e g m n =
            let m' : 0 < w.makes b x = subst (λ a. 0 < w.makes a x) (sym e) m in
            let k : 0 < count x (all_outputs ts) = omega (arith, step.makes x) in
            omega (arith, (is_new x k).0, step.other_makes d x g, inv.makes_le x d)

    commit_takes_le : (x : Digest) (c : Batch) → w.takes c x ≤ w.spent x
    commit_takes_le x c = elim (same_or_not b c) [
      | same e ↦ subst (λ d. w.takes d x ≤ w.spent x) e (omega (arith, step.takes x, step.spent x))
      | other g ↦ omega (arith, step.other_takes c x g, step.spent x, inv.takes_le x c)
    ]

    commit_makes_le : (x : Digest) (c : Batch) → w.makes c x ≤ w.made x
    commit_makes_le x c = elim (same_or_not b c) [
      | same e ↦ subst (λ d. w.makes d x ≤ w.made x) e (omega (arith, step.makes x, step.made x))
      | other g ↦ omega (arith, step.other_makes c x g, step.made x, inv.makes_le x c)
    ]

    commit_pending : (x : Digest) (c : Batch) → 0 < w.makes c x → w.finished c x ≡ false → w.arrived x ≡ 0
    commit_pending x c m f = elim (same_or_not b c) [
      | same e ↦
          let m' : 0 < w.makes b x = subst (λ a. 0 < w.makes a x) (sym e) m in
          let k : 0 < count x (all_outputs ts) = omega (arith, step.makes x) in
          omega (arith, is_new x k, inv.arrived_le x, step.arrived x)
      | other g ↦ step.arrived x ∙ inv.pending x c (rw (step.other_makes c x g) at m) (sym (step.finished c x) ∙ f)
    ]

    commit_awaited : (x : Digest) → w.arrived x ≡ 0 → 0 < genesis x + w.made x → Awaited w x
    commit_awaited x n m = elim (none_or_some (count x (all_outputs ts))) [
      | some k ↦ record { batch = b; makes = omega (arith, step.makes x); unfinished = step.finished b x ∙ step.unfinished x }
      | none z ↦
          let a : Awaited v x = inv.awaited x (sym (step.arrived x) ∙ n) (omega (arith, step.made x)) in
          record { batch = a.batch; makes = old_makes x a.batch z a.makes; unfinished = step.finished a.batch x ∙ a.unfinished }
    ]
      where
        old_makes : (x : Digest) (c : Batch) → count x (all_outputs ts) ≡ 0 → 0 < v.makes c x → 0 < w.makes c x
        old_makes x c z k = elim (same_or_not b c) [
          | same e ↦ absurd (let k' : 0 < v.makes b x = subst (λ a. 0 < v.makes a x) (sym e) k in omega (arith, step.made_none x))
          | other g ↦ rw (step.other_makes c x g) k
        ]

    pub commit_inv : Inv genesis Q w
    commit_inv = record {
      unspent = commit_unspent;
      locked = commit_locked;
      absent = λ x e. grind (arith, inv.absent x, step.status x, step.arrived x, step.spent x, held_before x);
      held = λ x c h f. step.status x ∙ inv.held x c (rw (step.holds c x) at h) (sym (step.finished c x) ∙ f);
      held_once = λ x c. rw (step.holds c x) (inv.held_once x c);
      spent_le = λ x. grind (arith, step.spent x, step.arrived x, inv.spent_le x, held_before x, takes_once x);
      arrived_le = λ x. omega (arith, step.arrived x, step.made x, inv.arrived_le x);
      made_once = made_once;
      takes_le = commit_takes_le;
      makes_le = commit_makes_le;
      one_maker = commit_one_maker;
      pending = commit_pending;
      awaited = commit_awaited;
      respent = respent;
    }

module _ {genesis : Digest → ℕ} {P : Compact → Type 0} (apart : Apart genesis P) {v w : View} (inv : Inv genesis P v) (b : Batch) (ts : List Compact)
    (step : Commits P v w b ts) where
  pub was_held : (x : Digest) → 0 < count x (all_inputs ts) → (v.status x ≡ Locked b) × (v.arrived x ≡ 1) × (v.spent x ≡ 0)
  was_held x n = held_before inv b ts step x n

  pub takes_once : (x : Digest) → count x (all_inputs ts) ≤ 1
  takes_once x = omega (arith, step.held x, inv.held_once x b)

  -- a hash that is made was not made before
  is_new : (x : Digest) → 0 < count x (all_outputs ts) → (v.made x ≡ 0) × (genesis x ≡ 0)
  is_new x n =
      let m : Makes P ts x = maker P ts x step.each n in
      let y = apart.first_input m.tx in
      let taken : 0 < count y m.tx.inputs = apart.has_input m.tx m.proper in (
        elim (none_or_some (v.made x)) [
          | none z ↦ z
          | some before ↦ absurd (omega (arith, inv.respent m.tx x y m.proper m.makes before taken, (was_held y (omega (arith, m.takes y))).2))
        ],
        apart.not_genesis m.tx x m.proper m.makes,
      )

  makes_once : (x : Digest) → count x (all_outputs ts) ≤ 1
  makes_once x = outputs_apart apart ts step.each takes_once x

  commit_respent : (t : Compact) (x y : Digest) → P t → 0 < count x t.outputs → 0 < w.made x → 0 < count y t.inputs → 0 < w.spent y
  commit_respent t x y p m n i = elim (none_or_some (count x (all_outputs ts))) [
    | none z ↦ omega (arith, step.spent y, inv.respent t x y p m (omega (arith, step.made x)) i)
    | some k ↦
        let u : Makes P ts x = maker P ts x step.each k in
        let e : t ≡ u.tx = apart.one_owner t u.tx x p u.proper m u.makes in
        let i' : 0 < count y u.tx.inputs = subst (λ a. 0 < count y a.inputs) e i in
        omega (arith, step.spent y, u.takes y)
  ]

  pub commit_kept : Inv genesis P w
  commit_kept = commit_inv inv b ts step takes_once is_new (λ x. grind (arith, step.made x, inv.made_once x, is_new x, makes_once x)) commit_respent

-- Which hashes are unspent in kept journals in which every lane is idle, by what is committed.
use Rattle.std.proofs.Common.{◌≡◌, ◌⊎◌, inl, inr, ℕ, zero, suc, ◌+◌, ◌/◌, ◌<◌, true, false, if◌then◌else◌, List, [], ◌∷◌, Some, None, refl, sym}
use Rattle.std.proofs.Common.{subst, arith}
use Rattle.std.proofs.Math.Nat.{div-lt_iff_lt-mul}
use Rattle.cbdc_model.specs.Records.{Digest, Shape, Batch, Compact, Outcome, Row, journal, is_won, Won}
use Rattle.cbdc_model.specs.Status.{Status, status, Unspent, Locked, Absent}
use Rattle.cbdc_model.specs.Slots.{slot, Idle}
use Rattle.cbdc_model.specs.Ranges.{journal_at}
use Rattle.cbdc_model.specs.Outcomes.{won_txs}
use Rattle.cbdc_model.specs.Coins.{Output, FullTx, genesis_hashes}
use Rattle.cbdc_model.specs.Clean.{Clean, IsProperCompact}
use Rattle.cbdc_model.specs.History.{minted, history_of, committed, won_of, all_inputs, all_outputs}
use Rattle.cbdc_model.specs.World.{AreIdle}
use Rattle.cbdc_model.specs.Places.{outcome_at}
use Rattle.ledger_laws.proofs.Next.{Each, Steady}
use Rattle.ledger_laws.proofs.Counts.{count, count-append}
use Rattle.ledger_laws.proofs.View.{Inv}
use Rattle.ledger_laws.proofs.Rows.{view}
use Rattle.ledger_laws.proofs.CommitStep.{Apart}
use Rattle.ledger_laws.proofs.Theory.{kept_inv}
use Rattle.ledger_laws.proofs.Folding.{kept_each}
use Rattle.ledger_laws.proofs.Members.{In, apart, in_count, count_in}
use Rattle.ledger_laws.proofs.Recovered.{none_locked, none_coming}
use Rattle.run_laws.specs.Placing.{tx_at}

-- ---- what lists of compact forms spend and make

pub in_inputs : (ks : List Compact) (k : Compact) (x : Digest) → In k ks → In x k.inputs → 0 < count x (all_inputs ks)
in_inputs [] k x h i = absurd h
in_inputs (l ∷ ks) k x (inl e) i =
    let a = count-append x l.inputs (all_inputs ks) in
    let b = subst (λ m. 0 < count x m.inputs) e (in_count x k.inputs i) in
    omega (arith, a, b)
in_inputs (l ∷ ks) k x (inr h) i = let a = count-append x l.inputs (all_inputs ks) in let b = in_inputs ks k x h i in omega (arith, a, b)

pub in_outputs : (ks : List Compact) (k : Compact) (x : Digest) → In k ks → In x k.outputs → 0 < count x (all_outputs ks)
in_outputs [] k x h i = absurd h
in_outputs (l ∷ ks) k x (inl e) i =
    let a = count-append x l.outputs (all_outputs ks) in
    let b = subst (λ m. 0 < count x m.outputs) e (in_count x k.outputs i) in
    omega (arith, a, b)
in_outputs (l ∷ ks) k x (inr h) i = let a = count-append x l.outputs (all_outputs ks) in let b = in_outputs ks k x h i in omega (arith, a, b)

-- the form that spends or makes a hash
pub record OneOf (P : Compact → Type 0) (ks : List Compact) (x : Digest) (of : Compact → List Digest) : Type 0 where
  pub form : Compact
  pub inside : In form ks
  pub passes : P form
  pub has_it : In x (of form)

one_more : (P : Compact → Type 0) (l : Compact) (ks : List Compact) (x : Digest) (of : Compact → List Digest) → OneOf P ks x of
    → OneOf P (l ∷ ks) x of
one_more P l ks x of r = record { form = r.form; inside = inr r.inside; passes = r.passes; has_it = r.has_it }

some_or_none : (n : ℕ) → (n ≡ 0) ⊎ (0 < n)
some_or_none zero = inl refl
some_or_none (suc n) = inr (omega arith)

pub spender : (P : Compact → Type 0) (ks : List Compact) (x : Digest) → Each P ks → 0 < count x (all_inputs ks) → OneOf P ks x (λ k. k.inputs)
spender P [] x each h = absurd (omega (arith, h))
spender P (l ∷ ks) x each h = elim (some_or_none (count x l.inputs)) [
  | inr here ↦ record { form = l; inside = inl refl; passes = each.0; has_it = count_in x l.inputs here }
  | inl none ↦ one_more P l ks x (λ k. k.inputs) (spender P ks x each.1
      (let a = count-append x l.inputs (all_inputs ks) in omega (arith, a, none, h)))
]

pub maker : (P : Compact → Type 0) (ks : List Compact) (x : Digest) → Each P ks → 0 < count x (all_outputs ks) → OneOf P ks x (λ k. k.outputs)
maker P [] x each h = absurd (omega (arith, h))
maker P (l ∷ ks) x each h = elim (some_or_none (count x l.outputs)) [
  | inr here ↦ record { form = l; inside = inl refl; passes = each.0; has_it = count_in x l.outputs here }
  | inl none ↦ one_more P l ks x (λ k. k.outputs)
      (maker P ks x each.1 (let a = count-append x l.outputs (all_outputs ks) in omega (arith, a, none, h)))
]

-- a transaction at a place whose outcome is that it is committed
pub won_there : (txs : List Compact) (os : List Outcome) (at : ℕ) (k : Compact) → tx_at txs at ≡ Some k → outcome_at os at ≡ Some Won
    → In k (won_txs txs os)
won_there [] os at k e o = absurd (let z : None ≡ Some k = e in cc)
won_there (t ∷ txs) [] at k e o = absurd (let z : None ≡ Some Won = o in cc)
won_there (t ∷ txs) (q ∷ os) zero k e o = subst (λ r. In k (if is_won r then t ∷ won_txs txs os else won_txs txs os)) (some_outcome Won q (sym o))
    (inl (some_tx k t (sym e)))
  where
    some_outcome : (p q : Outcome) → Some p ≡ Some q → p ≡ q
    some_outcome p q e = cc

    some_tx : (p q : Compact) → Some p ≡ Some q → p ≡ q
    some_tx p q e = cc
won_there (t ∷ txs) (q ∷ os) (suc at) k e o =
    let rest = won_there txs os at k e o in
    elim (is_won q) as (λ c. In k (if c then t ∷ won_txs txs os else won_txs txs os)) [ true ↦ inr rest | false ↦ rest ]

-- ---- in a kept history whose lanes are idle

module _ (K : Shape) (mint : List Output) (submissions : List FullTx) (clean : Clean mint submissions) (some : 0 < K.shards) (lanes : 0 < K.lanes)
    (later : List Row)
    (kept : Steady K (minted mint) (IsProperCompact submissions) later) where
  abbrev past : List Row
  past = history_of K mint later

  abbrev P : Compact → Type 0
  P = IsProperCompact submissions

  none_clash : Apart (λ x. count x (genesis_hashes mint)) (IsProperCompact submissions)
  none_clash = apart mint submissions clean

  inv : Inv (λ x. count x (genesis_hashes mint)) (IsProperCompact submissions) (view K (history_of K mint later))
  inv = kept_inv K (minted mint) (IsProperCompact submissions) some none_clash later kept

  pub each_passes : Each (IsProperCompact submissions) (committed (history_of K mint later))
  each_passes = kept_each K (IsProperCompact submissions) (minted mint) some none_clash later kept

  -- what a batch's committed transaction spends and makes is spent and made
  pub won_spends : (b : Batch) (k : Compact) (x : Digest) → In k (won_of K (history_of K mint later) b) → In x k.inputs
      → 0 < count x (all_inputs (committed (history_of K mint later)))
  won_spends b k x h i = let le = inv.takes_le x b in let c = in_inputs (won_of K (history_of K mint later) b) k x h i in omega (arith, le, c)

  pub won_makes : (b : Batch) (k : Compact) (x : Digest) → In k (won_of K (history_of K mint later) b) → In x k.outputs
      → 0 < count x (all_outputs (committed (history_of K mint later)))
  won_makes b k x h i = let le = inv.makes_le x b in let c = in_outputs (won_of K (history_of K mint later) b) k x h i in omega (arith, le, c)

  -- an unspent hash was made, and is not spent
  pub unspent_is : (x : Digest) → status (journal_at K (history_of K mint later) x) x ≡ Unspent
      → (0 < count x (genesis_hashes mint) + count x (all_outputs (committed (history_of K mint later))))
      × (count x (all_inputs (committed (history_of K mint later))) ≡ 0)
  unspent_is x e = let u = inv.unspent x e in let le = inv.arrived_le x in let one = u.0 in (omega (arith, le, one), u.1)

  module _ (idle : AreIdle K (λ k. journal k (history_of K mint later))) where
    all_idle : (lane : ℕ) → lane / K.lanes < K.coordinators → (slot (journal (lane / K.lanes) (history_of K mint later)) lane).phase ≡ Idle
    all_idle lane low = idle lane ((div-lt_iff_lt-mul lanes).0 low)

    by_status : (x : Digest) (s : Status) → status (journal_at K (history_of K mint later) x) x ≡ s
        → 0 < count x (genesis_hashes mint) + count x (all_outputs (committed (history_of K mint later)))
        → count x (all_inputs (committed (history_of K mint later))) ≡ 0 → s ≡ Unspent
    by_status x Unspent e made spent = refl
    by_status x (Locked b) e made spent = absurd (none_locked K (minted mint) (IsProperCompact submissions) some later kept all_idle x b inv e)
    by_status x Absent e made spent =
        let none = inv.absent x e in
        let waits = inv.awaited x (omega (arith, none, spent)) made in
        absurd (none_coming K (minted mint) (IsProperCompact submissions) some later kept all_idle x waits.batch waits.makes waits.unfinished)

    -- what was made and is not spent is unspent
    pub is_unspent : (x : Digest) → 0 < count x (genesis_hashes mint) + count x (all_outputs (committed (history_of K mint later)))
        → count x (all_inputs (committed (history_of K mint later))) ≡ 0
        → status (journal_at K (history_of K mint later) x) x ≡ Unspent
    is_unspent x made spent = by_status x (status (journal_at K (history_of K mint later) x) x) refl made spent

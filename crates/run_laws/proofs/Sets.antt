-- What is committed, and the sets that make up the book's hashes.
use Rattle.std.proofs.Common.{◌≡◌, inl, inr, ℕ, ◌<◌, ◌/◌, List, subst, arith}
use Rattle.std.proofs.Math.Nat.{div-lt_iff_lt-mul}
use Rattle.cbdc_model.specs.Records.{Digest, Shape, Row, journal}
use Rattle.cbdc_model.specs.Status.{status, Unspent}
use Rattle.cbdc_model.specs.Slots.{slot, Idle}
use Rattle.cbdc_model.specs.Ranges.{journal_at}
use Rattle.cbdc_model.specs.Clean.{Clean, IsProperCompact}
use Rattle.cbdc_model.specs.Coins.{Output, FullTx, genesis_hashes}
use Rattle.cbdc_model.specs.Headline.{NoneTwice}
use Rattle.cbdc_model.specs.History.{minted, history_of, committed, won_of, all_inputs, all_outputs}
use Rattle.cbdc_model.specs.World.{AreIdle}
use Rattle.ledger_laws.specs.Sets.{IsPlaced, IsWaiting, IsComing}
use Rattle.ledger_laws.proofs.Next.{Each, Steady}
use Rattle.ledger_laws.proofs.Ledger.{steady}
use Rattle.ledger_laws.proofs.Counts.{count}
use Rattle.ledger_laws.proofs.View.{Inv}
use Rattle.ledger_laws.proofs.Rows.{view}
use Rattle.ledger_laws.proofs.Theory.{kept_inv}
use Rattle.ledger_laws.proofs.Members.{in_contains, in_count, apart}
use Rattle.ledger_laws.proofs.Folding.{FullForms, full_forms, kept_each}
use Rattle.ledger_laws.proofs.Recovery.{one_list, none_twice, no_id_twice}
use Rattle.ledger_laws.proofs.Recovered.{none_locked, none_coming}
use Rattle.ledger_laws.proofs.Waiting.{none_taken}
use Rattle.run_laws.specs.Laws.{OnceLaw, SpentLaw, NoneOpenLaw}

module _ (K : Shape) (mint : List Output) (txs : List FullTx) (shards : 0 < K.shards) (clean : Clean mint txs) (later : List Row)
    (kept : Steady K (minted mint) (IsProperCompact txs) later) where
  abbrev past : List Row
  past = history_of K mint later

  inv : Inv (λ x. count x (genesis_hashes mint)) (IsProperCompact txs) (view K past)
  inv = kept_inv K (minted mint) (IsProperCompact txs) shards (apart mint txs clean) later kept

  each : Each (IsProperCompact txs) (committed past)
  each = kept_each K (IsProperCompact txs) (minted mint) shards (apart mint txs clean) later kept

  forms : FullForms mint txs clean (committed past)
  forms = full_forms mint txs clean (committed past) each

  of_unspent : (x : Digest) → 0 < count x (all_inputs (committed past)) → status (journal_at K past x) x ≡ Unspent → ⊥
  of_unspent x n e = omega (arith, inv.unspent x e)

  of_waiting : (x : Digest) → 0 < count x (all_inputs (committed past)) → IsWaiting K past x → ⊥
  of_waiting x n w =
      let z : count x (all_inputs (won_of K past w.0)) ≡ 0 =
      none_taken K (minted mint) (IsProperCompact txs) shards later kept x w.0 w.1 w.3 w.4 w.5 (inv.held_once x w.0) w.6 in
      omega (arith, inv.locked x w.0 w.2, z)

  of_coming : (x : Digest) → 0 < count x (all_inputs (committed past)) → IsComing K past x → ⊥
  of_coming x n c =
      let m : 0 < count x (all_outputs (won_of K past c.0)) =
      in_count x (all_outputs (won_of K past c.0)) (in_contains (all_outputs (won_of K past c.0)) x c.1) in
      omega (arith, inv.pending x c.0 m c.2, inv.spent_le x)

  taken : (x : Digest) → 0 < count x (all_inputs (committed past)) → IsPlaced K past x → ⊥
  taken x n (inl u) = of_unspent x n u
  taken x n (inr (inl w)) = of_waiting x n w
  taken x n (inr (inr c)) = of_coming x n c

  module _ (lanes : 0 < K.lanes) (idle : AreIdle K (λ n. journal n past)) where
    all_idle : (lane : ℕ) → lane / K.lanes < K.coordinators → (slot (journal (lane / K.lanes) past) lane).phase ≡ Idle
    all_idle lane lt = idle lane ((div-lt_iff_lt-mul lanes).0 lt)

    none_waits : (x : Digest) → IsWaiting K past x → ⊥
    none_waits x w = none_locked K (minted mint) (IsProperCompact txs) shards later kept all_idle x w.0 inv w.2

    none_comes : (x : Digest) → IsComing K past x → ⊥
    none_comes x c =
        none_coming K (minted mint) (IsProperCompact txs) shards later kept all_idle x c.0
        (in_count x (all_outputs (won_of K past c.0)) (in_contains (all_outputs (won_of K past c.0)) x c.1)) c.2

pub once_law : OnceLaw
once_law K mint subs later txs shards clean kept are =
    let k : Steady K (minted mint) (IsProperCompact subs) later = steady K (minted mint) (IsProperCompact subs) later kept in
    let f : FullForms mint subs clean (committed (history_of K mint later)) = forms K mint subs shards clean later k in
    let same : f.full ≡ txs = one_list subs (committed (history_of K mint later)) f.full txs f.is are in (
      subst (λ ts. NoneTwice ts) same (none_twice mint subs clean K (history_of K mint later) (inv K mint subs shards clean later k)
          (each K mint subs shards clean later k) f),
      no_id_twice mint subs clean K (history_of K mint later) (inv K mint subs shards clean later k) (each K mint subs shards clean later k),
    )

pub spent_law : SpentLaw
spent_law K mint subs later x shards clean kept inside placed =
    taken K mint subs shards clean later (steady K (minted mint) (IsProperCompact subs) later kept) x
    (in_count x (all_inputs (committed (history_of K mint later))) (in_contains (all_inputs (committed (history_of K mint later))) x inside)) placed

pub none_open_law : NoneOpenLaw
none_open_law K mint subs later x shards lanes clean kept idle =
    let k : Steady K (minted mint) (IsProperCompact subs) later = steady K (minted mint) (IsProperCompact subs) later kept in
    ((λ w. none_waits K mint subs shards clean later k lanes idle x w), (λ c. none_comes K mint subs shards clean later k lanes idle x c))

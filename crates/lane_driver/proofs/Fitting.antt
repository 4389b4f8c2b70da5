-- The calls of a batch within the limits are within them, and stay so.
use Rattle.std.proofs.Common.{◌≡◌, ◌≢◌, ℕ, ◌<◌, ◌≤◌, Bool, true, false, ◌&&◌, not, nat_lt, List, [], ◌∷◌, length, map, refl, arith, ◌∙◌, sym, subst}
use Rattle.std.specs.List.{All}
use Rattle.std.proofs.lemmas.List.{length-map}
use Rattle.std.proofs.lemmas.List.Elements.{All-nil, All-cons, All-head, All-tail, All-weaker}
use Rattle.cbdc_types.specs.declared.calls.LockCall.{LockCall}
use Rattle.cbdc_types.specs.declared.calls.FinishCall.{FinishCall}
use Rattle.cbdc_types.specs.declared.calls.ForgetCall.{ForgetCall}
use Rattle.cbdc_model.specs.Records.{Shape, Header, Batch, Compact, Entry, Outcome}
use Rattle.cbdc_model.specs.Ranges.{shard_node, part, is_no_part}
use Rattle.cbdc_model.specs.Outcomes.{decisions, won_at}
use Rattle.cbdc_model.specs.Grammar.{HasSize, IsBatchOf, IsCompact}
use Rattle.cbdc_model.specs.Calls.{IsLockCall, IsFinishCall, IsForgetCall}
use Rattle.cbdc_model.specs.Sights.{Sight}
use Rattle.lane_laws.specs.Calls.{Every, IsPart, AreParts}
use Rattle.lane_laws.specs.Parts.{IsFitPart}
use Rattle.lane_laws.proofs.PartCalls.{part_fits}
use Rattle.lane_driver.specs.Calls.{shard, lock_call_of, finish_call_of, forget_call_of}
use Rattle.cbdc_model.specs.Slots.{Phase}
use Rattle.lane_driver.specs.Told.{IsLane, KeepsOtherLanes, AreShards, AreShardsOf, KeepNodes, AreLockCalls, AreFinishCalls, AreForgetCalls}
use Rattle.lane_driver.specs.Told.{AreFitParts, IsStamp}

-- ---- what stays

pub elsewhere_on : (at0 at1 : ℕ) (X0 X1 X2 : ℕ → Sight) → at1 ≡ at0 → ((n : ℕ) → n ≢ at0 → X1 n ≡ X0 n) → ((n : ℕ) → n ≢ at1 → X2 n ≡ X1 n) → (n : ℕ)
    → n ≢ at0 → X2 n ≡ X0 n
elsewhere_on at0 at1 X0 X1 X2 e a b n ne = b n (subst (λ m. n ≢ m) (sym e) ne) ∙ a n ne

pub nodes_same : (I : ℕ → Sight) → KeepNodes I I
nodes_same I n = record { header = refl; opened = refl; capacity = refl; later = omega arith; flying = λ r is. (is, refl) }

pub nodes_on : (I M J : ℕ → Sight) → KeepNodes I M → KeepNodes M J → KeepNodes I J
nodes_on I M J a b n = record {
  header = (b n).header ∙ (a n).header;
  opened = (b n).opened ∙ (a n).opened;
  capacity = (b n).capacity ∙ (a n).capacity;
  later = omega (arith, (a n).later, (b n).later);
  flying = λ r is.
      let first = (a n).flying r is in
      let then = (b n).flying r first.0 in
      (then.0, then.1 ∙ first.1);
}

pub ledger_kept : (K : Shape) (I J : ℕ → Sight) → AreShardsOf K I → KeepNodes I J → AreShardsOf K J
ledger_kept K I J a k = λ s lt. subst (λ h. (h.shape ≡ K) × (h.node ≡ shard_node K s)) (sym (k s).header) (a s lt)

pub calls_kept : {C : Type 0} (P : Header → C → Type 0) (I J : ℕ → Sight) → KeepNodes I J → (cs : List (ℕ × C)) → All (λ c. P (I c.0).header c.1) cs
    → All (λ c. P (J c.0).header c.1) cs
calls_kept P I J k cs all = All-weaker (λ c. P (I c.0).header c.1) (λ c. P (J c.0).header c.1) (λ c h. subst (λ x. P x c.1) (sym (k c.0).header) h)
    cs all

pub others_on : (h k : Header) (lane : ℕ) (p q r : ℕ → Phase) (t u v : ℕ → List Compact) → k ≡ h → KeepsOtherLanes h lane p q t u
    → KeepsOtherLanes k lane q r u v → KeepsOtherLanes h lane p r t v
others_on h k lane p q r t u v e a b l is ne =
    let one = a l is ne in
    let more = b l (subst (λ h. IsLane h l) (sym e) is) ne in
    (more.0 ∙ one.0, more.1 ∙ one.1)

-- ---- the calls of each phase

lock_fit : (K : Shape) (h : Header) (b : Batch) (t : ℕ) (es : List Entry) → h.shape ≡ K → IsBatchOf K b → IsStamp t → IsFitPart h es
    → IsLockCall h (record { batch = b; part = es; cause = t })
lock_fit K h b t es e batch cause fit = record {
  batch = subst (λ K. IsBatchOf K b) (sym e) batch;
  cause = cause;
  size = fit.size;
  places = fit.places;
  entries = fit.entries;
}

finish_fit : (K : Shape) (h : Header) (b : Batch) (t : ℕ) (os : List Outcome) (c : LockCall) → h.shape ≡ K → IsBatchOf K b → IsStamp t
    → IsLockCall h c → IsFinishCall h (record { batch = b; decisions = decisions os c.part; cause = t })
finish_fit K h b t os c e batch cause lock = record {
  batch = subst (λ K. IsBatchOf K b) (sym e) batch;
  cause = cause;
  size =
      let same : length (decisions os c.part) ≡ length c.part = length-map c.part (λ e. won_at os e.place) in
      (omega (arith, lock.size.0, same), omega (arith, lock.size.1, same));
}

forget_fit : (K : Shape) (h : Header) (b : Batch) (t : ℕ) → h.shape ≡ K → IsBatchOf K b → IsStamp t → IsForgetCall h (record { batch = b; cause = t })
forget_fit K h b t e batch cause = record { batch = subst (λ K. IsBatchOf K b) (sym e) batch; cause = cause }

module _ (K : Shape) (I : ℕ → Sight) (ledger : AreShardsOf K I) (b : Batch) (t : ℕ) (batch : IsBatchOf K b) (cause : IsStamp t) where
  locks : (ps : List (ℕ × List Entry)) → All (λ p. shard p < K.shards) ps → AreFitParts I ps → AreLockCalls I (map (lock_call_of b t) ps)
  locks [] within fit = All-nil (λ c. IsLockCall (I c.0).header c.1)
  locks (p ∷ ps) within fit =
      All-cons (λ c. IsLockCall (I c.0).header c.1) (lock_call_of b t p) (map (lock_call_of b t) ps)
      (lock_fit K (I p.0).header b t p.1 (ledger p.0 (All-head (λ p. shard p < K.shards) p ps within)).0 batch cause
      (All-head (λ p. IsFitPart (I p.0).header p.1) p ps fit))
      (locks ps (All-tail (λ p. shard p < K.shards) p ps within) (All-tail (λ p. IsFitPart (I p.0).header p.1) p ps fit))

  pub locks_ready : (ps : List (ℕ × List Entry)) (cs : List (ℕ × LockCall)) → cs ≡ map (lock_call_of b t) ps → AreShards shard K.shards ps
      → AreFitParts I ps → AreLockCalls I cs
  locks_ready ps cs e within fit = subst (λ cs. AreLockCalls I cs) (sym e) (locks ps within.1 fit)

  finishes : (os : List Outcome) (cs : List (ℕ × LockCall)) → All (λ c. shard c < K.shards) cs → AreLockCalls I cs
      → AreFinishCalls I (map (finish_call_of b t os) cs)
  finishes os [] within fit = All-nil (λ c. IsFinishCall (I c.0).header c.1)
  finishes os (c ∷ cs) within fit =
      All-cons (λ c. IsFinishCall (I c.0).header c.1) (finish_call_of b t os c) (map (finish_call_of b t os) cs)
      (finish_fit K (I c.0).header b t os c.1 (ledger c.0 (All-head (λ c. shard c < K.shards) c cs within)).0 batch cause
      (All-head (λ c. IsLockCall (I c.0).header c.1) c cs fit))
      (finishes os cs (All-tail (λ c. shard c < K.shards) c cs within) (All-tail (λ c. IsLockCall (I c.0).header c.1) c cs fit))

  pub finishes_ready : (os : List Outcome) (cs : List (ℕ × LockCall)) (fs : List (ℕ × FinishCall)) → fs ≡ map (finish_call_of b t os) cs
      → AreShards shard K.shards cs → AreLockCalls I cs → AreFinishCalls I fs
  finishes_ready os cs fs e within fit = subst (λ fs. AreFinishCalls I fs) (sym e) (finishes os cs within.1 fit)

  forgets : (cs : List (ℕ × LockCall)) → All (λ c. shard c < K.shards) cs → AreForgetCalls I (map (forget_call_of b t) cs)
  forgets [] within = All-nil (λ c. IsForgetCall (I c.0).header c.1)
  forgets (c ∷ cs) within =
      All-cons (λ c. IsForgetCall (I c.0).header c.1) (forget_call_of b t c) (map (forget_call_of b t) cs)
      (forget_fit K (I c.0).header b t (ledger c.0 (All-head (λ c. shard c < K.shards) c cs within)).0 batch cause)
      (forgets cs (All-tail (λ c. shard c < K.shards) c cs within))

  pub forgets_ready : (cs : List (ℕ × LockCall)) (fs : List (ℕ × ForgetCall)) → fs ≡ map (forget_call_of b t) cs → AreShards shard K.shards cs
      → AreForgetCalls I fs
  forgets_ready cs fs e within = subst (λ fs. AreForgetCalls I fs) (sym e) (forgets cs within.1)

-- ---- the parts of a batch

below_and : (s n : ℕ) (none : Bool) → (nat_lt s n && not none) ≡ true → (s < n) × (none ≡ false)
below_and s n true h = absurd (let z : (nat_lt s n && false) ≡ true = h in grind (arith, z))
below_and s n false h = (grind (arith, h), refl)

part_fit : (h : Header) (K : Shape) (s : ℕ) (es : List Entry) (txs : List Compact) → h.shape ≡ K → h.node ≡ shard_node K s → length txs ≤ K.batch
    → All IsCompact txs
    → is_no_part (part K s 0 txs) ≡ false → es ≡ part K s 0 txs → IsFitPart h es
part_fit h K s es txs e node size all some is =
    subst (λ K. h.node ≡ shard_node K s → length txs ≤ K.batch → is_no_part (part K s 0 txs) ≡ false → es ≡ part K s 0 txs → IsFitPart h es) e
    (λ node size some is. subst (λ es. IsFitPart h es) (sym is) (part_fits h txs s size all node some)) node size some is

module _ (K : Shape) (I : ℕ → Sight) (txs : List Compact) (ledger : AreShardsOf K I) (size : length txs ≤ K.batch) (all : All IsCompact txs) where
  every_fit : (ps : List (ℕ × List Entry)) → Every (IsPart K txs) ps → AreFitParts I ps
  every_fit [] every = All-nil (λ p. IsFitPart (I p.0).header p.1)
  every_fit (p ∷ ps) every =
      let here = below_and p.0 K.shards (is_no_part (part K p.0 0 txs)) every.0.0 in
      let at = ledger p.0 here.0 in
      All-cons (λ p. IsFitPart (I p.0).header p.1) p ps (part_fit (I p.0).header K p.0 p.1 txs at.0 at.1 size all here.1 every.0.1)
      (every_fit ps every.1)

pub parts_fit : (K : Shape) (I : ℕ → Sight) (txs : List Compact) (ps : List (ℕ × List Entry)) → AreShardsOf K I → HasSize K txs → All IsCompact txs
    → AreParts K txs ps → AreFitParts I ps
parts_fit K I txs ps ledger size all are = every_fit K I txs ledger size.1 all ps are.every

-- A lane's turn leaves what is open of the other lanes as it stands.
use Rattle.std.proofs.Common.{◌≡◌, ◌≢◌, inl, inr, ℕ, ◌+◌, ◌<◌, Bool, true, false, List, [], ◌∷◌, ◌++◌, length, get_or, drop, is_some, refl, sym, ap}
use Rattle.std.proofs.Common.{◌∙◌, subst, append_assoc, arith}
use Rattle.std.proofs.lemmas.List.Elements.{All-nil, All-cons, All-head, All-tail}
use Rattle.cbdc_types.specs.declared.batch.OpenLane.{OpenLane}
use Rattle.cbdc_types.specs.declared.batch.Phase.{Phase as OpenPhase}
use Rattle.cbdc_types.specs.declared.batch.Phase.TheVariants.{Prepared, Committed, Discarded}
use Rattle.cbdc_model.specs.Records.{Shape, Batch, Compact, Outcome, Record, record_of, entries_in, stamp_in, tells_lane}
use Rattle.cbdc_model.specs.Slots.{Phase, slot, slot_stamp}
use Rattle.cbdc_model.specs.Replies.{entries}
use Rattle.cbdc_model.specs.Outcomes.{decisions}
use Rattle.cbdc_model.specs.Ranges.{home_of, shard_node, part}
use Rattle.cbdc_model.specs.Lanes.{Holds, may_come, Made}
use Rattle.cbdc_model.specs.Sights.{Sight}
use Rattle.lane_laws.specs.Batches.{own, view}
use Rattle.lane_laws.specs.Resuming.{IsOpenAt, IsPreparedAt, IsCommittedAt, IsDiscardedAt}
use Rattle.ledger_laws.proofs.ByKind.{held_later, lanes_apart}
use Rattle.lane_laws.proofs.Own.{own_out, slot_own, stamp_own}
use Rattle.lane_laws.proofs.Views.{view_home, view_shard}
use Rattle.lane_laws.proofs.Grants.{lock_on, finish_on, forget_on}
use Rattle.lane_laws.proofs.Runs.{same_record}
use Rattle.lane_driver.specs.Told.{KeepNodes}
use Rattle.recovery.specs.Open.{LanesAbove, LanesRise, IsBatchUnfinished, AreUnfinished}
use Rattle.recovery.proofs.Rest.{split_rest, more_behind}

-- ---- the records of another lane

other_lane : (pieces : List (List Compact)) (lane other : ℕ) (r : Record) → other ≢ lane → (tells_lane lane r ≡ true) × Holds pieces r
    → tells_lane other r ≡ false
other_lane pieces lane other r apart h = lanes_apart lane other r (held_later pieces r h.1) h.0 (grind (arith, apart))

module _ (K : Shape) (pieces : List (List Compact)) (lane : ℕ) (X Y : ℕ → List Record) (made : Made K pieces true lane X Y) where
  not_alone : (r : Record) → may_come true lane r ≡ true → ⊥
  not_alone r h = grind (arith, h)

  its_own : (n : ℕ) (newer more : List Record) (r : Record) → Y n ≡ newer ++ r ∷ (more ++ X n) → (tells_lane lane r ≡ true) × Holds pieces r
  its_own n newer more r e = elim (made.each n newer (more ++ X n) r e (more, refl)) [
    | inl o ↦ absurd (not_alone r o)
    | inr s ↦ (s.0, s.2)
  ]

  shifted : (newer more : List Record) (r : Record) (old : List Record) → newer ++ r ∷ (more ++ old) ≡ (newer ++ r ∷ []) ++ (more ++ old)
  shifted newer more r old = sym (append_assoc newer (r ∷ []) (more ++ old))

  own_from : (n other : ℕ) → other ≢ lane → (more newer : List Record) → Y n ≡ newer ++ (more ++ X n) → own other (more ++ X n) ≡ own other (X n)
  own_from n other apart [] newer e = refl
  own_from n other apart (r ∷ more) newer e =
      own_out other r (more ++ X n) (other_lane pieces lane other r apart (its_own n newer more r e))
      ∙ own_from n other apart more (newer ++ r ∷ []) (e ∙ shifted newer more r (X n))

  own_same : (n other : ℕ) → other ≢ lane → own other (Y n) ≡ own other (X n)
  own_same n other apart = ap (λ L. own other L) (made.grows n).1 ∙ own_from n other apart (made.grows n).0 [] (made.grows n).1

-- ---- what stands of a batch is what its lane's own records say

module _ (K : Shape) (b : Batch) (log log' : Sight) (I J : ℕ → Sight) (shape : log'.header.shape ≡ log.header.shape)
    (log_same : own b.lane log'.seen ≡ own b.lane log.seen)
    (shard_same : (s : ℕ) → own b.lane (J s).seen ≡ own b.lane (I s).seen) where
  log_record : (kind : ℕ) → record_of kind log'.seen b ≡ record_of kind log.seen b
  log_record kind = same_record kind b.lane b log.seen log'.seen refl log_same

  shard_record : (s kind : ℕ) → record_of kind (J s).seen b ≡ record_of kind (I s).seen b
  shard_record s kind = same_record kind b.lane b (I s).seen (J s).seen refl (shard_same s)

  same_slot : (L M : List Record) → own b.lane M ≡ own b.lane L → slot M b.lane ≡ slot L b.lane
  same_slot L M e = slot_own b.lane M ∙ ap (λ N. slot N b.lane) e ∙ sym (slot_own b.lane L)

  open_on : (p : Phase) (txs : List Compact) (t : ℕ) → IsOpenAt p K b txs t log I → IsOpenAt p K b txs t log' J
  open_on p txs t d = record {
    home = d.home;
    shape = shape ∙ d.shape;
    prepare = log_record 6 ∙ d.prepare;
    number = ap (λ q. q.number) (same_slot log.seen log'.seen log_same) ∙ d.number;
    phase = ap (λ q. q.phase) (same_slot log.seen log'.seen log_same) ∙ d.phase;
    others = λ s kind which c. shard_record s kind ∙ d.others s kind which c;
  }

  prepared_on : (txs : List Compact) (t : ℕ) → IsPreparedAt K b txs t log I → IsPreparedAt K b txs t log' J
  prepared_on txs t d = record {
    is_open = open_on _ txs t d.is_open;
    locking = λ s c. lock_on b.lane b.number (I s).seen (J s).seen (shard_same s) (part K s 0 txs) t (d.locking s c);
  }

  committed_on : (txs : List Compact) (t u : ℕ) (os : List Outcome) → IsCommittedAt K b txs t u os log I → IsCommittedAt K b txs t u os log' J
  committed_on txs t u os d = record {
    is_open = open_on _ txs t d.is_open;
    commit = log_record 7 ∙ d.commit;
    locks = λ s c. ap (λ o. entries (entries_in o)) (shard_record s 2) ∙ d.locks s c;
    finishing = λ s c. finish_on b.lane b.number (I s).seen (J s).seen (shard_same s) (decisions os (part K s 0 txs)) u (d.finishing s c);
  }

  discarded_on : (txs : List Compact) (t u : ℕ) → IsDiscardedAt K b txs t u log I → IsDiscardedAt K b txs t u log' J
  discarded_on txs t u d = record {
    is_open = open_on _ txs t d.is_open;
    discard = log_record 8 ∙ d.discard;
    forgetting = λ s c. forget_on b.lane b.number (I s).seen (J s).seen (shard_same s) u (d.forgetting s c);
    forgot = λ s c n i.
        let z = same_slot (I s).seen (J s).seen (shard_same s) in
        let q = d.forgot s c (ap (λ x. x.number) (sym z) ∙ n) (ap (λ x. x.phase) (sym z) ∙ i) in (
          ap is_some (shard_record s 4) ∙ q.0,
          ap stamp_in (shard_record s 4) ∙ q.1 ∙ stamp_own b.lane (I s).seen ∙ ap (λ L. slot_stamp L b.lane) (sym (shard_same s))
              ∙ sym (stamp_own b.lane (J s).seen),
        );
  }

unfinished_on : (K : Shape) (o : OpenLane) (log log' : Sight) (I J : ℕ → Sight) → log'.header.shape ≡ log.header.shape
    → own o.batch.lane log'.seen ≡ own o.batch.lane log.seen
    → ((s : ℕ) → own o.batch.lane (J s).seen ≡ own o.batch.lane (I s).seen) → (p : OpenPhase) → IsBatchUnfinished p K o log I
    → IsBatchUnfinished p K o log' J
unfinished_on K o log log' I J shape log_same shard_same Prepared h = prepared_on K o.batch log log' I J shape log_same shard_same o.txs o.stamp h
unfinished_on K o log log' I J shape log_same shard_same Committed h =
    (h.0, committed_on K o.batch log log' I J shape log_same shard_same o.txs h.0 o.stamp o.outcomes h.1)
unfinished_on K o log log' I J shape log_same shard_same Discarded h =
    (h.0, discarded_on K o.batch log log' I J shape log_same shard_same o.txs h.0 o.stamp h.1)

-- ---- behind the turn of another lane

module _ (K : Shape) (b : Batch) (log log' : Sight) (I J : ℕ → Sight) (home : home_of K b.lane < K.coordinators)
    (shape : log'.header.shape ≡ log.header.shape)
    (made : Made K [] true b.lane (view K b.lane log I) (view K b.lane log' J)) where
  untouched : (o : OpenLane) → b.lane < o.batch.lane → IsBatchUnfinished o.phase K o log I → IsBatchUnfinished o.phase K o log' J
  untouched o above h = unfinished_on K o log log' I J shape at_log at_shard o.phase h
    where
      apart : o.batch.lane ≢ b.lane
      apart e = omega (arith, e, above)

      at_log : own o.batch.lane log'.seen ≡ own o.batch.lane log.seen
      at_log = ap (λ L. own o.batch.lane L) (sym (view_home K b.lane home log' J (home_of K b.lane) refl))
          ∙ own_same K [] b.lane (view K b.lane log I) (view K b.lane log' J) made (home_of K b.lane) o.batch.lane apart
          ∙ ap (λ L. own o.batch.lane L) (view_home K b.lane home log I (home_of K b.lane) refl)

      at_shard : (s : ℕ) → own o.batch.lane (J s).seen ≡ own o.batch.lane (I s).seen
      at_shard s = ap (λ L. own o.batch.lane L) (sym (view_shard K b.lane home log' J s))
          ∙ own_same K [] b.lane (view K b.lane log I) (view K b.lane log' J) made (shard_node K s) o.batch.lane apart
          ∙ ap (λ L. own o.batch.lane L) (view_shard K b.lane home log I s)

  all_untouched : (os : List OpenLane) → LanesAbove b.lane os → AreUnfinished K os log I → AreUnfinished K os log' J
  all_untouched [] above all = All-nil (λ o. IsBatchUnfinished o.phase K o log' J)
  all_untouched (o ∷ os) above all =
      All-cons (λ o. IsBatchUnfinished o.phase K o log' J) o os (untouched o above.0 (All-head (λ o. IsBatchUnfinished o.phase K o log I) o os all))
      (all_untouched os above.1 (All-tail (λ o. IsBatchUnfinished o.phase K o log I) o os all))

-- ---- along the list

pub stands_here : (K : Shape) (log : Sight) (I : ℕ → Sight) (os : List OpenLane) (i : ℕ) (o : OpenLane) → i < length os → o ≡ get_or os i o
    → AreUnfinished K (drop i os) log I → IsBatchUnfinished o.phase K o log I
stands_here K log I os i o lt e all =
    let P : List OpenLane → Type 0 = λ xs. AreUnfinished K xs log I in
    All-head (λ o. IsBatchUnfinished o.phase K o log I) o (drop (i + 1) os) (subst P (split_rest os i o lt e) all)

-- where there is more than one, no other lane writes meanwhile
pub stand_rest : (K : Shape) (alone : Bool) (log log' : Sight) (I J : ℕ → Sight) (os : List OpenLane) (i : ℕ) (o : OpenLane)
    → (1 < length os → alone ≡ true) → i < length os → o ≡ get_or os i o → LanesRise (drop i os)
    → home_of K o.batch.lane < K.coordinators → log'.header.shape ≡ log.header.shape
    → Made K [] alone o.batch.lane (view K o.batch.lane log I) (view K o.batch.lane log' J) → AreUnfinished K (drop i os) log I
    → AreUnfinished K (drop (i + 1) os) log' J
stand_rest K alone log log' I J os i o quiet lt e rise home shape made all = rest (drop (i + 1) os) refl
  where
    split : drop i os ≡ o ∷ drop (i + 1) os
    split = split_rest os i o lt e

    here : AreUnfinished K (drop (i + 1) os) log I
    here = let P : List OpenLane → Type 0 = λ xs. AreUnfinished K xs log I in
        All-tail (λ o. IsBatchUnfinished o.phase K o log I) o (drop (i + 1) os) (subst P split all)

    rest : (xs : List OpenLane) → drop (i + 1) os ≡ xs → AreUnfinished K (drop (i + 1) os) log' J
    rest [] d = let P : List OpenLane → Type 0 = λ ys. AreUnfinished K ys log' J in
        subst P (sym d) (All-nil (λ o. IsBatchUnfinished o.phase K o log' J))
    rest (x ∷ xs) d = all_untouched K o.batch log log' I J home shape
        (subst (λ a. Made K [] a o.batch.lane (view K o.batch.lane log I) (view K o.batch.lane log' J)) (quiet (more_behind os i x xs d)) made)
        (drop (i + 1) os) (subst LanesRise split rise).0 here

-- where its coordinator is, by what stands of it
pub home_there : (K : Shape) (o : OpenLane) (log : Sight) (I : ℕ → Sight) (p : OpenPhase) → IsBatchUnfinished p K o log I
    → home_of K o.batch.lane < K.coordinators
home_there K o log I Prepared h = h.is_open.home
home_there K o log I Committed h = h.1.is_open.home
home_there K o log I Discarded h = h.1.is_open.home

-- a coordinator's shape stays
pub still_shape : (X Y : ℕ → Sight) (at at' : ℕ) → at' ≡ at → KeepNodes X Y → (Y at').header.shape ≡ (X at).header.shape
still_shape X Y at at' e nodes = ap (λ n. (Y n).header.shape) e ∙ ap (λ h. h.shape) (nodes at).header

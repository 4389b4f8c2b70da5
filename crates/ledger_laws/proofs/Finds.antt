-- A record found in a beginning of a journal is found in the whole of it; what was caused by beginnings is caused by the whole.
use Rattle.std.proofs.Common.{◌≡◌, ◌⊎◌, inl, inr, ℕ, ◌+◌, ◌<◌, ◌/◌, true, false, ◌&&◌, ◌==◌, List, [], ◌∷◌, ◌++◌, Some, is_some, refl, sym, ap, ◌∙◌}
use Rattle.std.proofs.Common.{subst, arith, append_assoc}
use Rattle.cbdc_model.specs.Causes.{at_shards, AllHave, IsCaused}
use Rattle.cbdc_model.specs.History.{first_rows, Minted}
use Rattle.cbdc_model.specs.Lanes.{IsEnd, first_of}
use Rattle.cbdc_model.specs.Ranges.{shard_node, part, Concerned}
use Rattle.cbdc_model.specs.Records.{Shape, Batch, Compact, Record, record_of, kind_of, is_of, txs_in, Lock, Finish, Forget, Commit, Discard, Done}
use Rattle.cbdc_model.specs.World.{replaced}
use Rattle.ledger_laws.proofs.Ledger.{SteadyLists}
use Rattle.ledger_laws.proofs.Next.{Next, has_lock, has_prepare}
use Rattle.ledger_laws.proofs.ByKind.{test_batch, found_new, not_of_first}
use Rattle.ledger_laws.proofs.Slots.{JournalOk, next_ok}
use Rattle.ledger_laws.proofs.More.{MoreOk, next_more}
use Rattle.ledger_laws.proofs.Dones.{PhaseOk, next_phase}
use Rattle.ledger_laws.proofs.Rows.{at, away, at_node}
use Rattle.ledger_laws.proofs.Lookups.{true_false, not_true, none_found}
use Rattle.ledger_laws.proofs.First.{journal_first, all_first, AllFirst, IsFirst}
use Rattle.ledger_laws.proofs.Moves.{SameCauses, caused_same, once, locked_before, test_step, not_empty, in_range, split_test, all_structure}
use Rattle.ledger_laws.proofs.Moves.{all_more}
use Rattle.ledger_laws.proofs.Recovered.{all_phases}
use Rattle.ledger_laws.proofs.Cuts.{cut}
pub use Rattle.ledger_laws.proofs.Cuts.{replaced_at, replaced_away}

abbrev pub IsShardKind : ℕ → Type 0
IsShardKind kind = (kind ≡ 2) ⊎ (kind ≡ 3) ⊎ (kind ≡ 4)

-- each kind of record of a batch stands once in the list
abbrev pub Once : List Record → Type 0
Once [] = Unit {0}
Once (r ∷ J) = ((kind : ℕ) (c : Batch) → ((kind_of r == kind) && is_of c r) ≡ true → is_some (record_of kind J c) ≡ true → ⊥) × Once J

pub found_stays : (newer V : List Record) → Once (newer ++ V) → (kind : ℕ) (b : Batch) → is_some (record_of kind V b) ≡ true
    → (record_of kind V b ≡ record_of kind (newer ++ V) b)
found_stays [] V o kind b h = refl
found_stays (r ∷ newer) V o kind b h =
    let rest : record_of kind V b ≡ record_of kind (newer ++ V) b = found_stays newer V o.1 kind b h in
    elim ((kind_of r == kind) && is_of b r) as (λ t. ((kind_of r == kind) && is_of b r) ≡ t
    → record_of kind V b ≡ record_of kind (r ∷ (newer ++ V)) b) [
      | true ↦ λ t. absurd (o.0 kind b t (subst (λ q. is_some q ≡ true) rest h))
      | false ↦ λ t. rest ∙ sym (test_step kind r (newer ++ V) b t)
    ] refl

-- a record that is found stands somewhere
pub stands : (J : List Record) (kind : ℕ) (b : Batch) → is_some (record_of kind J b) ≡ true
    → (newer : List Record) × (q : Record) × (rest : List Record) × (J ≡ newer ++ q ∷ rest) × (((kind_of q == kind) && is_of b q) ≡ true)
    × (record_of kind J b ≡ Some q)
stands [] kind b h = absurd (let z : false ≡ true = h in cc)
stands (r ∷ J) kind b h =
    elim ((kind_of r == kind) && is_of b r) as (λ t. ((kind_of r == kind) && is_of b r) ≡ t
    → (newer : List Record) × (q : Record) × (rest : List Record) × (r ∷ J ≡ newer ++ q ∷ rest) × (((kind_of q == kind) && is_of b q) ≡ true)
    × (record_of kind (r ∷ J) b ≡ Some q)) [
      | true ↦ λ t. ([], r, J, refl, t, found_new kind r J b t)
      | false ↦ λ t.
          let s = stands J kind b (subst (λ q. is_some q ≡ true) (test_step kind r J b t) h) in
          (r ∷ s.0, s.1, s.2, ap (λ L. r ∷ L) s.3, s.4, test_step kind r J b t ∙ s.5)
    ] refl

-- of each journal, when each record of it is next
record Oks (J : List Record) : Type 0 where
  pub ok : JournalOk J
  pub more : MoreOk J
  pub phases : PhaseOk J
  pub once : Once J

pub first_once : (J : List Record) → AllFirst J → Once J
first_once [] f = tt
first_once (r ∷ J) f = (λ kind c t. absurd (not_of_first r c f.0 (test_batch kind c r t)), first_once J f.1)

module _ (K : Shape) (minting : Minted) (P : Compact → Type 0) (shards : 0 < K.shards) where
  first_oks : (n : ℕ) → Oks (first_of K minting n)
  first_oks n = record {
    ok = (all_structure K minting P shards [] tt).journals n;
    more = all_more K minting P shards [] tt n;
    phases = all_phases K minting P shards [] tt n;
    once = first_once (first_of K minting n) (journal_first n (first_rows K minting) (all_first K minting P shards));
  }

  module _ (X : ℕ → List Record) (kept : SteadyLists K minting P X) where
    oks_of : (n : ℕ) (newer more : List Record) → X n ≡ newer ++ (more ++ first_of K minting n) → Oks (more ++ first_of K minting n)
    oks_of n newer [] e = first_oks n
    oks_of n newer (r ∷ more) e =
        let below : Oks (more ++ first_of K minting n) =
        oks_of n (newer ++ r ∷ []) more (e ∙ sym (append_assoc newer (r ∷ []) (more ++ first_of K minting n))) in
        let next : Next K n (more ++ first_of K minting n) r = (kept.each n newer (more ++ first_of K minting n) r e (more, refl)).0 in
        record {
          ok = next_ok K n (more ++ first_of K minting n) below.ok r next;
          more = next_more K n (more ++ first_of K minting n) below.ok below.more r next;
          phases = next_phase K n (more ++ first_of K minting n) below.ok below.phases r next;
          once = (λ kind c t f. once K n (more ++ first_of K minting n) below.ok below.more r next kind c t f, below.once);
        }

    oks_at : (n : ℕ) (newer rest : List Record) → X n ≡ newer ++ rest → IsEnd (first_of K minting n) rest → Oks rest
    oks_at n newer rest e h = subst (λ L. Oks L) (sym h.1) (oks_of n newer h.0 (e ∙ ap (λ L. newer ++ L) h.1))

    whole_once : (n : ℕ) → Once (X n)
    whole_once n = (oks_at n [] (X n) refl (kept.begins n)).once

    found_in : (n : ℕ) (V : List Record) (kind : ℕ) (b : Batch) → IsEnd V (X n) → is_some (record_of kind V b) ≡ true
        → record_of kind V b ≡ record_of kind (X n) b
    found_in n V kind b e h = found_stays e.0 V (subst (λ L. Once L) e.1 (whole_once n)) kind b h ∙ ap (λ L. record_of kind L b) (sym e.1)

    -- a record that is found stands behind the first ones
    behind : (n : ℕ) (newer rest : List Record) (q : Record) → X n ≡ newer ++ q ∷ rest → (IsFirst q → ⊥) → IsEnd (first_of K minting n) rest
    behind n newer rest q e other = elim (cut (kept.begins n).0 (first_of K minting n) newer rest q (sym (kept.begins n).1 ∙ e)) [
      | inr f ↦ (f.back, f.rest_is)
      | inl f ↦ absurd (other (in_first (first_of K minting n) f.0 rest q (journal_first n (first_rows K minting) (all_first K minting P shards))
          f.1))
    ]
      where
        in_first : (L newer rest : List Record) (q : Record) → AllFirst L → L ≡ newer ++ q ∷ rest → IsFirst q
        in_first L [] rest q a e = (subst (λ L. AllFirst L) e a).0
        in_first [] (r ∷ newer) rest q a e = absurd (let z : [] ≡ r ∷ (newer ++ q ∷ rest) = e in cc)
        in_first (p ∷ J) (r ∷ newer) rest q a e = in_first J newer rest q a.1 (let z : p ∷ J ≡ r ∷ (newer ++ q ∷ rest) = e in cc)

    module _ (n : ℕ) (rest : List Record) (V : ℕ → List Record) (ends : (m : ℕ) → IsEnd (V m) (X m)) where
      found_there : (m kind : ℕ) (b : Batch) → is_some (record_of kind (replaced V n rest m) b) ≡ true
          → record_of kind (replaced V n rest m) b ≡ record_of kind (replaced X n rest m) b
      found_there m kind b h = elim (at_node n m) [
        | at e ↦ ap (λ L. record_of kind L b) (replaced_at V n rest m e ∙ sym (replaced_at X n rest m e))
        | away e ↦
            let v : replaced V n rest m ≡ V m = replaced_away V n rest m e in
            let x : replaced X n rest m ≡ X m = replaced_away X n rest m e in
            ap (λ L. record_of kind L b) v ∙ found_in m (V m) kind b (ends m) (subst (λ L. is_some (record_of kind L b) ≡ true) v h)
            ∙ ap (λ L. record_of kind L b) (sym x)
      ]

    -- the shard of a Lock of a batch is concerned
    lock_part : (s : ℕ) (b : Batch) → (b.lane / K.lanes == shard_node K s) ≡ false → is_some (record_of 2 (X (shard_node K s)) b) ≡ true
        → Concerned K (txs_in (record_of 6 (X (b.lane / K.lanes)) b)) s
    lock_part s b apart h =
        let q = stands (X (shard_node K s)) 2 b h in
        lock_is q.1 q.0 q.2 q.3 q.4
      where
        turned : (a c : ℕ) → (a == c) ≡ false → (c == a) ≡ false
        turned a c e = grind arith

        lock_is : (q : Record) (newer rest : List Record) → X (shard_node K s) ≡ newer ++ q ∷ rest → ((kind_of q == 2) && is_of b q) ≡ true
            → Concerned K (txs_in (record_of 6 (X (b.lane / K.lanes)) b)) s
        lock_is (Lock stamp c es) newer rest e t =
            let back : IsEnd (first_of K minting (shard_node K s)) rest = behind (shard_node K s) newer rest (Lock stamp c es) e (λ f. f) in
            let f = kept.each (shard_node K s) newer rest (Lock stamp c es) e back in
            let same : c ≡ b = (split_test 2 2 c b t).1 in
            let apart' : (shard_node K s == c.lane / K.lanes) ≡ false =
            subst (λ d. (shard_node K s == d.lane / K.lanes) ≡ false) (sym same) (turned (b.lane / K.lanes) (shard_node K s) apart) in
            let cause : record_of 6 (replaced f.1.lists (shard_node K s) rest (c.lane / K.lanes)) c ≡ record_of 6 (X (c.lane / K.lanes)) c
            = found_there (shard_node K s) rest f.1.lists f.1.ends (c.lane / K.lanes) 6 c f.1.caused.0
            ∙ ap (λ L. record_of 6 L c) (replaced_away X (shard_node K s) rest (c.lane / K.lanes) apart') in
            subst (λ d. Concerned K (txs_in (record_of 6 (X (d.lane / K.lanes)) d)) s) same (
              in_range K (shard_node K s) rest (Lock stamp c es) f.0 s refl,
              not_empty es _ (f.1.caused.1 s refl ∙ ap (λ o. part K s 0 (txs_in o)) cause) f.0.5,
            )
        lock_is other newer rest e t = absurd (let z : false ≡ true = t in cc)

    -- so is that of any later record of it
    shard_part : (kind s : ℕ) (b : Batch) → IsShardKind kind → (b.lane / K.lanes == shard_node K s) ≡ false
        → is_some (record_of kind (X (shard_node K s)) b) ≡ true
        → Concerned K (txs_in (record_of 6 (X (b.lane / K.lanes)) b)) s
    shard_part kind s b (inl two) apart h = lock_part s b apart (subst (λ k. is_some (record_of k (X (shard_node K s)) b) ≡ true) two h)
    shard_part kind s b (inr later) apart h =
        let q = stands (X (shard_node K s)) kind b h in
        let back : IsEnd (first_of K minting (shard_node K s)) q.2 =
        behind (shard_node K s) q.0 q.2 q.1 q.3 (λ first. not_of_first q.1 b first (test_batch kind b q.1 q.4)) in
        let oks : Oks q.2 = oks_at (shard_node K s) (q.0 ++ q.1 ∷ []) q.2 (q.3 ∙ sym (append_assoc q.0 (q.1 ∷ []) q.2)) back in
        let locked : has_lock q.2 b ≡ true = locked_before K (shard_node K s) q.2 oks.ok oks.more q.1
        (kept.each (shard_node K s) q.0 q.2 q.1 q.3 back).0 kind b q.4 later in
        lock_part s b apart (subst (λ o. is_some o ≡ true)
        (found_in (shard_node K s) q.2 2 b (q.0 ++ q.1 ∷ [], q.3 ∙ sym (append_assoc q.0 (q.1 ∷ []) q.2)) locked) locked)

    -- what was caused by beginnings of the journals is caused by the journals
    module _ (n : ℕ) (rest : List Record) (r : Record) (rest_end : IsEnd rest (X n)) (back : IsEnd (first_of K minting n) rest) (V : ℕ → List Record)
        (ends : (m : ℕ) → IsEnd (V m) (X m)) where
      same_at : (kind : ℕ) → IsShardKind kind → (b : Batch) → n < K.coordinators → n ≡ b.lane / K.lanes → has_prepare rest b ≡ true
          → AllHave K (replaced V n rest) kind b → (s : ℕ) → at_shards K (replaced V n rest) kind b s ≡ at_shards K (replaced X n rest) kind b s
      same_at kind which b low home prepared all s =
          elim (is_some (at_shards K (replaced V n rest) kind b s)) as
          (λ t. is_some (at_shards K (replaced V n rest) kind b s) ≡ t
          → at_shards K (replaced V n rest) kind b s ≡ at_shards K (replaced X n rest) kind b s) [
            | true ↦ λ t. found_there n rest V ends (shard_node K s) kind b t
            | false ↦ λ t. none_found (at_shards K (replaced V n rest) kind b s) t
                ∙ sym (none_found (at_shards K (replaced X n rest) kind b s) (not_true _ (none_there t)))
          ] refl
        where
          apart_from : (n s : ℕ) → n < K.coordinators → (n == K.coordinators + s) ≡ false
          apart_from n s low = grind arith

          none_there : is_some (at_shards K (replaced V n rest) kind b s) ≡ false → is_some (at_shards K (replaced X n rest) kind b s) ≡ true → ⊥
          none_there t h =
              let away : replaced X n rest (shard_node K s) ≡ X (shard_node K s) = replaced_away X n rest (shard_node K s) (apart_from n s low) in
              let c : Concerned K (txs_in (record_of 6 (X (b.lane / K.lanes)) b)) s
              = shard_part kind s b which (subst (λ m. (m == shard_node K s) ≡ false) home (apart_from n s low))
              (subst (λ L. is_some (record_of kind L b) ≡ true) away h) in
              let here : record_of 6 (X (b.lane / K.lanes)) b ≡ record_of 6 (replaced V n rest (b.lane / K.lanes)) b
              = ap (λ m. record_of 6 (X m) b) (sym home) ∙ sym (found_in n rest 6 b rest_end prepared)
              ∙ ap (λ L. record_of 6 L b) (sym (replaced_at V n rest (b.lane / K.lanes) home)) in
              true_false _ (all s (subst (λ o. Concerned K (txs_in o) s) here c)) t

      causes_same : (q : Record) → Next K n rest q → IsCaused K (replaced V n rest) n q → SameCauses K (replaced V n rest) (replaced X n rest) q
      causes_same (Lock stamp b es) next c = found_there n rest V ends (b.lane / K.lanes) 6 b c.0
      causes_same (Finish stamp b ds) next c = found_there n rest V ends (b.lane / K.lanes) 7 b c.0
      causes_same (Forget stamp b) next c = found_there n rest V ends (b.lane / K.lanes) 8 b c.0
      causes_same (Commit stamp b os) next c = (
        replaced_at V n rest (b.lane / K.lanes) next.2 ∙ sym (replaced_at X n rest (b.lane / K.lanes) next.2),
        same_at 2 (inl refl) b next.1 next.2 ((oks_at n rest_end.0 rest rest_end.1 back).ok.prepared b next.3 next.4).0 c.0,
      )
      causes_same (Discard stamp b) next c = (
        replaced_at V n rest (b.lane / K.lanes) next.2 ∙ sym (replaced_at X n rest (b.lane / K.lanes) next.2),
        same_at 3 (inr (inl refl)) b next.1 next.2 ((oks_at n rest_end.0 rest rest_end.1 back).phases.commit_here b next.3 next.4).0 c.0,
      )
      causes_same (Done stamp b) next c = (
        replaced_at V n rest (b.lane / K.lanes) next.2 ∙ sym (replaced_at X n rest (b.lane / K.lanes) next.2),
        same_at 4 (inr (inr refl)) b next.1 next.2 ((oks_at n rest_end.0 rest rest_end.1 back).phases.discard_here b next.3 next.4).0 c.0,
      )
      causes_same other next c = tt

      pub now_caused : Next K n rest r → IsCaused K (replaced V n rest) n r → IsCaused K (replaced X n rest) n r
      now_caused next c = caused_same K (replaced V n rest) (replaced X n rest) n r
          (replaced_at V n rest n refl ∙ sym (replaced_at X n rest n refl)) (causes_same r next c) c

-- What a record of a lane leaves of the lane, and of the others.
use Rattle.std.proofs.Common.{◌≡◌, ◌≢◌, ℕ, true, false, ◌&&◌, ◌==◌, cond, List, ◌∷◌, if◌then◌else◌, Option, Some, refl, ap, ◌∙◌, arith}
use Rattle.cbdc_model.specs.Records.{Batch, same_batch, Compact, Outcome, Record, record_of, txs_in, outcomes_in, txs_of, outcomes_of, Prepare}
use Rattle.cbdc_model.specs.Records.{Commit, Discard, Done}
use Rattle.cbdc_model.specs.Slots.{Slot, Phase, slot, Idle, InPrepare, InCommit, InDiscard}
use Rattle.cbdc_model.specs.Due.{open_batch}
use Rattle.cbdc_model.specs.Sights.{Sight}
use Rattle.node_ports.specs.Nodes.{KeepsRest}

same_lane : (n : ℕ) → (n == n) ≡ true
same_lane n = grind arith

other_lane : (n m : ℕ) → m ≢ n → (n == m) ≡ false
other_lane n m ne = elim (n == m) as (λ t. (n == m) ≡ t → (n == m) ≡ false) [
  | true ↦ λ t. absurd (ne (is n m t))
  | false ↦ λ t. t
] refl
  where
    is : (n m : ℕ) → (n == m) ≡ true → m ≡ n
    is n m t = grind (arith, t)

-- ---- its own slot

module _ (lane number : ℕ) (phase : Phase) (older : Slot) where
  abbrev turned : Slot
  turned = record { number = number; phase = phase }

  pub own_slot : (if lane == lane then turned else older) ≡ turned
  own_slot = ap (λ t. if t then turned else older) (same_lane lane)

  pub other_slot : (l : ℕ) → l ≢ lane → (if lane == l then turned else older) ≡ older
  other_slot l ne = ap (λ t. if t then turned else older) (other_lane lane l ne)

-- ---- its transactions and outcomes

same_batch_self : (b : Batch) → same_batch b b ≡ true
same_batch_self b = grind arith

own_found : (b : Batch) (r : Record) (o : Option Record) → cond (same_batch b b) (Some r) o ≡ Some r
own_found b r o = ap (λ t. cond t (Some r) o) (same_batch_self b)

pub own_txs : (stamp : ℕ) (b : Batch) (txs : List Compact) (J : List Record) → txs_of (Prepare stamp b txs ∷ J) b ≡ txs
own_txs stamp b txs J = ap txs_in (own_found b (Prepare stamp b txs) (record_of 6 J b))

pub own_outcomes : (stamp : ℕ) (b : Batch) (os : List Outcome) (J : List Record) → outcomes_of (Commit stamp b os ∷ J) b ≡ os
own_outcomes stamp b os J = ap outcomes_in (own_found b (Commit stamp b os) (record_of 7 J b))

other_batch : (c b : Batch) → b.lane ≢ c.lane → same_batch c b ≡ false
other_batch c b ne = ap (λ t. t && (c.number == b.number)) (other_lane c.lane b.lane ne)

pub other_txs : (stamp : ℕ) (c b : Batch) (txs : List Compact) (J : List Record) → b.lane ≢ c.lane → txs_of (Prepare stamp c txs ∷ J) b ≡ txs_of J b
other_txs stamp c b txs J ne = ap (λ t. txs_in (cond t (Some (Prepare stamp c txs)) (record_of 6 J b))) (other_batch c b ne)

-- ---- what is left of the lane, and of the others, behind its records

abbrev named : ℕ → Slot → Batch
named lane s = record { lane = lane; number = s.number }

-- the others, where their slots and the transactions of their batches are as before
rest : (old new : Sight) (lane : ℕ) (r : Record) → new.seen ≡ r ∷ old.seen → ((l : ℕ) → l ≢ lane → slot (r ∷ old.seen) l ≡ slot old.seen l)
    → ((b : Batch) → b.lane ≢ lane → txs_of (r ∷ old.seen) b ≡ txs_of old.seen b) → KeepsRest old new lane
rest old new lane r seen slots txs = λ l is ne. (
  ap (λ s. s.phase) (ap (λ J. slot J l) seen ∙ slots l ne),
  ap (λ J. txs_of J (open_batch J l)) seen ∙ (txs (open_batch (r ∷ old.seen) l) ne ∙ ap (λ s. txs_of old.seen (named l s)) (slots l ne)),
)

module _ (old new : Sight) (lane stamp : ℕ) where
  abbrev J : List Record
  J = old.seen

  module _ (txs : List Compact) (number : ℕ) (seen : new.seen ≡ Prepare stamp (record { lane = lane; number = number }) txs ∷ old.seen) where
    abbrev B : Batch
    B = record { lane = lane; number = number }

    pub prepared_phase : (slot new.seen lane).phase ≡ InPrepare
    prepared_phase = ap (λ J. (slot J lane).phase) seen ∙ ap (λ s. s.phase) (own_slot lane number InPrepare (slot J lane))

    pub prepared_txs_are : txs_of new.seen (open_batch new.seen lane) ≡ txs
    prepared_txs_are = ap (λ J. txs_of J (open_batch J lane)) seen
        ∙ (ap (λ s. txs_of (Prepare stamp B txs ∷ J) (named lane s)) (own_slot lane number InPrepare (slot J lane)) ∙ own_txs stamp B txs J)

    pub prepared_rest : KeepsRest old new lane
    prepared_rest = rest old new lane (Prepare stamp B txs) seen (λ l ne. other_slot lane number InPrepare (slot J l) l ne)
        (λ b ne. other_txs stamp B b txs J ne)

  module _ (os : List Outcome) (seen : new.seen ≡ Commit stamp (open_batch old.seen lane) os ∷ old.seen) where
    pub committed_phase : (slot new.seen lane).phase ≡ InCommit
    committed_phase = ap (λ J. (slot J lane).phase) seen ∙ ap (λ s. s.phase) (own_slot lane (slot J lane).number InCommit (slot J lane))

    pub committed_outcomes : outcomes_of new.seen (open_batch new.seen lane) ≡ os
    committed_outcomes =
        ap (λ J. outcomes_of J (open_batch J lane)) seen
        ∙ (ap (λ s. outcomes_of (Commit stamp (open_batch J lane) os ∷ J) (named lane s))
        (own_slot lane (slot J lane).number InCommit (slot J lane)) ∙ own_outcomes stamp (open_batch J lane) os J)

    pub committed_rest : KeepsRest old new lane
    committed_rest = rest old new lane (Commit stamp (open_batch J lane) os) seen
        (λ l ne. other_slot lane (slot J lane).number InCommit (slot J l) l ne) (λ b ne. refl)

  module _ (seen : new.seen ≡ Discard stamp (open_batch old.seen lane) ∷ old.seen) where
    pub discarded_phase : (slot new.seen lane).phase ≡ InDiscard
    discarded_phase = ap (λ J. (slot J lane).phase) seen ∙ ap (λ s. s.phase) (own_slot lane (slot J lane).number InDiscard (slot J lane))

    pub discarded_rest : KeepsRest old new lane
    discarded_rest = rest old new lane (Discard stamp (open_batch J lane)) seen
        (λ l ne. other_slot lane (slot J lane).number InDiscard (slot J l) l ne) (λ b ne. refl)

  module _ (seen : new.seen ≡ Done stamp (open_batch old.seen lane) ∷ old.seen) where
    pub done_phase : (slot new.seen lane).phase ≡ Idle
    done_phase = ap (λ J. (slot J lane).phase) seen ∙ ap (λ s. s.phase) (own_slot lane (slot J lane).number Idle (slot J lane))

    pub done_rest : KeepsRest old new lane
    done_rest = rest old new lane (Done stamp (open_batch J lane)) seen (λ l ne. other_slot lane (slot J lane).number Idle (slot J l) l ne)
        (λ b ne. refl)

-- What a driver says of a turn, taken to the journals of all nodes.
use Rattle.std.proofs.Common.{◌≡◌, ◌⊎◌, inl, inr, ℕ, ◌<◌, true, false, List, [], ◌∷◌, refl, sym, ap, ◌∙◌, subst}
use Rattle.cbdc_types.specs.declared.calls.NodeFault.{NodeFault}
use Rattle.cbdc_model.specs.Records.{Shape, Batch, Compact, Outcome, Record, tells_lane, Prepare}
use Rattle.cbdc_model.specs.Ranges.{home_of}
use Rattle.cbdc_model.specs.Lanes.{Made}
use Rattle.cbdc_model.specs.Waves.{prepared}
use Rattle.cbdc_model.specs.Sights.{Sight}
use Rattle.ledger_laws.proofs.Cuts.{made_none}
use Rattle.lane_laws.specs.Batches as batches
use Rattle.lane_laws.specs.Batches.{view, own, prepared_of, BatchDone, BatchStopped}
use Rattle.lane_laws.proofs.Own.{own_in, own_out}
use Rattle.run_laws.specs.Runs.{seen_by, IsTurn}
use Rattle.run_laws.specs.Turns.{TakenLaw, EndsLaw, PreparedLaw}
use Rattle.run_laws.proofs.TurnStep.{lifted}
use Rattle.run_laws.proofs.Seen.{seen_log}
use Rattle.run_laws.proofs.NewRecords.{none_new}

pub taken_law : TakenLaw
taken_law K lane logs shards logs' shards' elsewhere = (
  λ k txs b os d. record { made = d.made; others = elsewhere },
  λ txs node f d. record { made = d.made; others = elsewhere },
  λ b e d. record { made = subst (λ l. Made K [] true l (view_of l) (view_of' l)) e d.made; others = elsewhere },
  λ b node f e d. record { made = subst (λ l. Made K [] true l (view_of l) (view_of' l)) e d.made; others = elsewhere },
  λ e s. record {
    made = subst (λ x. Made K [] true lane (view K lane (logs (home_of K lane)) shards) (view K lane x shards')) (sym e)
        (subst (λ y. Made K [] true lane (view K lane (logs (home_of K lane)) shards) (view K lane (logs (home_of K lane)) y)) (sym s)
        (made_none K [] true lane (view K lane (logs (home_of K lane)) shards)));
    others = elsewhere;
  },
)
  where
    view_of : ℕ → ℕ → List Record
    view_of l = view K l (logs (home_of K lane)) shards

    view_of' : ℕ → ℕ → List Record
    view_of' l = view K l (logs' (home_of K lane)) shards'

pub ends_law : EndsLaw
ends_law K pieces lane logs shards logs' shards' home turn = (lifted K pieces lane logs shards logs' shards' home turn).grows

prepared_out : (lane : ℕ) (r : Record) (J : List Record) → tells_lane lane r ≡ false → prepared lane (r ∷ J) ≡ prepared lane J
prepared_out lane (Prepare stamp b txs) J h = rw h
prepared_out lane other J h = refl

prepared_here : (lane : ℕ) (r : Record) (I J : List Record) → tells_lane lane r ≡ true → prepared lane J ≡ batches.prepares_txs I
    → prepared lane (r ∷ J) ≡ batches.prepares_txs (r ∷ I)
prepared_here lane (Prepare stamp b txs) I J l h = rw l (ap (λ x. txs ∷ x) h)
prepared_here lane other I J l h = h

pub prepared_own : (lane : ℕ) (J : List Record) → prepared lane J ≡ prepared_of lane J
prepared_own lane [] = refl
prepared_own lane (r ∷ J) = elim (tells_lane lane r) as (λ t. tells_lane lane r ≡ t → prepared lane (r ∷ J) ≡ prepared_of lane (r ∷ J)) [
  | true ↦ λ t. prepared_here lane r (own lane J) J t (prepared_own lane J) ∙ ap batches.prepares_txs (sym (own_in lane r J t))
  | false ↦ λ t. prepared_out lane r J t ∙ prepared_own lane J ∙ ap batches.prepares_txs (sym (own_out lane r J t))
] refl

module _ (K : Shape) (lane : ℕ) (logs shards logs' shards' : ℕ → Sight) (home : home_of K lane < K.coordinators) where
  prepared_done : (k : ℕ) (txs : List Compact) (b : Batch) (os : List Outcome)
      → BatchDone K true lane k txs (logs (home_of K lane)) shards (logs' (home_of K lane)) shards' b os
      → prepared lane (logs' (home_of K lane)).seen ≡ txs ∷ prepared lane (logs (home_of K lane)).seen
  prepared_done k txs b os d =
      prepared_own lane (logs' (home_of K lane)).seen ∙ ap batches.prepares_txs d.grew.log_is
      ∙ ap (λ x. txs ∷ x) (sym (prepared_own lane (logs (home_of K lane)).seen))

  prepared_stopped : (txs : List Compact) (node : ℕ) (f : NodeFault)
      → BatchStopped K true lane txs (logs (home_of K lane)) shards (logs' (home_of K lane)) shards' node f
      → (prepared lane (logs' (home_of K lane)).seen ≡ prepared lane (logs (home_of K lane)).seen)
      ⊎ (prepared lane (logs' (home_of K lane)).seen ≡ txs ∷ prepared lane (logs (home_of K lane)).seen)
  prepared_stopped txs node f d = elim d.prepares [
    | inl e ↦ inl (prepared_own lane (logs' (home_of K lane)).seen ∙ e ∙ sym (prepared_own lane (logs (home_of K lane)).seen))
    | inr e ↦ inr (prepared_own lane (logs' (home_of K lane)).seen ∙ e ∙ ap (λ x. txs ∷ x) (sym (prepared_own lane (logs (home_of K lane)).seen)))
  ]

  prepared_none : IsTurn K [] lane logs shards logs' shards'
      → prepared lane (logs' (home_of K lane)).seen ≡ prepared lane (logs (home_of K lane)).seen
  prepared_none turn =
      ap (prepared lane) (sym (seen_log K logs' shards' (home_of K lane) home))
      ∙ none_new K lane (seen_by K logs shards) (seen_by K logs' shards') (lifted K [] lane logs shards logs' shards' home turn) lane (home_of K lane)
      ∙ ap (prepared lane) (seen_log K logs shards (home_of K lane) home)

pub prepared_law : PreparedLaw
prepared_law K lane logs shards logs' shards' home = (
  prepared_done K lane logs shards logs' shards' home,
  prepared_stopped K lane logs shards logs' shards' home,
  prepared_none K lane logs shards logs' shards' home,
)

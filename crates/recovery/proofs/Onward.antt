-- Nodes go on from how they stood, also where a lane stops.
use Rattle.std.proofs.Common.{◌≡◌, ◌≢◌, ◌⊎◌, inl, inr, true, false, ◌==◌, ℕ, ◌<◌, Bool, [], refl, sym, subst}
use Rattle.std.specs.Prelude.{Result, Ok, Err}
use Rattle.std.proofs.lemmas.Bool.Decides.{eqb_tells}
use Rattle.cbdc_types.specs.declared.batch.OpenLane.{OpenLane}
use Rattle.cbdc_model.specs.Records.{Shape}
use Rattle.cbdc_model.specs.Ranges.{home_of, shard_node}
use Rattle.cbdc_model.specs.Lanes.{IsEnd, Made}
use Rattle.cbdc_model.specs.Sights.{Sight}
use Rattle.ledger_laws.proofs.Cuts.{end_self, end_trans}
use Rattle.lane_laws.specs.Batches.{view}
use Rattle.lane_laws.proofs.Views.{view_home, view_shard}
use Rattle.lane_driver.specs.Told.{KeepNodes}
use Rattle.lane_driver.specs.Showing.{LaneSights}
use Rattle.lane_driver.specs.declared.fault.LaneFault.{LaneFault}
use Rattle.lane_driver.proofs.Fitting.{nodes_same, nodes_on}
use Rattle.recovery.specs.declared.resumed.ResumedBatch.{ResumedBatch}
use Rattle.recovery.specs.Open.{ResumeResult, HasGoneOn}
use Rattle.recovery.proofs.Taking.{resume_left}

-- ---- what a lane made, whatever it came to

pub made_by : (K : Shape) (alone : Bool) (o : OpenLane) (c : Result ResumedBatch LaneFault) (old new : LaneSights) → ResumeResult K alone o c old new
    → Made K [] alone o.batch.lane (view K o.batch.lane old.home old.shards) (view K o.batch.lane new.home new.shards)
made_by K alone o (Ok r) old new one = one.taken.made
made_by K alone o (Err e) old new stop = (resume_left K alone o old new e stop stop.stands).3.made

module _ (K : Shape) (lane : ℕ) (home : home_of K lane < K.coordinators) (alone : Bool) (log log' : Sight) (I J : ℕ → Sight)
    (made : Made K [] alone lane (view K lane log I) (view K lane log' J)) where
  pub log_grows : IsEnd log.seen log'.seen
  log_grows = subst (λ L. IsEnd log.seen L) (view_home K lane home log' J (home_of K lane) refl)
      (subst (λ L. IsEnd L (view K lane log' J (home_of K lane))) (view_home K lane home log I (home_of K lane) refl) (made.grows (home_of K lane)))

  pub shard_grows : (s : ℕ) → IsEnd (I s).seen (J s).seen
  shard_grows s = subst (λ L. IsEnd (I s).seen L) (view_shard K lane home log' J s)
      (subst (λ L. IsEnd L (view K lane log' J (shard_node K s))) (view_shard K lane home log I s) (made.grows (shard_node K s)))

-- ---- nodes

pub gone_same : (x : Sight) → HasGoneOn x x
gone_same x = record { node = nodes_same (λ n. x) 0; grows = end_self x.seen }

pub gone_on : (x y z : Sight) → HasGoneOn x y → HasGoneOn y z → HasGoneOn x z
gone_on x y z a b = record {
  node = nodes_on (λ n. x) (λ n. y) (λ n. z) (λ n. a.node) (λ n. b.node) 0;
  grows = end_trans x.seen y.seen z.seen a.grows b.grows;
}

-- the coordinator that was asked has, and all others are as they were
pub logs_gone : (X Y : ℕ → Sight) (at at' : ℕ) → at' ≡ at → KeepNodes X Y → ((n : ℕ) → n ≢ at → Y n ≡ X n) → IsEnd (X at).seen (Y at').seen → (n : ℕ)
    → HasGoneOn (X n) (Y n)
logs_gone X Y at at' same nodes elsewhere grows n = go (eqb_tells n at)
  where
    go : (((n == at) ≡ true) × (n ≡ at)) ⊎ (((n == at) ≡ false) × (n ≢ at)) → HasGoneOn (X n) (Y n)
    go (inl (b, here)) = record {
      node = nodes n;
      grows = subst (λ m. IsEnd (X m).seen (Y m).seen) (sym here) (subst (λ m. IsEnd (X at).seen (Y m).seen) same grows);
    }
    go (inr (b, other)) = subst (λ y. HasGoneOn (X n) y) (sym (elsewhere n other)) (gone_same (X n))

pub shards_gone : (I J : ℕ → Sight) → KeepNodes I J → ((s : ℕ) → IsEnd (I s).seen (J s).seen) → (s : ℕ) → HasGoneOn (I s) (J s)
shards_gone I J nodes grows s = record { node = nodes s; grows = grows s }

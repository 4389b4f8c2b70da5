-- Where each lane stands behind a lane's fault, and which want of memory is told.
use Rattle.std.proofs.Common.{◌≡◌, ◌⊎◌, inl, inr, ℕ, ◌<◌, ◌≤◌, List, refl, sym, ◌∙◌, subst}
use Rattle.std.proofs.lemmas.Bool.{cases_lt}
use Rattle.cbdc_model.specs.Records.{Shape, Record}
use Rattle.cbdc_model.specs.Slots.{Phase, Idle, InPrepare}
use Rattle.cbdc_model.specs.World.{AreIdle}
use Rattle.run_laws.specs.Faults.{IsAsked, asks_prepare, asks_log, asks_shard}
use Rattle.lane_driver.specs.declared.fault.LaneFault.{LaneFault}
use Rattle.lane_driver.specs.declared.fault.LaneFaultKind.{LaneFaultKind}
use Rattle.lane_driver.specs.declared.fault.LaneFaultKind.TheVariants.{DiskFault as DiskStopped, Full as NoRoom, ClockEnd as NoStamp}
use Rattle.lane_driver.specs.declared.fault.LaneFaultKind.TheVariants.{Memory as NoMemory}
use Rattle.ledger_runs.specs.Turning.{lane_phase}
use Rattle.ledger_runs.specs.Faults.{IsWanted, wants_prepare, wants_lock, IsCauseOf, IsOpenCause, Nothing, LanesRest, RestsOrWaits, AllRestOrWait}
use Rattle.ledger_runs.specs.Least.{IsUnbegunForMemory, IsLeastOpen}
use Rattle.std.proofs.Math.Nat.{eq-or-lt_of_le}
use Rattle.ledger_runs.proofs.Faulting.{rests_by}
use Rattle.rack_runs.specs.Resting.{RestsBehind, AllRestBehind}

-- lanes that are all idle rest, and so do those of which each rests
pub idle_rest : (K : Shape) (E X : ℕ → List Record) (failed : ℕ → Type 0) (memory : Type 0) → AreIdle K X → AllRestBehind K E X failed memory
idle_rest K E X failed memory idle = inr (λ lane inside. inl (inl (inl (idle lane inside))))

pub rest_all : (K : Shape) (E X : ℕ → List Record) (failed : ℕ → Type 0) (memory : Type 0) → LanesRest K X failed → AllRestBehind K E X failed memory
rest_all K E X failed memory rests = inr (λ lane inside. inl (rests lane inside))

-- what is told otherwise of memory
pub tell_rest : (K : Shape) (E X : ℕ → List Record) (failed : ℕ → Type 0) (memory told : Type 0) → (memory → told)
    → AllRestBehind K E X failed memory → AllRestBehind K E X failed told
tell_rest K E X failed memory told on (inl (ran_out, still)) = inl (on ran_out, still)
tell_rest K E X failed memory told on (inr all) = inr (λ lane inside. go lane (all lane inside))
  where
    go : (lane : ℕ) → RestsBehind K lane E X failed memory → RestsBehind K lane E X failed told
    go lane (inl rests) = inl rests
    go lane (inr (inl ran_out, waits)) = inr (inl (on ran_out), waits)
    go lane (inr (inr busy, waits)) = inr (inr busy, waits)

-- a lane whose batch is prepared is not between batches
prepared_open : (p : Phase) → p ≡ InPrepare → p ≡ Idle → ⊥
prepared_open p is idle = let z : InPrepare ≡ Idle = sym is ∙ idle in cc

module _ (K : Shape) (E X : ℕ → List Record) (failed : ℕ → Type 0) (holds : ℕ → ℕ → Type 0) (e : LaneFault) where
  -- the lane that met the fault has an open batch still, or memory ran out
  fault_open : (lane : ℕ) → IsOpenCause K lane E X failed holds e → (e.fault ≡ NoMemory) ⊎ (lane_phase K X lane ≡ Idle → ⊥)
  fault_open lane (inl (memory, waits)) = inl memory
  fault_open lane (inr cause) = go e.fault cause
    where
      wants : (node : ℕ) (front : List Record) (r : Record) → IsWanted K lane Nothing X node front r → lane_phase K X lane ≡ Idle → ⊥
      wants node front r (wants_prepare txs is at idle due) = absurd is
      wants node front r (wants_lock b t txs s is at concerned phase stands have behind due) = prepared_open (lane_phase K X lane) phase

      asks : (node : ℕ) → IsAsked K lane Nothing X node → lane_phase K X lane ≡ Idle → ⊥
      asks node (asks_prepare txs is at idle) = absurd is
      asks node (asks_log b txs at heard) = heard.busy
      asks node (asks_shard b txs s at concerned heard) = heard.busy

      go : (kind : LaneFaultKind) → IsCauseOf K lane Nothing E X failed holds e.node kind → (kind ≡ NoMemory) ⊎ (lane_phase K X lane ≡ Idle → ⊥)
      go DiskStopped h = inr (asks e.node h.asked)
      go (NoRoom used need capacity) h = inr (wants e.node h.front h.wanted h.is_wanted)
      go (NoStamp stamp) h = inr (wants e.node h.front h.wanted h.is_wanted)
      go NoMemory h = inl refl

  abbrev Rests : ℕ → Type 0
  Rests lane = RestsBehind K lane E X failed (e.fault ≡ NoMemory)

  -- whatever came, each lane rests, or it waits where it was
  pub rests_behind : IsLeastOpen K E X failed holds e → IsUnbegunForMemory E X e ⊎ AllRestOrWait K E X failed (λ _. Unit {0})
      → AllRestBehind K E X failed (e.fault ≡ NoMemory)
  rests_behind least (inl unbegun) = inl unbegun
  rests_behind (inl unbegun) (inr all) = inl unbegun
  rests_behind (inr (first, is_lane, cause, lesser)) (inr all) = inr (λ lane inside. go lane (all lane inside))
    where
      at_first : (lane : ℕ) → lane ≡ first → (lane_phase K X lane ≡ InPrepare) → RestsOrWaits K lane E X failed (Unit {0})
          → IsOpenCause K lane E X failed holds e → Rests lane
      at_first lane is phase (inl rests) c = inl rests
      at_first lane is phase (inr (want, waits)) (inl (memory, still)) = inr (inl memory, waits)
      at_first lane is phase (inr (want, waits)) (inr c) = inl (rests_by K lane Nothing E X failed holds e c)

      behind : (lane : ℕ) → first < lane → RestsOrWaits K lane E X failed (Unit {0}) → (e.fault ≡ NoMemory) ⊎ (lane_phase K X first ≡ Idle → ⊥)
          → Rests lane
      behind lane low (inl rests) c = inl rests
      behind lane low (inr (want, waits)) (inl memory) = inr (inl memory, waits)
      behind lane low (inr (want, waits)) (inr busy) = inr (inr (first, low, busy), waits)

      waiting : (lane : ℕ) → RestsOrWaits K lane E X failed (Unit {0}) → (lane_phase K X lane ≡ InPrepare) → (lane < first) ⊎ (first ≤ lane)
          → Rests lane
      waiting lane came phase (inl low) = absurd (prepared_open (lane_phase K X lane) phase (lesser lane low))
      waiting lane came phase (inr low) = at (eq-or-lt_of_le low)
        where
          at : (first ≡ lane) ⊎ (first < lane) → Rests lane
          at (inr less) = behind lane less came (fault_open first cause)
          at (inl is) = at_first lane (sym is) phase came (subst (λ l. IsOpenCause K l E X failed holds e) is cause)

      go : (lane : ℕ) → RestsOrWaits K lane E X failed (Unit {0}) → Rests lane
      go lane (inl rests) = inl rests
      go lane (inr (want, waits)) = waiting lane (inr (want, waits)) waits.0 (cases_lt lane first)

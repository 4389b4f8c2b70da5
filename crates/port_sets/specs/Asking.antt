-- Whether a coordinator may be asked is told by its header and by the records of the call's lane.
use Rattle.std.proofs.Common.{◌≡◌, ℕ, ◌≤◌, Bool, true, false, ◌&&◌, not, List, [], ◌∷◌, ◌++◌, length, refl, sym, ap, ◌∙◌, subst}
use Rattle.std.specs.Prelude.{if◌then◌else◌}
use Rattle.std.specs.Vec.{vec_capacity}
use Rattle.cbdc_model.specs.Records.{Record, tells_lane, txs_in, txs_of}
use Rattle.cbdc_model.specs.Lanes.{may_come}
use Rattle.cbdc_model.specs.Slots.{Phase, slot, Idle, InPrepare, InCommit, InDiscard}
use Rattle.cbdc_model.specs.Grammar.{HasSize}
use Rattle.cbdc_model.specs.Due.{open_batch}
use Rattle.cbdc_model.specs.Sights.{Sight, AllMay, Finds as Found}
use Rattle.lane_laws.proofs.Own.{finds_slot, finds_record}
use Rattle.lane_driver.specs.Told.{IsLane, AreReplies}
use Rattle.node_lock.specs.Moving.{of_lane}
use Rattle.port_sets.specs.declared.coordinators.LogCall.{LogCall}
use Rattle.port_sets.specs.declared.coordinators.LogCall.TheVariants.{Prepare, Decide, Discard, Done}
use Rattle.port_sets.specs.Logs.{log_call_lane, txs_at, log_may_be_asked}

-- records of other lanes may come between what a lane has seen and what it finds, where it is not alone
pub all_may : (lane : ℕ) (xs : List Record) → of_lane lane xs ≡ [] → AllMay false lane xs
all_may lane [] e = tt
all_may lane (x ∷ xs) e = go (tells_lane lane x) refl e (all_may lane xs)
  where
    go : (b : Bool) → tells_lane lane x ≡ b → (if b then x ∷ of_lane lane xs else of_lane lane xs) ≡ []
        → (of_lane lane xs ≡ [] → AllMay false lane xs) → (may_come false lane x ≡ true) × AllMay false lane xs
    go true is e f = absurd (let z : x ∷ of_lane lane xs ≡ [] = e in cc)
    go false is e f = (ap (λ b. not false && not b) is, f e)

module _ (lane : ℕ) (old found : List Record) (f : Found false lane old found) where
  -- the lane's slot is as before, where what was found has records of other lanes alone in front
  pub same_slot : slot found lane ≡ slot old lane
  same_slot = finds_slot false lane old found f

  -- the transactions of the lane's open batch are as before
  pub same_txs : txs_at found lane ≡ txs_at old lane
  same_txs = ap txs_in (finds_record false 6 (open_batch found lane) old found f)
      ∙ ap (λ s. txs_of old (record { lane = lane; number = s.number })) same_slot

  -- the lane's phase is as before
  pub same_phase : (p : Phase) → (slot old lane).phase ≡ p → (slot found lane).phase ≡ p
  same_phase p e = ap (λ s. s.phase) same_slot ∙ e

-- a journal that has grown by records of other lanes alone is one that the lane may find
found_by : (lane : ℕ) (s t : Sight) (more : List Record) → t.seen ≡ more ++ s.seen → of_lane lane more ≡ [] → Found false lane s.seen t.seen
found_by lane s t more is other = record { more = more; is = is; between = all_may lane more other }

-- a call that may be made at a coordinator may be made still behind records of other lanes; cited where a coordinator is made a node of a lock
pub still_asked : (c : LogCall) (s t : Sight) (more : List Record) → t.header ≡ s.header → t.seen ≡ more ++ s.seen
    → of_lane (log_call_lane c) more ≡ [] → log_may_be_asked c s → log_may_be_asked c t
still_asked (Prepare lane txs) s t more header seen other may =
    let f = found_by lane s t more seen other in (
      subst (λ h. IsLane h lane) (sym header) may.0,
      same_phase lane s.seen t.seen f Idle may.1,
      subst (λ h. HasSize h.shape txs.now) (sym header) may.2,
      may.3,
    )
still_asked (Decide lane replies out) s t more header seen other may =
    let f = found_by lane s t more seen other in (
      subst (λ h. IsLane h lane) (sym header) may.0,
      same_phase lane s.seen t.seen f InPrepare may.1,
      subst (λ h. AreReplies h.shape replies.now) (sym header) may.2,
      subst (λ xs. length xs ≤ vec_capacity out.now) (sym (same_txs lane s.seen t.seen f)) may.3,
    )
still_asked (Discard lane cause) s t more header seen other may =
    let f = found_by lane s t more seen other in (
      subst (λ h. IsLane h lane) (sym header) may.0,
      same_phase lane s.seen t.seen f InCommit may.1,
      may.2,
    )
still_asked (Done lane cause) s t more header seen other may =
    let f = found_by lane s t more seen other in (
      subst (λ h. IsLane h lane) (sym header) may.0,
      same_phase lane s.seen t.seen f InDiscard may.1,
      may.2,
    )

-- Open batches are brought to their end, lane by lane, also behind a lane's fault.
use Rattle.std.proofs.Common.{◌≡◌, ◌≢◌, ◌⊎◌, inl, inr, ℕ, ◌+◌, ◌*◌, ◌<◌, ◌≤◌, List, refl, sym, ap, ◌∙◌, subst, arith, Some, None}
use Rattle.std.specs.Prelude.{Option, Result, Ok, Err, IfErr, OnOk, IsOk}
use Rattle.std.specs.Option.{option_or}
use Rattle.std.specs.Result.{result_err}
use Rattle.cbdc_model.specs.Records.{Shape, Record}
use Rattle.cbdc_model.specs.Slots.{Idle}
use Rattle.cbdc_model.specs.Ranges.{home_of}
use Rattle.cbdc_model.specs.Lanes.{IsEnd}
use Rattle.lane_laws.specs.Batches.{own}
use Rattle.lane_laws.specs.Batches as batches
use Rattle.ledger_laws.proofs.Cuts.{end_self}
use Rattle.run_laws.proofs.TurnKinds.{prepared_own}
use Rattle.lane_driver.specs.declared.fault.LaneFault.{LaneFault}
use Rattle.lane_driver.specs.declared.fault.LaneFaultKind.TheVariants.{Memory as NoMemory}
use Rattle.ledger_runs.specs.Turning.{lane_phase, IsLaneOf, KeepsLanes}
use Rattle.ledger_runs.specs.Faults.{GrowBy, IsSomeCauseOf, IsRunCause, IsOpenCause, Nothing, LaneRests, IsLaneUntouched, LaneWaits, RestsOrWaits}
use Rattle.ledger_runs.specs.Faults.{AllRestOrWait}
use Rattle.ledger_runs.specs.Least.{IsFirstOpenFault}
use Rattle.ledger_runs.proofs.Others.{own_same, slot_same}
use Rattle.ledger_runs.proofs.Preparing.{same_prepared}
use Rattle.ledger_runs.proofs.Keeping.{lt_or_eq}
use Rattle.ledger_runs.proofs.Faulting.{wanted_stays, asked_stays, before_locks_stay, cause_moves, cause_since, cause_any, rests_by, grown_end}

-- ---- the first fault

pub first_none : (first : Option LaneFault) (came : Result (Unit {0}) LaneFault) → option_or first (result_err came) ≡ None
    → (first ≡ None) × IsOk came
first_none None (Ok x) none = (refl, refl)
first_none None (Err e) none = absurd (let z : Some e ≡ None = none in cc)
first_none (Some f) came none = absurd (let z : Some f ≡ None = none in cc)

first_some : (first : Option LaneFault) (came : Result (Unit {0}) LaneFault) (e : LaneFault) → option_or first (result_err came) ≡ Some e
    → (first ≡ Some e) ⊎ ((first ≡ None) × (came ≡ Err e))
first_some None (Ok x) e some = absurd (let z : None ≡ Some e = some in cc)
first_some None (Err f) e some = inr (refl, let z : f ≡ e = cc in ap Err z)
first_some (Some f) came e some = inl some

-- ---- what a lane leaves that another left

-- nothing of a lane was written while others went on
pub untouched_on : (lane turn : ℕ) → turn ≢ lane → (E J L : ℕ → List Record) → GrowBy turn J L → IsLaneUntouched lane E J → IsLaneUntouched lane E L
untouched_on lane turn apart E J L grown was n = own_same lane turn apart J L grown n ∙ was n

-- a lane waits while another goes on
waits_stay : (K : Shape) (lane turn : ℕ) → turn ≢ lane → (E J L : ℕ → List Record) → GrowBy turn J L → LaneWaits K lane E J → LaneWaits K lane E L
waits_stay K lane turn apart E J L grown (phase, none) = (
  ap (λ s. s.phase) (slot_same lane turn apart J L grown (home_of K lane)) ∙ phase,
  same_prepared lane turn apart J L grown (home_of K lane) ∙ none,
)

-- or from an earlier entry, since which nothing of it was written
waits_since : (K : Shape) (lane : ℕ) (E J L : ℕ → List Record) → IsLaneUntouched lane E J → LaneWaits K lane J L → LaneWaits K lane E L
waits_since K lane E J L none (phase, still) = (
  phase,
  still ∙ (prepared_own lane (J (home_of K lane)) ∙ ap batches.prepares_txs (none (home_of K lane)) ∙ sym (prepared_own lane (E (home_of K lane)))),
)

-- a lane rests while another goes on
rests_stay : (K : Shape) (lane turn : ℕ) → turn ≢ lane → (J L : ℕ → List Record) (failed fails : ℕ → Type 0) → GrowBy turn J L
    → ((n : ℕ) → failed n → fails n) → LaneRests K lane J failed → LaneRests K lane L fails
rests_stay K lane turn apart J L failed fails grown failed_on (inl before) = inl (before_locks_stay lane turn apart J L grown K before)
rests_stay K lane turn apart J L failed fails grown failed_on (inr (node, h)) =
    inr (
      node,
      record {
        inside = h.inside;
        asked = asked_stays lane turn apart J L grown K Nothing Nothing (λ txs n. n) node h.asked;
        did = failed_on node h.did;
      },
    )

-- the cause of its fault stays, too
open_stays : (K : Shape) (lane turn : ℕ) → turn ≢ lane → (E J L : ℕ → List Record) (failed fails : ℕ → Type 0) (holds held : ℕ → ℕ → Type 0)
    → GrowBy turn J L → ((n : ℕ) → failed n → fails n) → ((n c : ℕ) → holds n c → held n c)
    → (e : LaneFault) → IsOpenCause K lane E J failed holds e → IsOpenCause K lane E L fails held e
open_stays K lane turn apart E J L failed fails holds held grown failed_on held_on e (inl (memory, waits)) =
    inl (memory, waits_stay K lane turn apart E J L grown waits)
open_stays K lane turn apart E J L failed fails holds held grown failed_on held_on e (inr cause) =
    inr (cause_moves K lane Nothing Nothing E E J L failed fails holds held (λ n. end_self (E n)) (grown_end turn J L grown)
    (slot_same lane turn apart J L grown)
    (wanted_stays lane turn apart J L grown K Nothing Nothing (λ txs n. n)) (asked_stays lane turn apart J L grown K Nothing Nothing (λ txs n. n))
    (before_locks_stay lane turn apart J L grown K) failed_on held_on e.node e.fault cause)

open_since : (K : Shape) (lane : ℕ) (E J L : ℕ → List Record) (failed : ℕ → Type 0) (holds : ℕ → ℕ → Type 0) → ((n : ℕ) → IsEnd (E n) (J n))
    → IsLaneUntouched lane E J
    → (e : LaneFault) → IsOpenCause K lane J L failed holds e → IsOpenCause K lane E L failed holds e
open_since K lane E J L failed holds since none e (inl (memory, waits)) = inl (memory, waits_since K lane E J L none waits)
open_since K lane E J L failed holds since none e (inr cause) = inr (cause_since K lane Nothing Nothing J E L failed holds since (λ txs n. n) e cause)

-- ---- behind one more lane

-- the fault is that of a lane below this one, has its cause, and all lesser lanes are idle
abbrev pub FirstBelow : Shape → ℕ → (ℕ → List Record) → (ℕ → List Record) → (ℕ → Type 0) → (ℕ → ℕ → Type 0) → LaneFault → Type 0
FirstBelow K turn E J failed holds e = (lane : ℕ) × (lane < turn) × IsOpenCause K lane E J failed holds e
    × ((other : ℕ) → other < lane → lane_phase K J other ≡ Idle)

pub first_begin : (K : Shape) (E : ℕ → List Record) (failed : ℕ → Type 0) (holds : ℕ → ℕ → Type 0) (e : LaneFault) → None ≡ Some e
    → FirstBelow K 0 E E failed holds e
first_begin K E failed holds e some = absurd (let z : None ≡ Some e = some in cc)

pub rests_begin : (K : Shape) (E : ℕ → List Record) (failed wanting : ℕ → Type 0) (lane : ℕ) → lane < 0
    → RestsOrWaits K lane E E failed (wanting lane)
rests_begin K E failed wanting lane low = absurd (omega (arith, low))

module _ (K H : Shape) (turn : ℕ) (E J L : ℕ → List Record) (failed fails : ℕ → Type 0) (holds held : ℕ → ℕ → Type 0) (same : H ≡ K)
    (inside : IsLaneOf K turn) (since : (n : ℕ) → IsEnd (E n) (J n)) (grown : GrowBy turn J L)
    (failed_on : (n : ℕ) → failed n → fails n) (held_on : (n c : ℕ) → holds n c → held n c) (none : IsLaneUntouched turn E J)
    (came : Result (Unit {0}) LaneFault) (cause : IfErr came (IsOpenCause H turn J L fails held)) where
  apart : (lane : ℕ) → lane < turn → turn ≢ lane
  apart lane low is = omega (arith, low, is)

  its_cause : (e : LaneFault) → came ≡ Err e → IsOpenCause K turn J L fails held e
  its_cause e is = subst (λ k. IsOpenCause k turn J L fails held e) same (subst (λ c. IfErr c (IsOpenCause H turn J L fails held)) is cause)

  pub first_next : KeepsLanes H turn J L → (first : Option LaneFault) → (first ≡ None → (l : ℕ) → l < turn → lane_phase K J l ≡ Idle)
      → ((e : LaneFault) → first ≡ Some e → FirstBelow K turn E J failed holds e)
      → (e : LaneFault) → option_or first (result_err came) ≡ Some e → FirstBelow K (turn + 1) E L fails held e
  first_next keeps first idle had e is = go (first_some first came e is)
    where
      still : (l : ℕ) → l < turn → lane_phase K J l ≡ Idle → lane_phase K L l ≡ Idle
      still l low was = subst (λ k. KeepsLanes k turn J L) same keeps l (omega (arith, low, inside)) (λ h. omega (arith, h, low)) ∙ was

      go : (first ≡ Some e) ⊎ ((first ≡ None) × (came ≡ Err e)) → FirstBelow K (turn + 1) E L fails held e
      go (inl before) =
          let f = had e before in (
            f.0,
            omega (arith, f.1),
            open_stays K f.0 turn (apart f.0 f.1) E J L failed fails holds held grown failed_on held_on e f.2,
            λ l low. still l (omega (arith, low, f.1)) (f.3 l low),
          )
      go (inr (had_none, now)) = (
        turn,
        omega arith,
        open_since K turn E J L fails held since none e (its_cause e now),
        λ l low. still l low (idle had_none l low),
      )

  pub rests_next : (wanting wants : ℕ → Type 0) → ((n : ℕ) → wanting n → wants n) → OnOk came (lane_phase H L turn ≡ Idle)
      → IfErr came (λ e. e.fault ≡ NoMemory → wants turn)
      → ((lane : ℕ) → lane < turn → RestsOrWaits K lane E J failed (wanting lane)) → (lane : ℕ) → lane < turn + 1
      → RestsOrWaits K lane E L fails (wants lane)
  rests_next wanting wants wanting_on idle want before lane low = go (lt_or_eq lane turn low)
    where
      older : (lt : lane < turn) → RestsOrWaits K lane E J failed (wanting lane) → RestsOrWaits K lane E L fails (wants lane)
      older lt (inl rests) = inl (rests_stay K lane turn (apart lane lt) J L failed fails grown failed_on rests)
      older lt (inr (want, waits)) = inr (wanting_on lane want, waits_stay K lane turn (apart lane lt) E J L grown waits)

      stopped : (e : LaneFault) → (e.fault ≡ NoMemory → wants turn) → IsOpenCause K turn J L fails held e → RestsOrWaits K turn E L fails (wants turn)
      stopped e want (inl (memory, waits)) = inr (want memory, waits_since K turn E J L none waits)
      stopped e want (inr cause) = inl (rests_by K turn Nothing J L fails held e cause)

      own_turn : (c : Result (Unit {0}) LaneFault) → OnOk c (lane_phase H L turn ≡ Idle) → IfErr c (λ e. e.fault ≡ NoMemory → wants turn)
          → IfErr c (IsOpenCause H turn J L fails held) → RestsOrWaits K turn E L fails (wants turn)
      own_turn (Ok x) idle want cause = inl (inl (inl (subst (λ k. lane_phase k L turn ≡ Idle) same idle)))
      own_turn (Err e) idle want cause = stopped e want (subst (λ k. IsOpenCause k turn J L fails held e) same cause)

      go : (lane < turn) ⊎ (lane ≡ turn) → RestsOrWaits K lane E L fails (wants lane)
      go (inl lt) = older lt (before lane lt)
      go (inr is) = subst (λ l. RestsOrWaits K l E L fails (wants l)) (sym is) (own_turn came idle want cause)

-- ---- behind the last

pub first_end : (K : Shape) (turn : ℕ) (E X : ℕ → List Record) (failed : ℕ → Type 0) (holds : ℕ → ℕ → Type 0) (e : LaneFault)
    → turn ≤ K.coordinators * K.lanes → FirstBelow K turn E X failed holds e → IsFirstOpenFault K E X failed holds e
first_end K turn E X failed holds e low f = (f.0, omega (arith, f.1, low), f.2, f.3)

pub rests_end : (K : Shape) (turn : ℕ) (E X : ℕ → List Record) (failed wanting : ℕ → Type 0) → K.coordinators * K.lanes ≤ turn
    → ((lane : ℕ) → lane < turn → RestsOrWaits K lane E X failed (wanting lane)) → AllRestOrWait K E X failed wanting
rests_end K turn E X failed wanting all rests lane inside = rests lane (omega (arith, inside, all))

-- the first fault is one of the run
pub first_cause : (K : Shape) (E X : ℕ → List Record) (failed : ℕ → Type 0) (holds : ℕ → ℕ → Type 0) (e : LaneFault)
    → IsFirstOpenFault K E X failed holds e → IsRunCause K (λ _. Nothing) E X failed holds e
first_cause K E X failed holds e (lane, inside, inl (memory, waits), lesser) =
    subst (λ k. IsSomeCauseOf K (λ _. Nothing) E X failed holds e.node k) (sym memory) tt
first_cause K E X failed holds e (lane, inside, inr cause, lesser) = cause_any K lane (λ _. Nothing) E X failed holds inside e cause

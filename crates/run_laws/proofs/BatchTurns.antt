-- A turn that brings an open batch to its end.
use Rattle.std.proofs.Common.{◌≡◌, ℕ, ◌<◌, true, false, ◌==◌, List, [], ◌∷◌, ◌++◌, is_some, refl, sym, ap, ◌∙◌, subst, arith}
use Rattle.cbdc_model.specs.Records.{Shape, Batch, Compact, Outcome, Record, Row, journal, record_of, tells_lane, Prepare, Commit, Discard, Done}
use Rattle.cbdc_model.specs.Slots.{Phase, slot, Idle, InLock, InFinish, InPrepare, InCommit, InDiscard}
use Rattle.cbdc_model.specs.Ranges.{home_of}
use Rattle.cbdc_model.specs.Due.{open_batch}
use Rattle.cbdc_model.specs.Clean.{IsProperCompact}
use Rattle.cbdc_model.specs.History.{Minted, minted, first_rows}
use Rattle.cbdc_model.specs.Waves.{Adds, prepared}
use Rattle.lane_laws.specs.Batches.{own}
use Rattle.lane_laws.proofs.Own.{own_in, own_out, record_own, slot_own}
use Rattle.ledger_laws.proofs.Slots.{same_batch_self}
use Rattle.ledger_laws.proofs.Ledger.{steady}
use Rattle.run_laws.specs.Runs.{seen_by, IsTurn}
use Rattle.run_laws.specs.Turns.{OpenTurnLaw, ResumedTurnLaw}
use Rattle.run_laws.proofs.TurnStep.{lifted}
use Rattle.run_laws.proofs.OtherLanes.{leaves}
use Rattle.run_laws.proofs.Seen.{seen_log}
use Rattle.run_laws.proofs.NewRecords.{open_adds}
use Rattle.run_laws.proofs.TurnKinds.{taken_law, prepared_law}
use Rattle.run_laws.proofs.OpenLanes.{open_in}
use Rattle.ledger_laws.proofs.Next.{Steady}
use Rattle.ledger_laws.proofs.Moves.{all_more}

-- what a lane has, and the head of what it has newly
pub own_append : (lane : ℕ) (A B : List Record) → own lane (A ++ B) ≡ own lane A ++ own lane B
own_append lane [] B = refl
own_append lane (r ∷ A) B = elim (tells_lane lane r) as (λ t. tells_lane lane r ≡ t → own lane (r ∷ (A ++ B)) ≡ own lane (r ∷ A) ++ own lane B) [
  | true ↦ λ t. own_in lane r (A ++ B) t ∙ ap (λ L. r ∷ L) (own_append lane A B) ∙ ap (λ L. L ++ own lane B) (sym (own_in lane r A t))
  | false ↦ λ t. own_out lane r (A ++ B) t ∙ own_append lane A B ∙ ap (λ L. L ++ own lane B) (sym (own_out lane r A t))
] refl

pub own_head : (lane : ℕ) (J : List Record) (r : Record) (rest : List Record) → own lane J ≡ r ∷ rest → tells_lane lane r ≡ true
own_head lane [] r rest e = absurd (let z : [] ≡ r ∷ rest = e in cc)
own_head lane (q ∷ J) r rest e = elim (tells_lane lane q) as (λ t. tells_lane lane q ≡ t → tells_lane lane r ≡ true) [
  | true ↦ λ t. subst (λ x. tells_lane lane x ≡ true) (head_is q r (own lane J) rest (sym (own_in lane q J t) ∙ e)) t
  | false ↦ λ t. own_head lane J r rest (sym (own_out lane q J t) ∙ e)
] refl
  where
    head_is : (q r : Record) (A B : List Record) → q ∷ A ≡ r ∷ B → q ≡ r
    head_is q r A B e = cc

-- the head of what the lane has newly tells its lane and number
pub done_number : (lane k stamp : ℕ) (b : Batch) (rest J : List Record) → own lane J ≡ Done stamp b ∷ rest → (slot J lane).number ≡ k
    → (b.lane ≡ lane) × (b.number ≡ k)
done_number lane k stamp b rest J e n =
    let l : (b.lane == lane) ≡ true = own_head lane J (Done stamp b) rest e in
    let here : (slot (Done stamp b ∷ rest) lane).number ≡ b.number = rw l in
    (grind (arith, l), sym here ∙ ap (λ L. (slot L lane).number) (sym e) ∙ ap (λ s. s.number) (sym (slot_own lane J)) ∙ n)

pub prepare_found : (lane stamp a c d : ℕ) (os : List Outcome) (txs : List Compact) (b : Batch) (rest J : List Record) → b.lane ≡ lane
    → own lane J ≡ Done a b ∷ Discard c b ∷ Commit d b os ∷ Prepare stamp b txs ∷ rest → is_some (record_of 6 J b) ≡ true
prepare_found lane stamp a c d os txs b rest J e n =
    ap is_some (record_own 6 b J) ∙ ap (λ l. is_some (record_of 6 (own l J) b)) e ∙ ap (λ L. is_some (record_of 6 L b)) n ∙ found
  where
    found : is_some (record_of 6 (Done a b ∷ Discard c b ∷ Commit d b os ∷ Prepare stamp b txs ∷ rest) b) ≡ true
    found = rw (same_batch_self b)

pub open_turn_law : OpenTurnLaw
open_turn_law K mint submissions lane logs shards logs' shards' some home kept kept' turn =
    subst (λ L. Adds (λ c. c ≡ open_batch L lane) (seen_by K logs shards) (seen_by K logs' shards')) (seen_log K logs shards (home_of K lane) home)
    (open_adds K (minted mint) (IsProperCompact submissions) some kept.later kept'.later
    (steady K (minted mint) (IsProperCompact submissions) kept.later kept.kept)
    (steady K (minted mint) (IsProperCompact submissions) kept'.later kept'.kept) lane home
    (seen_by K logs shards) (seen_by K logs' shards') kept.history.journals_are kept'.history.journals_are
    (lifted K [] lane logs shards logs' shards' home turn))

-- the open batch of a lane that is not idle is prepared and not done
module _ (K : Shape) (minting : Minted) (P : Compact → Type 0) (some : 0 < K.shards) (later : List Row) (kept : Steady K minting P later) (lane : ℕ)
    (home : home_of K lane < K.coordinators) where
  abbrev H : List Record
  H = journal (home_of K lane) (later ++ first_rows K minting)

  pub open_stands : (p : Phase) → (slot H lane).phase ≡ p → (p ≡ Idle → ⊥)
      → (is_some (record_of 6 H (open_batch H lane)) ≡ true) × (is_some (record_of 9 H (open_batch H lane)) ≡ false)
  open_stands Idle e busy = absurd (busy refl)
  open_stands InLock e busy = absurd (open_in K minting P some later kept (open_batch H lane) home refl InLock e)
  open_stands InFinish e busy = absurd (open_in K minting P some later kept (open_batch H lane) home refl InFinish e)
  open_stands InPrepare e busy = (
    ap is_some (open_in K minting P some later kept (open_batch H lane) home refl InPrepare e).1,
    ((all_more K minting P some later kept (home_of K lane)).in_prepare (open_batch H lane) e refl).1,
  )
  open_stands InCommit e busy = (
    ap is_some (open_in K minting P some later kept (open_batch H lane) home refl InCommit e).2.1,
    ((all_more K minting P some later kept (home_of K lane)).in_commit (open_batch H lane) e refl).1,
  )
  open_stands InDiscard e busy = (
    ap is_some (open_in K minting P some later kept (open_batch H lane) home refl InDiscard e).2.1,
    (all_more K minting P some later kept (home_of K lane)).in_discard (open_batch H lane) e refl,
  )

pub resumed_turn_law : ResumedTurnLaw
resumed_turn_law K mint submissions lane logs shards logs' shards' some home elsewhere kept kept' busy taken = record {
  adds = open_turn_law K mint submissions lane logs shards logs' shards' some home kept kept' turn;
  prepare = ap (λ L. is_some (record_of 6 L b)) (seen_log K logs shards (home_of K lane) home) ∙ stands.0;
  undone = ap (λ L. is_some (record_of 9 L b)) (seen_log K logs shards (home_of K lane) home) ∙ stands.1;
  prepares = ap (prepared lane) (seen_log K logs' shards' (home_of K lane) home) ∙ (prepared_law K lane logs shards logs' shards' home).2 turn
      ∙ ap (prepared lane) (sym (seen_log K logs shards (home_of K lane) home));
  others = leaves K [] lane (seen_by K logs shards) (seen_by K logs' shards') (lifted K [] lane logs shards logs' shards' home turn);
  idle = ap (λ L. (slot L lane).phase) (seen_log K logs' shards' (home_of K lane) home) ∙ taken.idle;
}
  where
    b : Batch
    b = open_batch (logs (home_of K lane)).seen lane

    turn : IsTurn K [] lane logs shards logs' shards'
    turn = (taken_law K lane logs shards logs' shards' elsewhere).2 b refl taken

    at_home : journal (home_of K lane) (kept.later ++ first_rows K (minted mint)) ≡ (logs (home_of K lane)).seen
    at_home = kept.history.journals_are (home_of K lane) ∙ seen_log K logs shards (home_of K lane) home

    stands : (is_some (record_of 6 (logs (home_of K lane)).seen b) ≡ true) × (is_some (record_of 9 (logs (home_of K lane)).seen b) ≡ false)
    stands =
        subst (λ L. (p : Phase) → (slot L lane).phase ≡ p → (p ≡ Idle → ⊥)
        → (is_some (record_of 6 L (open_batch L lane)) ≡ true) × (is_some (record_of 9 L (open_batch L lane)) ≡ false)) at_home
        (open_stands K (minted mint) (IsProperCompact submissions) some kept.later
        (steady K (minted mint) (IsProperCompact submissions) kept.later kept.kept) lane home)
        (slot (logs (home_of K lane)).seen lane).phase refl busy

-- What comes of a list of one lane is what comes of the lane.
use Rattle.std.proofs.Common.{◌≡◌, ◌≢◌, ℕ, Bool, true, List, [], ◌∷◌, ◌++◌, length, get_or, Result, Ok, Err, IfOk, OnOk, refl, sym, ap, subst, arith}
use Rattle.std.specs.List.{All}
use Rattle.std.proofs.lemmas.List.{length-append}
use Rattle.std.proofs.lemmas.List.Elements.{All-nil, All-cons, All-head}
use Rattle.cbdc_types.specs.declared.batch.OpenLane.{OpenLane}
use Rattle.cbdc_model.specs.Records.{Shape, Header, Compact}
use Rattle.cbdc_model.specs.Slots.{Phase, Idle}
use Rattle.lane_driver.specs.Showing.{LaneSights}
use Rattle.lane_driver.specs.Told.{KeepsOtherLanes}
use Rattle.lane_driver.specs.declared.fault.LaneFault.{LaneFault}
use Rattle.recovery.specs.declared.resumed.Resumed.{Resumed}
use Rattle.recovery.specs.declared.resumed.ResumedBatch.{ResumedBatch}
use Rattle.recovery.specs.Open.{KeepsUnlisted, AreResumed, IsResumeStopped, IsOneTaken, AreTakenUp, AreTried, IsStoppedAmong, OpenLanesResult}
use Rattle.recovery.proofs.InOrder.{taken_resumed}
use Rattle.recovery.proofs.Taking.{resume_left}
use Rattle.file_runs.specs.Ones.{IsOneOf, ResumeLeft}

one_batch : (o : OpenLane) (rs : List ResumedBatch) → AreResumed (o ∷ []) rs → (b : ResumedBatch) × (rs ≡ b ∷ [])
one_batch o [] resumed = absurd resumed
one_batch o (b ∷ []) resumed = (b, refl)
one_batch o (b ∷ c ∷ rs) resumed = absurd resumed.1

pub are_one : (K : Shape) (alone : Bool) (o : OpenLane) (came : Result Resumed LaneFault) (old new : LaneSights)
    → OpenLanesResult K alone (o ∷ []) came old new → IfOk came (λ r. (b : ResumedBatch) × (r.batches ≡ b ∷ []))
are_one K alone o (Ok r) old new taken = one_batch o r.batches (taken_resumed K alone (o ∷ []) r.batches old new taken)
are_one K alone o (Err e) old new stop = tt

-- the other lanes
pub others_keep : (h : Header) (o : OpenLane) (p q : ℕ → Phase) (t u : ℕ → List Compact) → KeepsUnlisted h (o ∷ []) p q t u
    → KeepsOtherLanes h o.batch.lane p q t u
others_keep h o p q t u keeps lane inside apart =
    keeps lane inside (All-cons (λ x. lane ≢ x.batch.lane) o [] apart (All-nil (λ x. lane ≢ x.batch.lane)))

-- the one of a chain of one
taken_one : (K : Shape) (alone : Bool) (o : OpenLane) (b : ResumedBatch) (old new : LaneSights) → AreTakenUp K alone (o ∷ []) (b ∷ []) old new
    → IsOneTaken K alone o old.home old.shards new.home new.shards b
taken_one K alone o b old new (between, is, same) =
    subst (λ (x : LaneSights). IsOneTaken K alone o old.home old.shards x.home x.shards b) (sym same) is

pub one_idle : (phase : ℕ → Phase) (o : OpenLane) (came : Result Resumed LaneFault) (one : Result ResumedBatch LaneFault) → IsOneOf came one
    → OnOk came (All (λ x. phase x.batch.lane ≡ Idle) (o ∷ [])) → OnOk one (phase o.batch.lane ≡ Idle)
one_idle phase o (Ok r) (Ok b) is idle = All-head (λ x. phase x.batch.lane ≡ Idle) o [] idle
one_idle phase o (Ok r) (Err f) is idle = absurd is
one_idle phase o (Err e) (Ok b) is idle = absurd is
one_idle phase o (Err e) (Err f) is idle = tt

-- it stopped, and nothing stands before it or behind
stopped_one : (K : Shape) (alone : Bool) (o : OpenLane) (old new : LaneSights) (e : LaneFault) → IsStoppedAmong K alone (o ∷ []) old new e
    → IsResumeStopped K alone o old.home old.shards new.home new.shards e
stopped_one K alone o old new e among = go among.before among.batches among.behind among.came among.are among.taken among.went_on
  where
    left : IsResumeStopped K alone among.stopped_at among.there.home among.there.shards among.since.home among.since.shards e
    left = resume_left K alone among.stopped_at among.there among.since e among.stopped

    go : (before : List OpenLane) (batches : List ResumedBatch) (behind : List OpenLane) (came : List (Result ResumedBatch LaneFault))
        → o ∷ [] ≡ before ++ among.stopped_at ∷ behind
        → AreTakenUp K alone before batches old among.there → AreTried K alone behind came among.since new
        → IsResumeStopped K alone o old.home old.shards new.home new.shards e
    go [] [] [] [] is same still =
        subst (λ x. IsResumeStopped K alone x old.home old.shards new.home new.shards e) (sym (head_is is))
        (subst (λ (x : LaneSights). IsResumeStopped K alone among.stopped_at old.home old.shards x.home x.shards e) (sym still)
        (subst (λ (x : LaneSights). IsResumeStopped K alone among.stopped_at x.home x.shards among.since.home among.since.shards e) same left))
      where
        head_is : o ∷ [] ≡ among.stopped_at ∷ [] → o ≡ among.stopped_at
        head_is is_one = ap (λ l. get_or l 0 o) is_one
    go [] [] [] (c ∷ cs) is taken tried = absurd tried
    go [] [] (p ∷ ps) came is taken tried = absurd (omega (arith, ap length is))
    go [] (b ∷ bs) behind came is taken tried = absurd taken
    go (p ∷ ps) bs behind came is taken tried = absurd (omega (arith, ap length is, length-append ps (among.stopped_at ∷ behind)))

pub one_came : (K : Shape) (o : OpenLane) (old new : LaneSights) (came : Result Resumed LaneFault) (one : Result ResumedBatch LaneFault)
    → IsOneOf came one
    → OpenLanesResult K true (o ∷ []) came old new → ResumeLeft K o one old.home old.shards new.home new.shards
one_came K o old new (Ok r) (Ok b) is taken = taken_one K true o b old new (subst (λ bs. AreTakenUp K true (o ∷ []) bs old new) is taken)
one_came K o old new (Ok r) (Err f) is taken = absurd is
one_came K o old new (Err e) (Ok b) is stop = absurd is
one_came K o old new (Err e) (Err f) is stop = subst (IsResumeStopped K true o old.home old.shards new.home new.shards) (sym is)
    (stopped_one K true o old new e stop)

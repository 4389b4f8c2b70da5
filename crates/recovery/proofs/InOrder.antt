-- Lanes that are resumed one behind the other.
use Rattle.std.proofs.Common.{◌≡◌, ◌≢◌, inl, inr, ℕ, suc, ◌+◌, ◌<◌, Bool, List, [], ◌∷◌, ◌++◌, length, get_or, take, drop, refl, sym, ap, ◌∙◌, subst}
use Rattle.std.proofs.Common.{append_assoc, arith, Some, None}
use Rattle.std.specs.Prelude.{Contains, Option, Result, Ok, Err}
use Rattle.std.specs.List.{All}
use Rattle.std.proofs.lemmas.List.{take_more}
use Rattle.std.proofs.lemmas.List.Elements.{All-nil, All-get_or, All-push, All-weaker}
use Rattle.cbdc_types.specs.declared.batch.OpenLane.{OpenLane}
use Rattle.cbdc_model.specs.Records.{Shape, Header, Compact}
use Rattle.cbdc_model.specs.Slots.{Phase, Idle}
use Rattle.lane_driver.specs.Told.{IsLane, KeepsOtherLanes}
use Rattle.lane_driver.specs.Showing.{LaneSights}
use Rattle.recovery.specs.declared.resumed.Resumed.{Resumed}
use Rattle.recovery.specs.declared.resumed.ResumedBatch.{ResumedBatch}
use Rattle.lane_driver.specs.declared.fault.LaneFault.{LaneFault}
use Rattle.lane_driver.specs.declared.fault.LaneFaultKind.TheVariants.{Memory as NoMemory}
use Rattle.recovery.specs.Open.{IsLaneOpen, LanesAbove, LanesRise, KeepsUnlisted, AreResumed, HasPreparedLane, IsOneTaken, AreTakenUp, ResumeResult}
use Rattle.recovery.specs.Open.{AreTried, HasGoneOn, IsStoppedAmong, OpenLanesResult, ResumingResult, WasCaused, KeepsResumed}
use Rattle.recovery.proofs.Rest.{split_rest, open_here, more_before}
use Rattle.lane_driver.proofs.Outcomes.{driver_caused}
use Rattle.recovery.proofs.Taking.{resume_caused, resume_want}
use Rattle.recovery.proofs.Onward.{gone_same, gone_on}

-- ---- what was taken

-- one more
taken_one_more : (K : Shape) (alone : Bool) (os : List OpenLane) (rs : List ResumedBatch) (o : OpenLane) (r : ResumedBatch)
    (old between new : LaneSights)
    → AreTakenUp K alone os rs old between → IsOneTaken K alone o between.home between.shards new.home new.shards r
    → AreTakenUp K alone (os ++ o ∷ []) (rs ++ r ∷ []) old new
taken_one_more K alone [] [] o r old between new same one =
    (new, subst (λ (x : LaneSights). IsOneTaken K alone o x.home x.shards new.home new.shards r) same one, refl)
taken_one_more K alone [] (q ∷ rs) o r old between new taken one = absurd taken
taken_one_more K alone (p ∷ os) [] o r old between new taken one = absurd taken
taken_one_more K alone (p ∷ os) (q ∷ rs) o r old between new (first, is, rest) one =
    (first, is, taken_one_more K alone os rs o r first between new rest one)

-- each of them is told
pub taken_resumed : (K : Shape) (alone : Bool) (os : List OpenLane) (rs : List ResumedBatch) (old new : LaneSights)
    → AreTakenUp K alone os rs old new → AreResumed os rs
taken_resumed K alone [] [] old new taken = tt
taken_resumed K alone [] (q ∷ rs) old new taken = absurd taken
taken_resumed K alone (p ∷ os) [] old new taken = absurd taken
taken_resumed K alone (p ∷ os) (q ∷ rs) old new (first, is, rest) = (is.resumed, taken_resumed K alone os rs first new rest)

-- one more, whatever it came to
tried_one_more : (K : Shape) (alone : Bool) (os : List OpenLane) (cs : List (Result ResumedBatch LaneFault)) (o : OpenLane)
    (c : Result ResumedBatch LaneFault) (old between new : LaneSights)
    → AreTried K alone os cs old between → ResumeResult K alone o c between new → AreTried K alone (os ++ o ∷ []) (cs ++ c ∷ []) old new
tried_one_more K alone [] [] o c old between new same one = (new, subst (λ (x : LaneSights). ResumeResult K alone o c x new) same one, refl)
tried_one_more K alone [] (d ∷ cs) o c old between new tried one = absurd tried
tried_one_more K alone (p ∷ os) [] o c old between new tried one = absurd tried
tried_one_more K alone (p ∷ os) (d ∷ cs) o c old between new (first, is, rest) one =
    (first, is, tried_one_more K alone os cs o c first between new rest one)

-- ---- what is kept of them: the batches while each is taken to its end, else the first fault

abbrev pub CameSo : Shape → Bool → List OpenLane → List ResumedBatch → Option LaneFault → LaneSights → LaneSights → Type 0
CameSo K alone os rs None old new = AreTakenUp K alone os rs old new
CameSo K alone os rs (Some e) old new = IsStoppedAmong K alone os old new e

kept_first : (before after : List ResumedBatch) (f : LaneFault) (now : Option LaneFault) (c : Result ResumedBatch LaneFault)
    → KeepsResumed before (Some f) c after now → now ≡ Some f
kept_first before after f now (Ok r) kept = kept.1
kept_first before after f now (Err e) kept = kept.1

pub kept_none : (before after : List ResumedBatch) (was now : Option LaneFault) (c : Result ResumedBatch LaneFault)
    → KeepsResumed before was c after now → now ≡ None
    → (was ≡ None) × (r : ResumedBatch) × (c ≡ Ok r) × (after ≡ before ++ r ∷ [])
kept_none before after None now (Ok r) kept none = (refl, r, refl, kept.0)
kept_none before after None now (Err e) kept none = absurd (let z : Some e ≡ None = sym kept.1 ∙ none in cc)
kept_none before after (Some f) now c kept none = absurd (let z : Some f ≡ None = sym (kept_first before after f now c kept) ∙ none in cc)

module _ (K : Shape) (alone : Bool) (old between new : LaneSights) (logs_on : (n : ℕ) → HasGoneOn (between.logs n) (new.logs n))
    (shards_on : (n : ℕ) → HasGoneOn (between.shards n) (new.shards n)) where
  came_one_more : (os : List OpenLane) (before after : List ResumedBatch) (was now : Option LaneFault) (o : OpenLane)
      (c : Result ResumedBatch LaneFault)
      → CameSo K alone os before was old between → ResumeResult K alone o c between new → KeepsResumed before was c after now
      → CameSo K alone (os ++ o ∷ []) after now old new
  came_one_more os before after None now o (Ok r) so one kept =
      subst (λ f. CameSo K alone (os ++ o ∷ []) after f old new) (sym kept.1)
      (subst (λ rs. AreTakenUp K alone (os ++ o ∷ []) rs old new) (sym kept.0) (taken_one_more K alone os before o r old between new so one))
  came_one_more os before after None now o (Err e) so one kept =
      subst (λ f. CameSo K alone (os ++ o ∷ []) after f old new) (sym kept.1) (record {
        before = os;
        stopped_at = o;
        behind = [];
        are = refl;
        batches = before;
        there = between;
        taken = so;
        since = new;
        stopped = one;
        came = [];
        went_on = refl;
        logs_on = λ n. gone_same (new.logs n);
        shards_on = λ n. gone_same (new.shards n);
      })
  came_one_more os before after (Some f) now o c so one kept =
      subst (λ f. CameSo K alone (os ++ o ∷ []) after f old new) (sym (kept_first before after f now c kept)) (record {
        before = so.before;
        stopped_at = so.stopped_at;
        behind = so.behind ++ o ∷ [];
        are = ap (λ l. l ++ o ∷ []) so.are ∙ append_assoc so.before (so.stopped_at ∷ so.behind) (o ∷ []);
        batches = so.batches;
        there = so.there;
        taken = so.taken;
        since = so.since;
        stopped = so.stopped;
        came = so.came ++ c ∷ [];
        went_on = tried_one_more K alone so.behind so.came o c so.since between new so.went_on one;
        logs_on = λ n. gone_on (so.since.logs n) (between.logs n) (new.logs n) (so.logs_on n) (logs_on n);
        shards_on = λ n. gone_on (so.since.shards n) (between.shards n) (new.shards n) (so.shards_on n) (shards_on n);
      })

-- what they came to with their memory taken is what they came to
pub came_whole : (K : Shape) (alone : Bool) (os : List OpenLane) (came : Result Resumed LaneFault) (old new : LaneSights)
    → OpenLanesResult K alone os came old new → ResumingResult K alone os came old new
came_whole K alone os (Ok r) old new taken = taken
came_whole K alone os (Err e) old new stop = inr stop

module _ (K : Shape) (alone : Bool) (os : List OpenLane) (old new : LaneSights) (e : LaneFault) (among : IsStoppedAmong K alone os old new e) where
  -- where one stopped because memory ran out, one was prepared
  pub among_prepared : e.fault ≡ NoMemory → HasPreparedLane os
  among_prepared want = (
    among.stopped_at,
    subst (λ xs. Contains xs among.stopped_at) (sym among.are) (middle_there among.before among.stopped_at among.behind),
    (resume_want K alone among.stopped_at among.there among.since e among.stopped want).0,
  )
    where
      middle_there : (xs : List OpenLane) (x : OpenLane) (ys : List OpenLane) → Contains (xs ++ x ∷ ys) x
      middle_there [] x ys = (0, omega arith, refl)
      middle_there (z ∷ xs) x ys = let m = middle_there xs x ys in (suc m.0, omega (arith, m.1), m.2)

  -- its fault had its cause when it came
  pub among_caused : WasCaused K new.logs new.shards e
  among_caused = record {
    logs_then = among.since.logs;
    shards_then = among.since.shards;
    logs_on = among.logs_on;
    shards_on = among.shards_on;
    cause = resume_caused K alone among.stopped_at among.there among.since e among.stopped;
  }

-- so had the fault of open batches that were not begun because the driver ran out of memory
pub resuming_caused : (K : Shape) (alone : Bool) (os : List OpenLane) (old new : LaneSights) (e : LaneFault)
    → ResumingResult K alone os (Err e) old new → WasCaused K new.logs new.shards e
resuming_caused K alone os old new e (inl none) = record {
  logs_then = new.logs;
  shards_then = new.shards;
  logs_on = λ n. gone_same (new.logs n);
  shards_on = λ n. gone_same (new.shards n);
  cause = driver_caused K new.logs new.shards e none.0;
}
resuming_caused K alone os old new e (inr among) = among_caused K alone os old new e among

-- ---- the lanes so far are idle, and below those that are left

pub record IsOver (h : Header) (phase : ℕ → Phase) (rest : List OpenLane) (o : OpenLane) : Type 0 where
  pub lane : IsLane h o.batch.lane
  pub idle : phase o.batch.lane ≡ Idle
  pub below : LanesAbove o.batch.lane rest

pub all_idle : (h : Header) (phase : ℕ → Phase) (rest os : List OpenLane) → All (IsOver h phase rest) os → All (λ o. phase o.batch.lane ≡ Idle) os
all_idle h phase rest os all = All-weaker (IsOver h phase rest) (λ o. phase o.batch.lane ≡ Idle) (λ o is. is.idle) os all

module _ (os : List OpenLane) (i : ℕ) (o : OpenLane) (lt : i < length os) (is : o ≡ get_or os i o) where
  longer : take (i + 1) os ≡ take i os ++ o ∷ []
  longer = take_more os i o lt ∙ ap (λ x. take i os ++ x ∷ []) (sym is)

  pub came_more : (K : Shape) (alone : Bool) (old between new : LaneSights) → ((n : ℕ) → HasGoneOn (between.logs n) (new.logs n))
      → ((n : ℕ) → HasGoneOn (between.shards n) (new.shards n))
      → (before after : List ResumedBatch) (was now : Option LaneFault) (c : Result ResumedBatch LaneFault)
      → CameSo K alone (take i os) before was old between → ResumeResult K alone o c between new → KeepsResumed before was c after now
      → CameSo K alone (take (i + 1) os) after now old new
  came_more K alone old between new logs_on shards_on before after was now c so one kept =
      subst (λ xs. CameSo K alone xs after now old new) (sym longer)
      (came_one_more K alone old between new logs_on shards_on (take i os) before after was now o c so one kept)

  split : drop i os ≡ o ∷ drop (i + 1) os
  split = split_rest os i o lt is

  pub over_more : (h k : Header) (p q : ℕ → Phase) (t u : ℕ → List Compact) → k ≡ h → (1 < length os → KeepsOtherLanes h o.batch.lane p q t u)
      → q o.batch.lane ≡ Idle → LanesRise (drop i os) → All (IsLaneOpen h p t) (drop i os)
      → All (IsOver h p (drop i os)) (take i os) → All (IsOver k q (drop (i + 1) os)) (take (i + 1) os)
  over_more h k p q t u e keeps idle rise open_rest over =
      subst (λ xs. All (IsOver k q (drop (i + 1) os)) xs) (sym longer)
      (All-push (IsOver k q (drop (i + 1) os)) (take i os) o (before (take i os) refl) here)
    where
      here : IsOver k q (drop (i + 1) os) o
      here = record {
        lane = subst (λ x. IsLane x o.batch.lane) (sym e) (open_here h p t os i o lt is open_rest).lane;
        idle = idle;
        below = (subst LanesRise split rise).0;
      }

      older : KeepsOtherLanes h o.batch.lane p q t u → (x : OpenLane) → IsOver h p (drop i os) x → IsOver k q (drop (i + 1) os) x
      older kept x was =
          let below : LanesAbove x.batch.lane (o ∷ drop (i + 1) os) = subst (λ xs. LanesAbove x.batch.lane xs) split was.below in
          let apart : x.batch.lane ≢ o.batch.lane = λ same. (let lt : x.batch.lane < o.batch.lane = below.0 in omega (arith, same, lt)) in
          record {
            lane = subst (λ y. IsLane y x.batch.lane) (sym e) was.lane;
            idle = (kept x.batch.lane was.lane apart).0 ∙ was.idle;
            below = below.1;
          }

      before : (xs : List OpenLane) → take i os ≡ xs → All (IsOver k q (drop (i + 1) os)) (take i os)
      before [] d = let P : List OpenLane → Type 0 = λ ys. All (IsOver k q (drop (i + 1) os)) ys in
          subst P (sym d) (All-nil (IsOver k q (drop (i + 1) os)))
      before (x ∷ xs) d = All-weaker (IsOver h p (drop i os)) (IsOver k q (drop (i + 1) os)) (older (keeps (more_before os i x xs lt d))) (take i os)
          over

  -- lanes that are not listed stay as they were
  pub unlisted_more : (h k : Header) (p q r : ℕ → Phase) (t u v : ℕ → List Compact) → k ≡ h → KeepsUnlisted h os p q t u
      → KeepsOtherLanes k o.batch.lane q r u v → KeepsUnlisted h os p r t v
  unlisted_more h k p q r t u v e so one lane inside apart =
      let was = so lane inside apart in
      let now = one lane (subst (λ x. IsLane x lane) (sym e) inside)
      (subst (λ x. lane ≢ x.batch.lane) (sym is) (All-get_or (λ x. lane ≢ x.batch.lane) os i o lt apart)) in (
        now.0 ∙ was.0,
        now.1 ∙ was.1,
      )

-- Each sound submission of a run has its one place among the transactions of the new Prepares, and an outcome by the shards' replies.
use Rattle.std.proofs.Common.{◌≡◌, ℕ, ◌*◌, ◌<◌, Bool, true, false, ◌==◌, if◌then◌else◌, List, [], ◌∷◌, ◌++◌, map, reverse, take, Option, Some, None}
use Rattle.std.proofs.Common.{is_some, refl, sym, ap, ◌∙◌, subst, arith, append_assoc, append-nil, mod-lt}
use Rattle.std.specs.Prelude.{option_map}
use Rattle.cbdc_model.specs.Records.{Shape, Batch, Compact, Outcome, Record, Row, journal, record_of, txs_of, txs_in, lock_of, Prepare}
use Rattle.cbdc_model.specs.Slots.{slot, Idle}
use Rattle.cbdc_model.specs.Ranges.{home_of, shard_node}
use Rattle.cbdc_model.specs.Coins.{Output, FullTx, compact, tx_id}
use Rattle.cbdc_model.specs.Clean.{IsProperCompact}
use Rattle.cbdc_model.specs.History.{Minted, minted, first_rows, IsOrdered, IsKept}
use Rattle.cbdc_model.specs.World.{KeptJournals, AreIdle}
use Rattle.cbdc_model.specs.Lanes.{IsEnd}
use Rattle.cbdc_model.specs.Waves.{has_prepare, IsResumed, AreFilesRun, Waves}
use Rattle.cbdc_model.specs.Places.{PlaceIn, sized_onto, place_of, outcome_in}
use Rattle.cbdc_model.specs.Outcomes.{outcome}
use Rattle.ledger_laws.proofs.ByKind.{test_itself, same_batch_self}
use Rattle.ledger_laws.proofs.Next.{Steady}
use Rattle.ledger_laws.proofs.Found.{found_grammar}
use Rattle.ledger_laws.proofs.Ledger.{steady}
use Rattle.run_laws.proofs.LastRecords.{prepare_stands}
use Rattle.run_laws.proofs.NewRecords.{still_found}
use Rattle.run_laws.proofs.WaveTurns.{one_batch}
use Rattle.sentinel.specs.FirstRefusal.{IsSoundTx}
use Rattle.submissions.specs.Checks.{VerdictsOf}
use Rattle.submissions.specs.SoundTest.{sound_by}
use Rattle.submissions.proofs.Telling.{is_sound_law}
use Rattle.printed_lines.specs.declared.report.Report.{Report}
use Rattle.printed_lines.specs.declared.report.Report.TheVariants.{Refused, Decided}
use Rattle.printed_lines.specs.Decided.{decided_there, decided_at}
use Rattle.printed_lines.specs.Runs.{lane_at, turn, IsReport}
use Rattle.run_laws.specs.Placing.{sent_of_all, tx_at, IsTxPlaced}
use Rattle.run_laws.proofs.Between.{files_grow, between_law}
use Rattle.run_laws.proofs.Placed.{place_law, told_joined}
use Rattle.run_laws.proofs.Sharing.{Told, told_before, told_in, size_told, sized_told}
use Rattle.run_laws.proofs.WaveRecords.{never_twice}
use Rattle.submission_laws.specs.Sent.{IsSent, new_place, place_at, IsNewlyPrepared}
use Rattle.submission_laws.specs.Replied.{IsReplied}
use Rattle.submission_laws.specs.Settled.{IsSubmissionSettled, AreSettled, SubmissionSettledLaw}
use Rattle.submission_laws.proofs.Lists.{added_is}
use Rattle.submission_laws.proofs.Turns.{Turn, Found, at_turn, found, one_turn as one_submission}
use Rattle.submission_laws.proofs.NewPlaces.{Apart, among, one_turn as one_place, told_parts, HasTurn, all_own, all_apart, new_turn}
use Rattle.submission_laws.proofs.Replying.{the_outcome, is_replied}

some_outcome : (o q : Outcome) → Some o ≡ Some q → o ≡ q
some_outcome o q e = cc

some_pair : (p q : Batch × Outcome) → Some p ≡ Some q → p ≡ q
some_pair p q e = cc

-- what is told of a sound submission is what is decided at its turn
pub told_as : (K : Shape) (verdicts : VerdictsOf) (sound : FullTx → Bool) (E X : ℕ → List Record) (earlier : List (List FullTx)) (file : List FullTx)
    (j : ℕ) (t : FullTx) (b : Batch) (o : Outcome)
    → IsSoundTx t (verdicts (tx_id t)) → decided_at K E X (lane_at K j) (turn K sound earlier file j) ≡ Some (b, o) → (r : Report)
    → IsReport K verdicts sound E X earlier file j t r → r ≡ Decided b o
told_as K verdicts sound E X earlier file j t b o is_sound at (Refused why) first = absurd (is_sound why first.applies)
told_as K verdicts sound E X earlier file j t b o is_sound at (Decided c q) is = let s = some_pair (c, q) (b, o) (sym is.1 ∙ at) in
    λ i. Decided (s i).0 (s i).1

-- ---- what was open is brought to its end without a new Prepare

module _ (K : Shape) (minting : Minted) (P : Compact → Type 0) (some : 0 < K.shards) (old new : List Row) (kept : Steady K minting P old)
    (kept' : Steady K minting P new) where
  abbrev I : ℕ → List Record
  I n = journal n (old ++ first_rows K minting)

  abbrev J : ℕ → List Record
  J n = journal n (new ++ first_rows K minting)

  module _ (R : ℕ → List Record) (resumed : IsResumed K I R) (grows : (n : ℕ) → IsEnd (R n) (J n)) (lane : ℕ) where
    none_step : (r : Record) (rest newer : List Record) (T : List Told) → R (home_of K lane) ≡ newer ++ r ∷ (rest ++ I (home_of K lane)) → T ≡ []
        → told_before lane r T ≡ []
    none_step (Prepare stamp b txs) rest newer T e none =
        elim (b.lane == lane) as (λ c. (b.lane == lane) ≡ c → (if c then (b, txs) ∷ T else T) ≡ []) [
          | true ↦ λ own.
              let k = resumed.adds.each (home_of K lane) newer (rest ++ I (home_of K lane)) (Prepare stamp b txs) e (rest, refl) in
              let g = grows (home_of K lane) in
              let same : k.0 ≡ b = one_batch k.0 b (Prepare stamp b txs) k.1 (same_batch_self b) in
              let there : is_some (record_of 6 (I (home_of K lane)) b) ≡ true
              = subst (λ m. is_some (record_of 6 (I (home_of K m)) b) ≡ true) (lane_is b.lane lane own)
              (subst (λ c. has_prepare K I c ≡ true) same k.2.0) in
              absurd (never_twice K minting P some old new kept kept' (home_of K lane) (g.0 ++ newer) (rest ++ I (home_of K lane))
              (Prepare stamp b txs)
              6 b
              (g.1 ∙ ap (λ l. g.0 ++ l) e ∙ sym (append_assoc g.0 newer (Prepare stamp b txs ∷ (rest ++ I (home_of K lane))))) (rest, refl)
              (test_itself 6 b) (still_found rest (I (home_of K lane)) 6 b there))
          | false ↦ λ own. none
        ] refl
      where
        lane_is : (l m : ℕ) → (l == m) ≡ true → l ≡ m
        lane_is l m h = grind (arith, h)
    none_step other rest newer T e none = none

    none_from : (rest newer : List Record) → R (home_of K lane) ≡ newer ++ (rest ++ I (home_of K lane)) → told_in lane rest ≡ []
    none_from [] newer e = refl
    none_from (r ∷ rest) newer e =
        none_step r rest newer (told_in lane rest) e
        (none_from rest (newer ++ r ∷ []) (e ∙ sym (append_assoc newer (r ∷ []) (rest ++ I (home_of K lane)))))

    pub none_told : (more : List Record) → R (home_of K lane) ≡ more ++ I (home_of K lane) → told_in lane more ≡ []
    none_told more e = none_from more [] e

module _ (K : Shape) (mint : List Output) (submissions : List FullTx) (verdicts : VerdictsOf) (files : List (List FullTx)) (some : 0 < K.shards)
    (some_lane : 0 < K.coordinators * K.lanes)
    (old new : List Row) (kept : IsKept K mint submissions old) (kept' : IsKept K mint submissions new) (ordered : IsOrdered old)
    (ordered' : IsOrdered new) where
  abbrev E : ℕ → List Record
  E n = journal n (old ++ first_rows K (minted mint))

  abbrev X : ℕ → List Record
  X n = journal n (new ++ first_rows K (minted mint))

  abbrev sound : FullTx → Bool
  sound = sound_by verdicts

  steady_old : Steady K (minted mint) (IsProperCompact submissions) old
  steady_old = steady K (minted mint) (IsProperCompact submissions) old kept

  steady_new : Steady K (minted mint) (IsProperCompact submissions) new
  steady_new = steady K (minted mint) (IsProperCompact submissions) new kept'

  kept_old : KeptJournals K mint submissions E
  kept_old = record { later = old; history = record { ordered = ordered; journals_are = λ n. refl }; kept = kept }

  kept_new : KeptJournals K mint submissions X
  kept_new = record { later = new; history = record { ordered = ordered'; journals_are = λ n. refl }; kept = kept' }

  module _ (waves : Waves K (sound_by verdicts) files E X) where
    abbrev R : ℕ → List Record
    R = waves.0

    kept_mid : KeptJournals K mint submissions R
    kept_mid =
        between_law K mint submissions sound files 0 E X R some kept_old kept_new
        (record { resumed = waves.0; is_resumed = waves.1; before = λ n. refl; behind = waves.2 })

    grows : (n : ℕ) → IsEnd (R n) (X n)
    grows n = files_grow K sound files R X waves.2 n

    module _ (lane : ℕ) (lt : lane < K.coordinators * K.lanes) where
      abbrev mine : List Record
      mine = (grows (home_of K lane)).0

      abbrev opened : List Record
      opened = (waves.1.adds.grows (home_of K lane)).0

      abbrev told : List Told
      told = reverse (told_in lane mine)

      -- all that came to the lane's coordinator
      whole : X (home_of K lane) ≡ (mine ++ opened) ++ E (home_of K lane)
      whole = (grows (home_of K lane)).1 ∙ ap (λ l. mine ++ l) (waves.1.adds.grows (home_of K lane)).1
          ∙ sym (append_assoc mine opened (E (home_of K lane)))

      told_is : told_in lane (mine ++ opened) ≡ told_in lane mine
      told_is =
          told_parts lane mine opened
          ∙ ap (λ l. told_in lane mine ++ l) (none_told K (minted mint) (IsProperCompact submissions) some old new steady_old steady_new R waves.1
          grows lane opened (waves.1.adds.grows (home_of K lane)).1)
          ∙ append-nil (told_in lane mine)

      place_is : (q : ℕ) → new_place K E X lane q ≡ place_of (map size_told told) q
      place_is q =
          ap (λ m. place_of (sized_onto lane m []) q) (added_is (E (home_of K lane)) (X (home_of K lane)) (mine ++ opened) whole)
          ∙ ap (λ S. place_of S q) (sized_told lane (mine ++ opened) [] ∙ append-nil (map size_told (reverse (told_in lane (mine ++ opened))))
          ∙ ap (λ T. map size_told (reverse T)) told_is)

      -- the batch of a place is of the lane, and new
      its_batch : (q : ℕ) (p : PlaceIn) → new_place K E X lane q ≡ Some p → (p.batch.lane ≡ lane) × (has_prepare K E p.batch ≡ false)
      its_batch q p e =
          let a = among (λ c txs. (c.lane ≡ lane) × (has_prepare K E c ≡ false) × (txs_of (X (home_of K lane)) c ≡ txs))
          (reverse (told_in lane (mine ++ opened))) q p
          (all_own K (minted mint) (IsProperCompact submissions) some old new steady_old steady_new lane (mine ++ opened) whole)
          (ap (λ T. place_of (map size_told (reverse T)) q) told_is ∙ sym (place_is q) ∙ e) in
          (a.1.0, a.1.1)

      one_turn_here : (q r : ℕ) (p : PlaceIn) → new_place K E X lane q ≡ Some p → new_place K E X lane r ≡ Some p → q ≡ r
      one_turn_here q r p e f =
          one_place told q r p
          (subst (λ T. Apart (reverse T)) told_is
          (all_apart K (minted mint) (IsProperCompact submissions) some old new steady_old steady_new lane (mine ++ opened) whole))
          (sym (place_is q) ∙ e) (sym (place_is r) ∙ f)

      placed : (q : ℕ) (c : Compact) → tx_at (sent_of_all K sound files lane) q ≡ Some c → IsTxPlaced lane q c mine (X (home_of K lane))
      placed q c e =
          (place_law K mint submissions sound files lane R X mine some lt kept_mid kept_new waves.1.idle waves.2 (grows (home_of K lane)).1).0 q c e

      stands_at : (q : ℕ) (c : Compact) (it : IsTxPlaced lane q c mine (X (home_of K lane))) → new_place K E X lane q ≡ Some it.place
      stands_at q c it =
          let sizes = sized_told lane mine [] ∙ append-nil (map size_told (reverse (told_in lane mine))) in
          place_is q ∙ ap (λ S. place_of S q) (sym sizes) ∙ it.stands

      -- what is prepared at a new place has its turn among all that the lane gets
      turn_of : (p : PlaceIn) (c : Compact) → p.batch.lane ≡ lane → IsNewlyPrepared K E X p c
          → (q : ℕ) × (new_place K E X lane q ≡ Some p) × (tx_at (sent_of_all K sound files lane) q ≡ Some c)
      turn_of p c own it =
          let h : HasTurn told p.batch p.at c = subst (λ T. HasTurn (reverse T) p.batch p.at c) told_is
          (new_turn K (minted mint) (IsProperCompact submissions) some old new steady_old steady_new lane (mine ++ opened) whole p.batch p.at c own
          it.new it.holds) in (
            h.turn,
            place_is h.turn ∙ h.place_is,
            ap (λ l. tx_at l h.turn) (sym (told_joined K sound files lane R X mine lt waves.2 (grows (home_of K lane)).1)) ∙ h.tx_is,
          )

    lane_low : (j : ℕ) → lane_at K j < K.coordinators * K.lanes
    lane_low j = mod-lt j {m = K.coordinators * K.lanes} some_lane

    idle_at : (lane : ℕ) → lane < K.coordinators * K.lanes → (slot (X (home_of K lane)) lane).phase ≡ Idle
    idle_at = idle_behind K sound files R X waves.1.idle waves.2
      where
        idle_behind : (K : Shape) (sound : FullTx → Bool) (files : List (List FullTx)) (I J : ℕ → List Record) → AreIdle K I
            → AreFilesRun K sound files I J → AreIdle K J
        idle_behind K sound [] I J idle h lane lt = ap (λ L. (slot L lane).phase) (h (home_of K lane)) ∙ idle lane lt
        idle_behind K sound (file ∷ files) I J idle h lane lt = idle_behind K sound files h.0 J h.1.idle h.2 lane lt

    module _ (k j : ℕ) (t : FullTx) (it : IsSent verdicts files k j t) where
      abbrev my_lane : ℕ
      my_lane = lane_at K j

      abbrev my_turn : ℕ
      my_turn = turn K sound (take k files) it.file j

      passes : sound t ≡ true
      passes = (is_sound_law verdicts t).1 it.sound

      sent_there : tx_at (sent_of_all K sound files my_lane) my_turn ≡ Some (compact t)
      sent_there = at_turn K sound files k it.file j t it.file_is it.tx_is passes

      there : IsTxPlaced my_lane my_turn (compact t) (mine my_lane (lane_low j)) (X (home_of K my_lane))
      there = placed my_lane (lane_low j) my_turn (compact t) sent_there

      abbrev p : PlaceIn
      p = there.place

      holds : tx_at (txs_of (X (home_of K p.batch.lane)) p.batch) p.at ≡ Some (compact t)
      holds = subst (λ l. tx_at (txs_of (X (home_of K l)) p.batch) p.at ≡ Some (compact t)) (sym there.lane_is) there.holds

      prepared_there : is_some (record_of 6 (X (home_of K p.batch.lane)) p.batch) ≡ true
      prepared_there = some_there (record_of 6 (X (home_of K p.batch.lane)) p.batch) holds
        where
          some_there : (r : Option Record) → tx_at (txs_in r) p.at ≡ Some (compact t) → is_some r ≡ true
          some_there None e = absurd (let z : None ≡ Some (compact t) = e in cc)
          some_there (Some r) e = refl

      rest : (slot (X (home_of K p.batch.lane)) p.batch.lane).phase ≡ Idle
      rest = subst (λ l. (slot (X (home_of K l)) l).phase ≡ Idle) (sym there.lane_is) (idle_at my_lane (lane_low j))

      place_there : place_at K verdicts files E X k it.file j ≡ Some p
      place_there = stands_at my_lane (lane_low j) my_turn (compact t) there

      decided : decided_at K E X my_lane my_turn ≡ Some (p.batch, there.outcome)
      decided = ap (λ o. decided_there (X (home_of K my_lane)) o) place_there ∙ ap (λ o. option_map (λ q. (p.batch, q)) o) there.decided

      same_outcome : there.outcome ≡ outcome (λ s. lock_of (X (shard_node K s)) p.batch) p.at 0 K.shards
      same_outcome =
          some_outcome there.outcome _
          (sym there.decided ∙ ap (λ l. outcome_in (X (home_of K l)) p) (sym there.lane_is)
          ∙ the_outcome K (minted mint) (IsProperCompact submissions) some new steady_new p (compact t) holds prepared_there rest)

      pub settled : IsSubmissionSettled K verdicts files E X k it.file j t
      settled = record {
        place = p;
        outcome = there.outcome;
        place_is = place_there;
        lane_is = there.lane_is;
        prepared = record { new = (its_batch my_lane (lane_low j) my_turn p place_there).1; holds = holds };
        written = ap (λ l. outcome_in (X (home_of K l)) p) there.lane_is ∙ there.decided;
        replied = subst (λ o. IsReplied K X p (compact t) o) (sym same_outcome)
            (is_replied K (minted mint) (IsProperCompact submissions) some new steady_new p (compact t) holds prepared_there rest);
        told = told_as K verdicts sound E X (take k files) it.file j t p.batch there.outcome it.sound decided;
      }

    -- two submissions with one place are one
    one : (k j i h : ℕ) (t u : FullTx) (it : IsSent verdicts files k j t) (other : IsSent verdicts files i h u) (p : PlaceIn)
        → place_at K verdicts files E X k it.file j ≡ Some p → place_at K verdicts files E X i other.file h ≡ Some p → (k ≡ i) × (j ≡ h)
    one k j i h t u it other p e f =
        let mine_is : p.batch.lane ≡ lane_at K j = (its_batch (lane_at K j) (lane_low j) (turn K sound (take k files) it.file j) p e).0 in
        let other_is : p.batch.lane ≡ lane_at K h = (its_batch (lane_at K h) (lane_low h) (turn K sound (take i files) other.file h) p f).0 in
        let same : lane_at K h ≡ lane_at K j = sym other_is ∙ mine_is in
        let turns = one_turn_here (lane_at K j) (lane_low j) (turn K sound (take k files) it.file j)
        (Turn K sound files i other.file h (lane_at K j)) p e
        (subst (λ l. new_place K E X l (Turn K sound files i other.file h l) ≡ Some p) same f) in
        one_submission K sound files k i it.file other.file j h (lane_at K j) t u it.file_is it.tx_is (passes k j t it) refl other.file_is
        other.tx_is (passes i h u other) same turns

    -- nothing else has a place
    nothing_else : (p : PlaceIn) (c : Compact) → IsNewlyPrepared K E X p c
        → (k : ℕ) × (j : ℕ) × (t : FullTx) × (it : IsSent verdicts files k j t) × (place_at K verdicts files E X k it.file j ≡ Some p)
        × (c ≡ compact t)
    nothing_else p c it =
        let there = some_prepare (record_of 6 (X (home_of K p.batch.lane)) p.batch) it.holds in
        let s = prepare_stands (X (home_of K p.batch.lane)) p.batch there in
        let lt : p.batch.lane < K.coordinators * K.lanes
        = (found_grammar K (minted mint) (IsProperCompact submissions) some new steady_new (home_of K p.batch.lane) 6 p.batch
        (Prepare s.0 p.batch (txs_of (X (home_of K p.batch.lane)) p.batch)) s.1).1.0 in
        let q = turn_of p.batch.lane lt p c refl it in
        let f : Found K sound files p.batch.lane q.0 c = found K sound files p.batch.lane q.0 c q.2 in (
          f.number,
          f.place,
          f.tx,
          record { file = f.file; file_is = f.file_is; tx_is = f.tx_is; sound = (is_sound_law verdicts f.tx).0 f.is_sound },
          subst (λ l. new_place K E X l (Turn K sound files f.number f.file f.place l) ≡ Some p) (sym f.lane_of)
              (ap (new_place K E X p.batch.lane) (sym f.turn_is) ∙ q.1),
          f.is_compact,
        )
      where
        some_prepare : (r : Option Record) → tx_at (txs_in r) p.at ≡ Some c → is_some r ≡ true
        some_prepare None e = absurd (let z : None ≡ Some c = e in cc)
        some_prepare (Some r) e = refl

    pub are_settled : AreSettled K verdicts files E X
    are_settled = record { each = settled; one = one; nothing_else = nothing_else }

abbrev journals_of : Shape → List Output → List Row → ℕ → List Record
journals_of K mint later n = journal n (later ++ first_rows K (minted mint))

pub settled_law : SubmissionSettledLaw
settled_law K mint submissions verdicts files E X some some_lane kept kept' =
    let by_rows : Waves K (sound_by verdicts) files (journals_of K mint kept.later) (journals_of K mint kept'.later)
    → AreSettled K verdicts files (journals_of K mint kept.later) (journals_of K mint kept'.later)
    = are_settled K mint submissions verdicts files some some_lane kept.later kept'.later kept.kept kept'.kept kept.history.ordered
    kept'.history.ordered in
    let by_entry : Waves K (sound_by verdicts) files E (journals_of K mint kept'.later)
    → AreSettled K verdicts files E (journals_of K mint kept'.later)
    = subst (λ I. Waves K (sound_by verdicts) files I (journals_of K mint kept'.later)
    → AreSettled K verdicts files I (journals_of K mint kept'.later)) (λ i n. kept.history.journals_are n i) by_rows in
    subst (λ Y. Waves K (sound_by verdicts) files E Y → AreSettled K verdicts files E Y) (λ i n. kept'.history.journals_are n i) by_entry

-- A sound submission that nothing contends with is confirmed, at its turn among all.
use Rattle.std.proofs.Common.{◌≡◌, ◌≢◌, ◌⊎◌, inl, inr, ℕ, zero, suc, ◌+◌, ◌*◌, ◌%◌, ◌<◌, Bool, true, List, [], ◌∷◌, ◌++◌, length, get_or, map}
use Rattle.std.proofs.Common.{reverse, take, drop, Some, None, refl, sym, ap, ◌∙◌, subst, arith, append_assoc, append-nil}
use Rattle.std.specs.Prelude.{slice_get, option_map}
use Rattle.std.specs.List.{filter}
use Rattle.std.proofs.lemmas.List.{length-map}
use Rattle.std.proofs.lemmas.Option.{slice_get_within, slice_get-get_or}
use Rattle.cbdc_model.specs.Records.{Digest, Shape, Record, Row, journal, Won}
use Rattle.cbdc_model.specs.Status.{has}
use Rattle.cbdc_model.specs.Ranges.{home_of}
use Rattle.cbdc_model.specs.Coins.{Output, FullTx, compact}
use Rattle.cbdc_model.specs.Clean.{IsProperCompact}
use Rattle.cbdc_model.specs.History.{minted, first_rows}
use Rattle.cbdc_model.specs.World.{KeptJournals, IsUnspent}
use Rattle.cbdc_model.specs.Lanes.{IsEnd}
use Rattle.cbdc_model.specs.Waves.{share, sent_to, IsResumed, IsFileRun}
use Rattle.cbdc_model.specs.Places.{sized_onto, place_of}
use Rattle.ledger_laws.proofs.Cuts.{end_trans}
use Rattle.ledger_laws.proofs.Ledger.{steady}
use Rattle.submissions.specs.Checks.{VerdictsOf}
use Rattle.submissions.specs.SoundTest.{sound_by}
use Rattle.submissions.proofs.Telling.{is_sound_law}
use Rattle.printed_lines.specs.Decided.{added, decided_there, decided_at}
use Rattle.printed_lines.specs.Runs.{lane_at, turn, sent_before}
use Rattle.run_laws.specs.Between.{BeginsWave}
use Rattle.run_laws.specs.Free.{IsAlone, lane_behind, sound_behind}
use Rattle.run_laws.specs.FreeRuns.{IsWonAt}
use Rattle.run_laws.specs.Placing.{sent_of_all}
use Rattle.run_laws.proofs.Between.{files_grow, between_law, next_wave}
use Rattle.run_laws.proofs.FreeRuns.{free_run_law}
use Rattle.run_laws.proofs.Sharing.{told_in, size_told, sized_told}
use Rattle.submission_laws.specs.Sent.{IsSent}
use Rattle.submission_laws.specs.Free.{IsUncontended, IsSubmissionConfirmed, FreeConfirmedLaw}
use Rattle.submission_laws.proofs.Lists.{split_get, before_get, added_is}
use Rattle.submission_laws.proofs.Turns.{sent_many}
use Rattle.submission_laws.proofs.NewPlaces.{told_parts}
use Rattle.submission_laws.proofs.Settling.{none_told, told_as}

-- the others of a file are those at other places
front_at : (us vs : List FullTx) (i : ℕ) (u : FullTx) → slice_get us i ≡ Some u → slice_get (us ++ vs) i ≡ Some u
front_at [] vs i u e = absurd (let z : None ≡ Some u = e in cc)
front_at (w ∷ us) vs zero u e = e
front_at (w ∷ us) vs (suc i) u e = front_at us vs i u e

back_at : (us vs : List FullTx) (i m : ℕ) → m ≡ length us + i → slice_get (us ++ vs) m ≡ slice_get vs i
back_at [] vs i m e = ap (slice_get vs) (omega (arith, e))
back_at (w ∷ us) vs i zero e = absurd (omega (arith, e))
back_at (w ∷ us) vs i (suc m) e = back_at us vs i m (omega (arith, e))

one_of_two : (us vs : List FullTx) (i : ℕ) (u : FullTx) → slice_get (us ++ vs) i ≡ Some u
    → (slice_get us i ≡ Some u) ⊎ ((h : ℕ) × (i ≡ length us + h) × (slice_get vs h ≡ Some u))
one_of_two [] vs i u e = inr (i, omega arith, e)
one_of_two (w ∷ us) vs zero u e = inl e
one_of_two (w ∷ us) vs (suc i) u e = elim (one_of_two us vs i u e) [
  | inl f ↦ inl f
  | inr (h, is, f) ↦ inr (h, omega (arith, is), f)
]

module _ (verdicts : VerdictsOf) (file : List FullTx) (j : ℕ) (t : FullTx) (here : slice_get file j ≡ Some t) where
  parts : file ≡ take j file ++ t ∷ drop (suc j) file
  parts = split_get file j t here

  low_place : length (take j file) ≡ j
  low_place = before_get file j t here

  other_place : (i : ℕ) (u : FullTx) → slice_get (take j file ++ drop (suc j) file) i ≡ Some u → (h : ℕ) × (slice_get file h ≡ Some u) × (h ≢ j)
  other_place i u e = elim (one_of_two (take j file) (drop (suc j) file) i u e) [
    | inl f ↦ (
      i,
      subst (λ l. slice_get l i ≡ Some u) (sym parts) (front_at (take j file) (t ∷ drop (suc j) file) i u f),
      λ same. (let low = slice_get_within (take j file) i u f in omega (arith, low, same, low_place)),
    )
    | inr (h, is, f) ↦ (
      length (take j file) + suc h,
      subst (λ l. slice_get l (length (take j file) + suc h) ≡ Some u) (sym parts)
          (back_at (take j file) (t ∷ drop (suc j) file) (suc h) (length (take j file) + suc h) refl ∙ f),
      λ same. omega (arith, same, low_place),
    )
  ]

  pub alone : IsUncontended verdicts file j t → IsAlone (sound_by verdicts) t (take j file ++ drop (suc j) file)
  alone none i d low sound x has_x =
      let o = other_place i (get_or (take j file ++ drop (suc j) file) i d) (slice_get-get_or (take j file ++ drop (suc j) file) i d low) in
      none o.0 (get_or (take j file ++ drop (suc j) file) i d) o.1 o.2
      ((is_sound_law verdicts (get_or (take j file ++ drop (suc j) file) i d)).0 sound) x has_x

module _ (K : Shape) (mint : List Output) (submissions : List FullTx) (verdicts : VerdictsOf) (files : List (List FullTx)) (some : 0 < K.shards)
    (some_lane : 0 < K.coordinators * K.lanes)
    (E X : ℕ → List Record) (kept : KeptJournals K mint submissions E) (kept' : KeptJournals K mint submissions X) where
  abbrev sound : FullTx → Bool
  sound = sound_by verdicts

  -- what was open is brought to its end without a new Prepare
  abbrev Opens : (ℕ → List Record) → (ℕ → List Record) → Type 0
  Opens I Y = (R : ℕ → List Record) → IsResumed K I R → ((n : ℕ) → IsEnd (R n) (Y n)) → (lane : ℕ) (more : List Record)
      → R (home_of K lane) ≡ more ++ I (home_of K lane) → told_in lane more ≡ []

  abbrev journals_of : List Row → ℕ → List Record
  journals_of later n = journal n (later ++ first_rows K (minted mint))

  opened_none : Opens E X
  opened_none =
      let by_rows : Opens (journals_of kept.later) (journals_of kept'.later)
      = none_told K (minted mint) (IsProperCompact submissions) some kept.later kept'.later
      (steady K (minted mint) (IsProperCompact submissions) kept.later kept.kept)
      (steady K (minted mint) (IsProperCompact submissions) kept'.later kept'.kept) in
      let by_entry : Opens E (journals_of kept'.later) =
      subst (λ I. Opens I (journals_of kept'.later)) (λ i n. kept.history.journals_are n i) by_rows in
      subst (λ Y. Opens E Y) (λ i n. kept'.history.journals_are n i) by_entry

  module _ (k j : ℕ) (t : FullTx) (it : IsSent verdicts files k j t) (M : ℕ → List Record) (begins : BeginsWave K (sound_by verdicts) files k E X M)
      (unspent : (x : Digest) → has (compact t).inputs x ≡ true → IsUnspent K M x) (free : IsUncontended verdicts it.file j t) where
    abbrev R : ℕ → List Record
    R = begins.resumed

    abbrev before : List FullTx
    before = take j it.file

    next : (N : ℕ → List Record) × IsFileRun K (sent_to K (sound_by verdicts) it.file) M N × BeginsWave K (sound_by verdicts) files (suc k) E X N
    next = next_wave K (sound_by verdicts) files k it.file E X M it.file_is begins

    parted : it.file ≡ take j it.file ++ t ∷ drop (suc j) it.file
    parted = split_get it.file j t it.tx_is

    long : length (take j it.file) ≡ j
    long = before_get it.file j t it.tx_is

    lane_is : lane_behind K (take j it.file) ≡ lane_at K j
    lane_is = ap (λ n. n % (K.coordinators * K.lanes)) long

    grows : (n : ℕ) → IsEnd (R n) (X n)
    grows n = end_trans (R n) (M n) (X n) (files_grow K (sound_by verdicts) (take k files) R M begins.before n)
        (files_grow K (sound_by verdicts) (drop k files) M X begins.behind n)

    abbrev H : ℕ
    H = home_of K (lane_behind K (take j it.file))

    abbrev mine : List Record
    mine = (grows (home_of K (lane_behind K (take j it.file)))).0

    won : IsWonAt (lane_behind K (take j it.file))
        (length (sent_of_all K (sound_by verdicts) (take k files) (lane_behind K (take j it.file)))
        + sound_behind K (sound_by verdicts) (take j it.file)) mine
        (X (home_of K (lane_behind K (take j it.file))))
    won =
        free_run_law K mint submissions (sound_by verdicts) (take k files) (drop (suc k) files) (take j it.file) t (drop (suc j) it.file) R M next.0
        X mine some some_lane
        (between_law K mint submissions (sound_by verdicts) files k E X M some kept kept' begins)
        (between_law K mint submissions (sound_by verdicts) files (suc k) E X next.0 some kept kept' next.2)
        kept' begins.before (subst (λ f. IsFileRun K (sent_to K (sound_by verdicts) f) M next.0) parted next.1) next.2.behind
        (grows (home_of K (lane_behind K (take j it.file)))).1 ((is_sound_law verdicts t).1 it.sound) unspent
        (alone verdicts it.file j t it.tx_is free)

    abbrev opened : List Record
    opened = (begins.is_resumed.adds.grows (home_of K (lane_behind K (take j it.file)))).0

    whole : X (home_of K (lane_behind K (take j it.file))) ≡ (mine ++ opened) ++ E (home_of K (lane_behind K (take j it.file)))
    whole =
        (grows (home_of K (lane_behind K (take j it.file)))).1
        ∙ ap (λ l. mine ++ l) (begins.is_resumed.adds.grows (home_of K (lane_behind K (take j it.file)))).1
        ∙ sym (append_assoc mine opened (E (home_of K (lane_behind K (take j it.file)))))

    same_sized : sized_onto (lane_behind K (take j it.file))
        (added (E (home_of K (lane_behind K (take j it.file)))) (X (home_of K (lane_behind K (take j it.file))))) []
        ≡ sized_onto (lane_behind K (take j it.file)) mine []
    same_sized =
        ap (λ m. sized_onto (lane_behind K (take j it.file)) m [])
        (added_is (E (home_of K (lane_behind K (take j it.file)))) (X (home_of K (lane_behind K (take j it.file)))) (mine ++ opened) whole)
        ∙ sized_told (lane_behind K (take j it.file)) (mine ++ opened) []
        ∙ ap (λ T. map size_told (reverse T) ++ []) (told_parts (lane_behind K (take j it.file)) mine opened
        ∙ ap (λ l. told_in (lane_behind K (take j it.file)) mine ++ l)
        (opened_none R begins.is_resumed grows (lane_behind K (take j it.file)) opened
        (begins.is_resumed.adds.grows (home_of K (lane_behind K (take j it.file)))).1)
        ∙ append-nil (told_in (lane_behind K (take j it.file)) mine))
        ∙ sym (sized_told (lane_behind K (take j it.file)) mine [])

    turn_is : length (sent_of_all K (sound_by verdicts) (take k files) (lane_behind K (take j it.file)))
        + sound_behind K (sound_by verdicts) (take j it.file) ≡ turn K (sound_by verdicts) (take k files) it.file j
    turn_is =
        ap (λ n. n + sound_behind K (sound_by verdicts) (take j it.file))
        (sent_many K (sound_by verdicts) (take k files) (lane_behind K (take j it.file)))
        ∙ ap (λ n. sent_before K (sound_by verdicts) (take k files) (lane_behind K (take j it.file)) + n)
        (sym (length-map (filter (sound_by verdicts) (share (K.coordinators * K.lanes) (lane_behind K (take j it.file)) 0 (take j it.file)))
        compact))
        ∙ ap (λ l. sent_before K (sound_by verdicts) (take k files) l + length (sent_to K (sound_by verdicts) (take j it.file) l)) lane_is

    decided_here : decided_at K E X (lane_behind K (take j it.file)) (turn K (sound_by verdicts) (take k files) it.file j)
        ≡ Some (won.place.batch, Won)
    decided_here =
        ap (λ S. decided_there (X (home_of K (lane_behind K (take j it.file)))) (place_of S (turn K (sound_by verdicts) (take k files) it.file j)))
        same_sized
        ∙ ap (λ q. decided_there (X (home_of K (lane_behind K (take j it.file)))) (place_of (sized_onto (lane_behind K (take j it.file)) mine []) q))
        (sym turn_is)
        ∙ ap (decided_there (X (home_of K (lane_behind K (take j it.file))))) won.stands
        ∙ ap (option_map (λ o. (won.place.batch, o))) won.won

    decided : decided_at K E X (lane_at K j) (turn K (sound_by verdicts) (take k files) it.file j) ≡ Some (won.place.batch, Won)
    decided = subst (λ l. decided_at K E X l (turn K (sound_by verdicts) (take k files) it.file j) ≡ Some (won.place.batch, Won)) lane_is decided_here

    pub confirmed : IsSubmissionConfirmed K verdicts files E X k it.file j t
    confirmed = record {
      batch = won.place.batch;
      decided = decided;
      told = told_as K verdicts (sound_by verdicts) E X (take k files) it.file j t won.place.batch Won it.sound decided;
    }

pub free_confirmed_law : FreeConfirmedLaw
free_confirmed_law K mint submissions verdicts files E X some some_lane kept kept' k j t it M begins unspent free =
    confirmed K mint submissions verdicts files some some_lane E X kept kept' k j t it M begins unspent free

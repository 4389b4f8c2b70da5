-- What is said of a lane's next submission.
use Rattle.std.proofs.Common.{◌≡◌, inl, inr, ℕ, suc, ◌+◌, ◌*◌, ◌%◌, ◌<◌, ◌≤◌, Bool, true, false, List, [], ◌∷◌, ◌++◌, length, length-append, take}
use Rattle.std.proofs.Common.{refl, sym, ap, ◌∙◌, subst, arith, Some, None}
use Rattle.std.specs.Prelude.{slice_get}
use Rattle.std.proofs.lemmas.Option.{slice_get_within}
use Rattle.cbdc_model.specs.Records.{Shape}
use Rattle.cbdc_model.specs.Coins.{FullTx, compact, tx_id}
use Rattle.cbdc_model.specs.Waves.{sent_to}
use Rattle.base_types.specs.declared.faults.Refusal.{Refusal}
use Rattle.sentinel.specs.FirstRefusal.{IsSoundTx, IsFirstRefusal}
use Rattle.submissions.specs.SoundTest.{sound_by}
use Rattle.submissions.proofs.Telling.{is_sound_law, one_test_law}
use Rattle.submissions.specs.Checks.{VerdictsOf, TellsSound, IsSaid}
use Rattle.submissions.specs.declared.Checked.{Checked}
use Rattle.submissions.specs.declared.Judgement.TheVariants.{Refused, Sound}
use Rattle.submissions.proofs.Placing.{snoc_get}
use Rattle.lane_sources.specs.Sources.{count_of_lanes, all_for_lane, left_at, AreSaid, HasComeTo}
use Rattle.lane_sources.proofs.Leaving.{left_begin, left_sound, left_refused, left_split, left_few, mod_of, zero_add}

some_same : {A : Type 0} (x y : A) → Some x ≡ Some y → x ≡ y
some_same x y e = cc

module _ (K : Shape) (verdicts : VerdictsOf) (file : List FullTx) where
  pub is_sound : (t : FullTx) → IsSoundTx t (verdicts (tx_id t)) → sound_by verdicts t ≡ true
  is_sound t s = (is_sound_law verdicts t).1 s

  pub is_refused : (t : FullTx) (r : Refusal) → IsFirstRefusal t (verdicts (tx_id t)) r → sound_by verdicts t ≡ false
  is_refused t r f = go (sound_by verdicts t) refl
    where
      go : (b : Bool) → sound_by verdicts t ≡ b → sound_by verdicts t ≡ false
      go false e = e
      go true e = absurd ((is_sound_law verdicts t).0 e r f.applies)

  pub come_begin : (lane : ℕ) → lane < count_of_lanes K → HasComeTo K verdicts file lane lane 0 []
  come_begin lane within = record {
    within = within;
    at_is = omega arith;
    sent_is = zero_add (length (left_at K verdicts file lane lane)) ∙ ap (λ xs. length xs) (sym (left_begin K (sound_by verdicts) file lane within));
    said = λ i c t has there. absurd (let z : None ≡ Some c = has in cc);
  }

  module _ (lane at sent : ℕ) (checked : List Checked) (t : FullTx) (come : HasComeTo K verdicts file lane at sent checked)
      (there : slice_get file at ≡ Some t) where
    abbrev q : ℕ
    q = length checked

    here : slice_get file (lane + count_of_lanes K * q) ≡ Some t
    here = subst (λ j. slice_get file j ≡ Some t) come.at_is there

    next_at : (c : Checked) → at + count_of_lanes K ≡ lane + count_of_lanes K * length (checked ++ c ∷ [])
    next_at c = ap (λ j. j + count_of_lanes K) come.at_is ∙ more (count_of_lanes K) q
        ∙ ap (λ m. lane + count_of_lanes K * m) (sym (length-append checked (c ∷ [])))
      where
        more : (n m : ℕ) → lane + n * m + n ≡ lane + n * (m + 1)
        more n m = omega arith

    -- the same of a longer list
    said_more : (c : Checked) → (c.id ≡ tx_id t) × IsSaid K verdicts file at t c.judgement → AreSaid K verdicts file lane (checked ++ c ∷ [])
    said_more c one i d u has at_i = elim (snoc_get checked c d i has) [
      | inl h ↦ come.said i d u h at_i
      | inr (i_is, d_is) ↦
          let place : lane + count_of_lanes K * i ≡ at = ap (λ m. lane + count_of_lanes K * m) i_is ∙ sym come.at_is in
          let same : u ≡ t = some_same u t (sym at_i ∙ (ap (λ j. slice_get file j) place ∙ there)) in
          let a = subst (λ m. (c.id ≡ tx_id t) × IsSaid K verdicts file m t c.judgement) (sym place) one in
          let b = subst (λ v. (c.id ≡ tx_id v) × IsSaid K verdicts file (lane + count_of_lanes K * i) v c.judgement) (sym same) a in
          subst (λ e. (e.id ≡ tx_id u) × IsSaid K verdicts file (lane + count_of_lanes K * i) u e.judgement) (sym d_is) b
    ]

    pub refused_left : (r : Refusal) → IsFirstRefusal t (verdicts (tx_id t)) r
        → left_at K verdicts file lane at ≡ left_at K verdicts file lane (at + count_of_lanes K)
    refused_left r f = subst (λ j. left_at K verdicts file lane j ≡ left_at K verdicts file lane (j + count_of_lanes K)) (sym come.at_is)
        (left_refused K (sound_by verdicts) file lane come.within q t here (is_refused t r f))

    pub sound_left : IsSoundTx t (verdicts (tx_id t))
        → left_at K verdicts file lane at ≡ compact t ∷ left_at K verdicts file lane (at + count_of_lanes K)
    sound_left s = subst (λ j. left_at K verdicts file lane j ≡ compact t ∷ left_at K verdicts file lane (j + count_of_lanes K)) (sym come.at_is)
        (left_sound K (sound_by verdicts) file lane come.within q t here (is_sound t s))

    pub come_refused : (id : List ℕ) (r : Refusal) → id ≡ tx_id t → IsFirstRefusal t (verdicts (tx_id t)) r
        → HasComeTo K verdicts file lane (at + count_of_lanes K) sent (checked ++ record { id = id; judgement = Refused r } ∷ [])
    come_refused id r is f = record {
      within = come.within;
      at_is = next_at (record { id = id; judgement = Refused r });
      sent_is = ap (λ xs. sent + length xs) (sym (refused_left r f)) ∙ come.sent_is;
      said = said_more (record { id = id; judgement = Refused r }) (is, f);
    }

    -- as many sound ones went to the lane before
    sent_before : (sound : FullTx → Bool) → TellsSound verdicts sound → sent ≡ length (sent_to K sound (take at file) lane)
    sent_before sound tells = subst (λ f. sent ≡ length (sent_to K f (take at file) lane))
        (one_test_law verdicts (sound_by verdicts) sound (is_sound_law verdicts) tells) by
      where
        by : sent ≡ length (sent_to K (sound_by verdicts) (take at file) lane)
        by =
            let inside : at ≤ length file = (let lt = slice_get_within file at t there in omega (arith, lt)) in
            let both : length (all_for_lane K verdicts file lane)
            ≡ length (sent_to K (sound_by verdicts) (take at file) lane) + length (left_at K verdicts file lane at) =
            ap (λ xs. length xs) (left_split K (sound_by verdicts) file lane come.within at inside)
            ∙ length-append (sent_to K (sound_by verdicts) (take at file) lane) (left_at K verdicts file lane at) in
            let is = come.sent_is in omega (arith, both, is)

    at_lane : lane ≡ at % count_of_lanes K
    at_lane = sym (ap (λ j. j % count_of_lanes K) come.at_is ∙ mod_of (count_of_lanes K) q lane come.within)

    pub come_sound : (id : List ℕ) → id ≡ tx_id t → IsSoundTx t (verdicts (tx_id t))
        → HasComeTo K verdicts file lane (at + count_of_lanes K) (sent + 1) (checked ++ record { id = id; judgement = Sound lane sent } ∷ [])
    come_sound id is s = record {
      within = come.within;
      at_is = next_at (record { id = id; judgement = Sound lane sent });
      sent_is = (let e : length (left_at K verdicts file lane at) ≡ suc (length (left_at K verdicts file lane (at + count_of_lanes K))) =
          ap (λ xs. length xs) (sound_left s) in let all = come.sent_is in omega (arith, e, all));
      said = said_more (record { id = id; judgement = Sound lane sent }) (is, (s, at_lane, sent_before));
    }

  -- all that goes to a lane is few
  pub all_few : (lane m : ℕ) → lane < count_of_lanes K → length file ≤ lane + count_of_lanes K * m → length (all_for_lane K verdicts file lane) ≤ m
  all_few lane m within few = subst (λ xs. length xs ≤ m) (sym (left_begin K (sound_by verdicts) file lane within))
      (subst (λ j. length (left_at K verdicts file lane j) ≤ m) (omega arith)
      (left_few K (sound_by verdicts) file lane within m 0 (omega (arith, few))))

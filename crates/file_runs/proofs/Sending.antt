-- What a file sends to its lanes.
use Rattle.std.proofs.Common.{◌≡◌, ℕ, suc, ◌*◌, ◌%◌, Bool, true, false, ◌==◌, List, [], ◌∷◌, ◌++◌, length, map, if◌then◌else◌, refl, sym, ◌∙◌, subst}
use Rattle.std.proofs.Common.{arith, inl, inr, Some, None}
use Rattle.std.specs.Prelude.{slice_get, All, Contains}
use Rattle.std.specs.List.{filter}
use Rattle.std.proofs.lemmas.List.Elements.{All-cons, All-nil}
use Rattle.cbdc_model.specs.Records.{Shape}
use Rattle.cbdc_model.specs.Coins.{FullTx, compact}
use Rattle.cbdc_model.specs.Waves.{share, sent_to}
use Rattle.submissions.specs.SoundTest.{sound_by}
use Rattle.submissions.proofs.Telling.{is_sound_law, one_test_law}
use Rattle.submissions.specs.Checks.{VerdictsOf, TellsSound, IsSentFrom}
use Rattle.submissions.proofs.Placing.{snoc_get}
use Rattle.ledger_runs.specs.Lanes.{LaneOf}
use Rattle.lane_sources.specs.Sources.{count_of_lanes, all_for_lane}
use Rattle.file_runs.specs.Runs.{AreLanesOf}

module _ (K : Shape) (verdicts : VerdictsOf) (file : List FullTx) where
  -- the compact forms of sound submissions of the file alone
  from_some : (n lane k : ℕ) (xs : List FullTx) → ((t : FullTx) → Contains xs t → Contains file t)
      → All (IsSentFrom verdicts file) (map compact (filter (sound_by verdicts) (share n lane k xs)))
  from_some n lane k [] within = All-nil (IsSentFrom verdicts file)
  from_some n lane k (x ∷ xs) within = here (k % n == lane) (from_some n lane (suc k) xs (λ t (i, low, is). within t (suc i, omega (arith, low), is)))
    where
      more : List FullTx
      more = share n lane (suc k) xs

      is_sound : (b : Bool) → sound_by verdicts x ≡ b → All (IsSentFrom verdicts file) (map compact (filter (sound_by verdicts) more))
          → All (IsSentFrom verdicts file) (map compact (if b then x ∷ filter (sound_by verdicts) more else filter (sound_by verdicts) more))
      is_sound true e rest =
          All-cons (IsSentFrom verdicts file) (compact x) (map compact (filter (sound_by verdicts) more))
          (x, within x (0, omega arith, refl), (is_sound_law verdicts x).0 e, refl) rest
      is_sound false e rest = rest

      here : (b : Bool) → All (IsSentFrom verdicts file) (map compact (filter (sound_by verdicts) more))
          → All (IsSentFrom verdicts file) (map compact (filter (sound_by verdicts) (if b then x ∷ more else more)))
      here true rest = is_sound (sound_by verdicts x) refl rest
      here false rest = rest

  module _ (lanes : List LaneOf) (are : AreLanesOf K verdicts file lanes) where
    pub sent_from : (lane : ℕ) (x : LaneOf) → slice_get lanes lane ≡ Some x → All (IsSentFrom verdicts file) x.txs
    sent_from lane x there = subst (λ xs. All (IsSentFrom verdicts file) xs) (sym (are.each lane x there))
        (from_some (count_of_lanes K) lane 0 file (λ t c. c))

    -- by whatever test
    pub sent_is : (sound : FullTx → Bool) → TellsSound verdicts sound → (lane : ℕ) (x : LaneOf) → slice_get lanes lane ≡ Some x
        → x.txs ≡ sent_to K sound file lane
    sent_is sound tells lane x there = are.each lane x there
        ∙ subst (λ f. all_for_lane K verdicts file lane ≡ sent_to K f file lane)
        (one_test_law verdicts (sound_by verdicts) sound (is_sound_law verdicts) tells) refl

pub are_of : (H K : Shape) (verdicts : VerdictsOf) (file : List FullTx) (lanes : List LaneOf) → H ≡ K → AreLanesOf H verdicts file lanes
    → AreLanesOf K verdicts file lanes
are_of H K verdicts file lanes same are = subst (λ k. AreLanesOf k verdicts file lanes) same are

-- ---- lanes that are made one after another, each with what goes to the lane of its number

-- it has its transactions, and has done nothing
pub record IsBegun (K : Shape) (verdicts : VerdictsOf) (file : List FullTx) (lane : ℕ) (x : LaneOf) : Type 0 where
  pub txs : x.txs ≡ all_for_lane K verdicts file lane
  pub fault : x.fault ≡ None
  pub fresh : (x.decided.items ≡ []) × (x.batches ≡ 0)

abbrev pub AreBegun : Shape → VerdictsOf → List FullTx → List LaneOf → Type 0
AreBegun K verdicts file lanes = (lane : ℕ) (x : LaneOf) → slice_get lanes lane ≡ Some x → IsBegun K verdicts file lane x

pub none_yet : (K : Shape) (verdicts : VerdictsOf) (file : List FullTx) → AreBegun K verdicts file []
none_yet K verdicts file lane x there = absurd (let z : None ≡ Some x = there in cc)

pub one_more : (K : Shape) (verdicts : VerdictsOf) (file : List FullTx) (lanes : List LaneOf) (y : LaneOf) → AreBegun K verdicts file lanes
    → y.txs ≡ all_for_lane K verdicts file (length lanes) → y.fault ≡ None
    → (y.decided.items ≡ []) × (y.batches ≡ 0) → AreBegun K verdicts file (lanes ++ y ∷ [])
one_more K verdicts file lanes y so txs fault fresh lane x there = elim (snoc_get lanes y x lane there) [
  | inl h ↦ so lane x h
  | inr (lane_is, x_is) ↦
      subst (λ z. IsBegun K verdicts file lane z) (sym x_is)
      (subst (λ l. IsBegun K verdicts file l y) (sym lane_is) (record { txs = txs; fault = fault; fresh = fresh }))
]

pub all_begun : (K : Shape) (verdicts : VerdictsOf) (file : List FullTx) (lanes : List LaneOf) → length lanes ≡ K.coordinators * K.lanes
    → AreBegun K verdicts file lanes → AreLanesOf K verdicts file lanes
all_begun K verdicts file lanes count so = record {
  count = count;
  each = λ n x there. (so n x there).txs;
  fresh = λ n x there. (so n x there).fault;
  untold = λ n x there. (so n x there).fresh;
}

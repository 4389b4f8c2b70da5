-- What a source keeps, and its room for it.
use Rattle.std.proofs.Common.{◌≡◌, ◌⊎◌, inl, inr, ℕ, zero, suc, ◌+◌, ◌*◌, ◌/◌, ◌%◌, ◌<◌, ◌≤◌, List, [], ◌∷◌, ◌++◌, length, refl, sym, ap, ◌∙◌, subst}
use Rattle.std.proofs.Common.{arith, Some, Result, Ok, Err}
use Rattle.std.specs.Prelude.{slice_get, IfOk, IfErr}
use Rattle.std.specs.declared.alloc.AllocError.{AllocError}
use Rattle.std.specs.Int.{div_ceil}
use Rattle.std.proofs.Math.Nat.{mul-le-mul_left, div-add-mod}
use Rattle.std.proofs.lemmas.Grind.{div_ceil_times}
use Rattle.cbdc_model.specs.Records.{Shape, Compact}
use Rattle.cbdc_model.specs.Coins.{FullTx, compact, tx_id}
use Rattle.base_types.specs.declared.faults.Refusal.{Refusal}
use Rattle.sentinel.specs.FirstRefusal.{IsSoundTx, IsFirstRefusal}
use Rattle.submissions.specs.Checks.{VerdictsOf, IsRuling, IsRuled}
use Rattle.submissions.specs.declared.Ruled.{Ruled}
use Rattle.submissions.specs.declared.Ruling.{Ruling}
use Rattle.submissions.specs.declared.Ruling.TheVariants as ruling
use Rattle.submissions.specs.declared.Checked.{Checked}
use Rattle.submissions.specs.declared.Judgement.TheVariants.{Refused, Sound}
use Rattle.lane_sources.specs.Sources.{count_of_lanes, all_for_lane, left_at, HasComeTo, LeavesBehind, SubmissionAt}
use Rattle.lane_sources.proofs.Saying.{come_refused, come_sound, sound_left, refused_left, all_few}

lt_or : (a b : ℕ) → (a < b) ⊎ ((r : ℕ) × (a ≡ b + r))
lt_or zero zero = inr (0, refl)
lt_or zero (suc b) = inl (omega arith)
lt_or (suc a) zero = inr (suc a, omega arith)
lt_or (suc a) (suc b) = elim (lt_or a b) [ inl h ↦ inl (omega (arith, h)) | inr (r, e) ↦ inr (r, omega (arith, e)) ]

-- there is room where it has not come to the end
pub room_left : (n lane len most size at : ℕ) → at ≡ lane + n * len → size ≤ n * most → at < size → len < most
room_left n lane len most size at is room inside = go (lt_or len most)
  where
    go : (len < most) ⊎ ((r : ℕ) × (len ≡ most + r)) → len < most
    go (inl h) = h
    go (inr (r, e)) = let more : n * most ≤ n * len = mul-le-mul_left n (omega (arith, e)) in absurd (omega (arith, more, is, room, inside))

-- so many rounds of the lanes take all
pub room_ceil : (size n m : ℕ) → 0 < n → m ≡ div_ceil size n → size ≤ n * m
room_ceil size n m some is = let h : size ≤ div_ceil size n * n = (div_ceil_times size n some).0 in let k : size ≤ m * n =
    subst (λ x. size ≤ x * n) (sym is) h in omega (arith, k)

pub there_at : (file : List FullTx) (at : ℕ) → at < length file → (t : FullTx) × (slice_get file at ≡ Some t)
there_at [] at inside = absurd (omega (arith, inside))
there_at (x ∷ xs) zero inside = (x, refl)
there_at (x ∷ xs) (suc at) inside = there_at xs at (omega (arith, inside))

module _ (K : Shape) (verdicts : VerdictsOf) (file : List FullTx) (lane at sent : ℕ) (checked : List Checked)
    (come : HasComeTo K verdicts file lane at sent checked) (inside : at < length file) where
  pub noted_sound : (id : List ℕ) → SubmissionAt file at (λ t. (id ≡ tx_id t) × IsSoundTx t (verdicts (tx_id t)))
      → HasComeTo K verdicts file lane (at + count_of_lanes K) (sent + 1) (checked ++ record { id = id; judgement = Sound lane sent } ∷ [])
  noted_sound id said = let (t, there) = there_at file at inside in let k = said t there in
      come_sound K verdicts file lane at sent checked t come there id k.0 k.1

  pub noted_refused : (id : List ℕ) (r : Refusal) → SubmissionAt file at (λ t. (id ≡ tx_id t) × IsFirstRefusal t (verdicts (tx_id t)) r)
      → HasComeTo K verdicts file lane (at + count_of_lanes K) sent (checked ++ record { id = id; judgement = Refused r } ∷ [])
  noted_refused id r said = let (t, there) = there_at file at inside in let k = said t there in
      come_refused K verdicts file lane at sent checked t come there id r k.0 k.1

  -- no more go to the lane than there are
  pub sent_fits : (id : List ℕ) → SubmissionAt file at (λ t. (id ≡ tx_id t) × IsSoundTx t (verdicts (tx_id t))) → sent + 1 ≤ length file
  sent_fits id said =
      let (t, there) = there_at file at inside in
      let e : length (left_at K verdicts file lane at) ≡ suc (length (left_at K verdicts file lane (at + count_of_lanes K))) =
      ap (λ xs. length xs) (sound_left K verdicts file lane at sent checked t come there (said t there).1) in
      let few : length (all_for_lane K verdicts file lane) ≤ length file =
      all_few K verdicts file lane (length file) come.within (one_more (count_of_lanes K) (length file) lane (omega (arith, come.within))) in
      let is = come.sent_is in
      omega (arith, e, few, is)
    where
      one_more : (n m lane : ℕ) → 0 < n → m ≤ lane + n * m
      one_more n m lane some = let h : m * 1 ≤ m * n = mul-le-mul_left m (omega (arith, some)) in omega (arith, h)

-- ---- what is made of a submission

some_same : {A : Type 0} (x y : A) → Some x ≡ Some y → x ≡ y
some_same x y e = cc

pub any_err : {A E : Type 0} (r : Result A E) (P : Type 0) → P → IfErr r (λ _. P)
any_err (Ok a) P p = tt
any_err (Err e) P p = p

pub ruled_sound : (verdicts : VerdictsOf) (t : FullTx) (r : Ruled) (own : Compact) → IsRuled verdicts t r → r.ruling ≡ ruling.Sound own
    → (r.id ≡ tx_id t) × IsSoundTx t (verdicts (tx_id t)) × (own ≡ compact t)
ruled_sound verdicts t r own (id, is) e = let k : IsRuling verdicts t (ruling.Sound own) = subst (λ x. IsRuling verdicts t x) e is in (id, k.0, k.1)

pub ruled_refused : (verdicts : VerdictsOf) (t : FullTx) (r : Ruled) (why : Refusal) → IsRuled verdicts t r → r.ruling ≡ ruling.Refused why
    → (r.id ≡ tx_id t) × IsFirstRefusal t (verdicts (tx_id t)) why
ruled_refused verdicts t r why (id, is) e = (id, subst (λ x. IsRuling verdicts t x) e is)

module _ (K : Shape) (verdicts : VerdictsOf) (file : List FullTx) (lane at sent : ℕ) (checked : List Checked) (t : FullTx)
    (come : HasComeTo K verdicts file lane at sent checked) (there : slice_get file at ≡ Some t) where
  pub left_some : IsSoundTx t (verdicts (tx_id t)) → 0 < length (left_at K verdicts file lane at)
  left_some s = let e : length (left_at K verdicts file lane at) ≡ suc (length (left_at K verdicts file lane (at + count_of_lanes K))) =
      ap (λ xs. length xs) (sound_left K verdicts file lane at sent checked t come there s) in omega (arith, e)

  pub leaves : (r : Ruled) → IsRuled verdicts t r → LeavesBehind K verdicts file lane at r.ruling
  leaves r ruled = go r.ruling ruled.1
    where
      go : (x : Ruling) → IsRuling verdicts t x → LeavesBehind K verdicts file lane at x
      go (ruling.Refused why) is = refused_left K verdicts file lane at sent checked t come there why is
      go (ruling.Sound own) is = sound_left K verdicts file lane at sent checked t come there is.0
          ∙ ap (λ k. k ∷ left_at K verdicts file lane (at + count_of_lanes K)) (sym is.1)

-- the same by what is said of the submission at the place, which there is
module _ (K : Shape) (verdicts : VerdictsOf) (file : List FullTx) (lane at sent : ℕ) (checked : List Checked)
    (come : HasComeTo K verdicts file lane at sent checked) (inside : at < length file) where
  pub ruled_left : (came : Result Ruled AllocError) → IfOk came (λ r. SubmissionAt file at (λ t. IsRuled verdicts t r))
      → IfOk came (λ r. LeavesBehind K verdicts file lane at r.ruling)
  ruled_left (Ok r) ruled = let (t, there) = there_at file at inside in leaves K verdicts file lane at sent checked t come there r (ruled t there)
  ruled_left (Err e) ruled = tt

  pub sound_some : (came : Result Ruled AllocError) → IfErr came (λ _. SubmissionAt file at (λ t. IsSoundTx t (verdicts (tx_id t))))
      → IfErr came (λ _. 0 < length (left_at K verdicts file lane at))
  sound_some (Ok r) sound = tt
  sound_some (Err e) sound = let (t, there) = there_at file at inside in left_some K verdicts file lane at sent checked t come there (sound t there)

-- a submission that lies before where the source has come to has its number
pub index_in : (n lane len at i : ℕ) → at ≡ lane + n * len → lane + n * i < at → i < len
index_in n lane len at i is low = go (lt_or i len)
  where
    go : (i < len) ⊎ ((r : ℕ) × (i ≡ len + r)) → i < len
    go (inl h) = h
    go (inr (r, e)) = let more : n * len ≤ n * i = mul-le-mul_left n (omega (arith, e)) in absurd (omega (arith, more, is, low))

-- a place, by its lane and its number there
pub place_of : (n lanes place lane : ℕ) → lanes ≡ n → lane ≡ place % lanes → lane + n * (place / lanes) ≡ place
place_of n lanes place lane many is = subst (λ m. lane + m * (place / lanes) ≡ place) many
    (let h : lanes * (place / lanes) + place % lanes ≡ place = div-add-mod place lanes in omega (arith, h, is))

-- Replies and outcomes by place.
use Rattle.std.proofs.Common.{◌≡◌, ◌<◌, ◌≤◌, ◌+◌, ◌-◌, ℕ, suc, zero, true, false, ◌==◌, List, [], ◌∷◌, ◌++◌, length, take, drop, get_or, Option, Some}
use Rattle.std.proofs.Common.{None, if◌then◌else◌, refl, sym, ap, ◌∙◌, arith, add-one}
use Rattle.std.specs.Prelude.{IfOk, Vec, Result, Ok, Err}
use Rattle.std.proofs.lemmas.List.{ext_get_or, drop_all, append-nil, take_all, take_more}
use Rattle.cbdc_model.specs.Records.{Answered, Compact, Outcome, Reply, Won, is_won}
use Rattle.cbdc_model.specs.Outcomes.{reply_at, outcome_by, outcome, outcomes, won_at}
use Rattle.audit.specs.Knowing.{reply_with}

pub reply_more : (es : List Answered) (a : Answered) (k : ℕ) → reply_at (es ++ a ∷ []) k ≡ reply_with (reply_at es k) a k
reply_more [] a k = refl
reply_more (e ∷ es) a k = elim (e.entry.place == k) as
    (λ c. (if c then Some e.reply else reply_at (es ++ a ∷ []) k) ≡ reply_with (if c then Some e.reply else reply_at es k) a k) [
      | true ↦ refl
      | false ↦ reply_more es a k
    ]

pub outcome_step : (locks : ℕ → List Answered) (k s n : ℕ) → s < n
    → outcome locks k s (n - s) ≡ outcome_by (reply_at (locks s) k) s (outcome locks k (s + 1) (n - (s + 1)))
outcome_step locks k s n lt =
    let e : n - s ≡ suc (n - (s + 1)) = omega arith in
    rw (e, add-one)

pub outcomes_length : (locks : ℕ → List Answered) (shards k : ℕ) (txs : List Compact) → length (outcomes locks shards k txs) ≡ length txs
outcomes_length locks shards k [] = refl
outcomes_length locks shards k (t ∷ ts) = ap suc (outcomes_length locks shards (suc k) ts)

pub outcome_at : (locks : ℕ → List Answered) (shards k : ℕ) (txs : List Compact) (i : ℕ) → i < length txs
    → get_or (outcomes locks shards k txs) i Won ≡ outcome locks (k + i) 0 shards
outcome_at locks shards k [] i lt = absurd (omega arith)
outcome_at locks shards k (t ∷ ts) zero lt = let e : k ≡ k + 0 = omega arith in ap (λ n. outcome locks n 0 shards) e
outcome_at locks shards k (t ∷ ts) (suc i) lt =
    let e : suc k + i ≡ k + suc i = omega arith in
    outcome_at locks shards (suc k) ts i (omega arith) ∙ ap (λ n. outcome locks n 0 shards) e

pub all_outcomes : (locks : ℕ → List Answered) (shards : ℕ) (txs : List Compact) (os : List Outcome) → length os ≡ length txs
    → ((k : ℕ) → k < length txs → get_or os k Won ≡ outcome locks k 0 shards) → os ≡ outcomes locks shards 0 txs
all_outcomes locks shards txs os len h =
    ext_get_or Won os (outcomes locks shards 0 txs) (len ∙ sym (outcomes_length locks shards 0 txs))
    (λ i lt. let l : i < length txs = omega arith in
    h i l ∙ sym (outcome_at locks shards 0 txs i l ∙ ap (λ n. outcome locks n 0 shards) (let e : 0 + i ≡ i = omega arith in e)))

pub won_there : (os : List Outcome) (k : ℕ) (o : Outcome) → k < length os → o ≡ get_or os k o → is_won o ≡ won_at os k
won_there [] k o lt e = absurd (omega arith)
won_there (p ∷ os) zero o lt e = ap is_won e
won_there (p ∷ os) (suc k) o lt e = won_there os k o (omega arith) e

pub won_past : (os : List Outcome) (k : ℕ) → length os ≤ k → false ≡ won_at os k
won_past [] k le = refl
won_past (p ∷ os) zero le = absurd (omega arith)
won_past (p ∷ os) (suc k) le = won_past os k (omega arith)

pub outcomes_if_ok : {E Z : Type 0} (locks : ℕ → List Answered) (shards : ℕ) (txs : List Compact) (r : Result (Vec Outcome Z) E)
    → IfOk r (λ v. length v.items ≡ length txs)
    → IfOk r (λ v. (k : ℕ) → k < length txs → get_or v.items k Won ≡ outcome locks k 0 (shards - 0))
    → IfOk r (λ v. v.items ≡ outcomes locks shards 0 txs)
outcomes_if_ok locks shards txs (Ok v) len h = let e : shards - 0 ≡ shards = omega arith in
    all_outcomes locks shards txs v.items len (λ k lt. h k lt ∙ ap (outcome locks k 0) e)
outcomes_if_ok locks shards txs (Err e) len h = tt

-- what was written through a slice of a whole vector
pub written_back : {X : Type 0} (n : ℕ) (xs ys : List X) → n ≡ length ys → length xs ≡ length ys → take n (xs ++ drop (length xs) ys) ≡ xs
written_back n xs ys e f = rw (drop_all (length xs) ys (omega arith), append-nil xs) (take_all n xs (omega arith))

-- one more entry's reply is kept
pub more_replies : (len : ℕ) (new old : List (Option Reply)) (n : ℕ) (es : List Answered) (i : ℕ) (a : Answered) → len ≡ length old
    → length new ≡ length old → length old ≡ n
    → ((k : ℕ) → k < n → get_or old k None ≡ reply_at (take i es) k) → i < length es → a ≡ get_or es i a
    → ((k : ℕ) → k < length old → get_or new k None ≡ reply_with (get_or old k None) a k)
    → (length (take len (new ++ drop (length new) old)) ≡ n)
    × ((k : ℕ) → k < n → get_or (take len (new ++ drop (length new) old)) k None ≡ reply_at (take (i + 1) es) k)
more_replies len new old n es i a full same size h lt e w =
    let back : take len (new ++ drop (length new) old) ≡ new = written_back len new old full same in (
      ap length back ∙ same ∙ size,
      λ k below.
          ap (λ l. get_or l k None) back ∙ w k (omega arith) ∙ ap (λ r. reply_with r a k) (h k below) ∙ sym (reply_more (take i es) a k)
          ∙ ap (λ l. reply_at l k) (ap (λ x. take i es ++ x ∷ []) e ∙ sym (take_more es i a lt)),
    )

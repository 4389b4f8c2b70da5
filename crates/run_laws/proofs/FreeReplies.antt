-- What a shard replies to a transaction whose inputs it has as Unspent, and which no earlier entry claims.
use Rattle.std.proofs.Common.{◌≡◌, ◌⊎◌, inl, inr, ℕ, zero, suc, ◌+◌, ◌<◌, Bool, true, false, ◌&&◌, ◌||◌, ◌==◌, if◌then◌else◌, List, [], ◌∷◌, ◌++◌}
use Rattle.std.proofs.Common.{length, Option, Some, None, refl, sym, ap, ◌∙◌, subst, arith}
use Rattle.cbdc_model.specs.Records.{Digest, same_digest, Batch, Compact, Reply, Outcome, Answered, Record, is_held, Held, Missing, Taken, Won, Shape}
use Rattle.cbdc_model.specs.Status.{status, has, Unspent}
use Rattle.cbdc_model.specs.Replies.{refusal, first_reply, reply_to, answered}
use Rattle.cbdc_model.specs.Ranges.{shard_of, on_shard, is_empty, entry_of, part}
use Rattle.cbdc_model.specs.Outcomes.{reply_at, outcome_by, outcome, outcomes}
use Rattle.cbdc_model.specs.Places.{outcome_at}
use Rattle.ledger_laws.proofs.Counts.{same_digest_is, same_digest_self}
use Rattle.run_laws.proofs.Sharing.{AllLack}

one_of : (a c : Bool) → (a || c) ≡ true → (a ≡ true) ⊎ (c ≡ true)
one_of true c h = inl refl
one_of false c h = inr h

none_of : (a c : Bool) → a ≡ false → c ≡ false → (a || c) ≡ false
none_of a c h g = grind (arith, h, g)

first_has : (x : Digest) (xs : List Digest) → has (x ∷ xs) x ≡ true
first_has x xs = let t : same_digest x x ≡ true = same_digest_self x in rw t

later_has : (y : Digest) (xs : List Digest) (x : Digest) → has xs x ≡ true → has (y ∷ xs) x ≡ true
later_has y xs x h = grind (arith, h)

-- what lies on a shard of a list
pub on_has : (K : Shape) (s : ℕ) (xs : List Digest) (x : Digest) → has (on_shard K s xs) x ≡ true → (has xs x ≡ true) × (shard_of K x ≡ s)
on_has K s [] x h = absurd (let z : false ≡ true = h in cc)
on_has K s (y ∷ ys) x h = elim (shard_of K y == s) as
    (λ c. (shard_of K y == s) ≡ c
    → has (if c then y ∷ on_shard K s ys else on_shard K s ys) x ≡ true → (has (y ∷ ys) x ≡ true) × (shard_of K x ≡ s)) [
      | true ↦ λ e g. elim (one_of (same_digest y x) (has (on_shard K s ys) x) g) [
        | inl same ↦ (ap (λ b. b || has ys x) same, ap (shard_of K) (sym (same_digest_is y x same)) ∙ equal (shard_of K y) s e)
        | inr more ↦ let r = on_has K s ys x more in (later_has y ys x r.0, r.1)
      ]
      | false ↦ λ e g. let r = on_has K s ys x g in (later_has y ys x r.0, r.1)
    ] refl h
  where
    equal : (m n : ℕ) → (m == n) ≡ true → m ≡ n
    equal m n e = grind (arith, e)

pub on_lacks : (K : Shape) (s : ℕ) (xs : List Digest) (x : Digest) → has xs x ≡ false → has (on_shard K s xs) x ≡ false
on_lacks K s xs x h = elim (has (on_shard K s xs) x) as (λ c. has (on_shard K s xs) x ≡ c → c ≡ false) [
  | true ↦ λ e. absurd (let z : true ≡ false = sym (on_has K s xs x e).0 ∙ h in cc)
  | false ↦ λ e. refl
] refl

has_both : (xs ys : List Digest) (x : Digest) → has xs x ≡ false → has ys x ≡ false → has (xs ++ ys) x ≡ false
has_both [] ys x h g = g
has_both (z ∷ xs) ys x h g = none_of (same_digest z x) (has (xs ++ ys) x) (first_of (same_digest z x) (has xs x) h)
    (has_both xs ys x (second_of (same_digest z x) (has xs x) h) g)
  where
    first_of : (a c : Bool) → (a || c) ≡ false → a ≡ false
    first_of a c h = grind (arith, h)

    second_of : (a c : Bool) → (a || c) ≡ false → c ≡ false
    second_of a c h = grind (arith, h)

-- the reply at a place is none or Held
abbrev pub IsGood : Option Reply → Type 0
IsGood None = Unit {0}
IsGood (Some Held) = Unit {0}
IsGood (Some (Missing x)) = ⊥
IsGood (Some (Taken x by)) = ⊥

module _ (past : List Record) (b : Batch) (K : Shape) (s : ℕ) (y : Compact)
    (unspent : (x : Digest) → has (on_shard K s y.inputs) x ≡ true → status past x ≡ Unspent) where
  held : (claimed zs : List Digest) → ((x : Digest) → has zs x ≡ true → has (on_shard K s y.inputs) x ≡ true)
      → ((x : Digest) → has (on_shard K s y.inputs) x ≡ true → has claimed x ≡ false) → reply_to past b claimed zs ≡ Held
  held claimed [] among free = refl
  held claimed (z ∷ zs) among free =
      let u : status past z ≡ Unspent = unspent z (among z (first_has z zs)) in
      let f : has claimed z ≡ false = free z (among z (first_has z zs)) in
      (λ i. first_reply (refusal (u i) z (f i) b) (reply_to past b claimed zs)) ∙ held claimed zs (λ x h. among x (later_has z zs x h)) free

  -- no entry of the later ones has the place
  none_below : (claimed : List Digest) (k j : ℕ) (ts : List Compact) → k < j → reply_at (answered past b claimed (part K s j ts)) k ≡ None
  none_below claimed k j [] lt = refl
  none_below claimed k j (t ∷ ts) lt =
      elim (is_empty (on_shard K s t.inputs) && is_empty (on_shard K s t.outputs))
      as (λ c. reply_at (answered past b claimed (if c then part K s (suc j) ts else entry_of K s j t ∷ part K s (suc j) ts)) k ≡ None) [
        | true ↦ none_below claimed k (suc j) ts (omega (arith, lt))
        | false ↦
            let apart : (j == k) ≡ false = differs j k lt in
            ap (λ c. if c then Some (reply_to past b claimed (on_shard K s t.inputs))
            else reply_at (answered past b (if is_held (reply_to past b claimed (on_shard K s t.inputs)) then on_shard K s t.inputs ++ claimed
            else claimed) (part K s (suc j) ts)) k) apart
            ∙ none_below (if is_held (reply_to past b claimed (on_shard K s t.inputs)) then on_shard K s t.inputs ++ claimed else claimed) k (suc j)
            ts (omega (arith, lt))
      ]
    where
      differs : (j k : ℕ) → k < j → (j == k) ≡ false
      differs j k lt = grind (arith, lt)

  claims : (r : Bool) (xs claimed : List Digest) (x : Digest) → has xs x ≡ false → has claimed x ≡ false
      → has (if r then xs ++ claimed else claimed) x ≡ false
  claims true xs claimed x h g = has_both xs claimed x h g
  claims false xs claimed x h g = g

  pub good_reply : (claimed : List Digest) (k m : ℕ) (first last : List Compact) → m ≡ k + length first
      → ((x : Digest) → has (on_shard K s y.inputs) x ≡ true → has claimed x ≡ false)
      → ((x : Digest) → has (on_shard K s y.inputs) x ≡ true → AllLack x first)
      → IsGood (reply_at (answered past b claimed (part K s k (first ++ y ∷ last))) m)
  good_reply claimed k m [] last e free lack =
      elim (is_empty (on_shard K s y.inputs) && is_empty (on_shard K s y.outputs))
      as (λ c. IsGood (reply_at (answered past b claimed (if c then part K s (suc k) last else entry_of K s k y ∷ part K s (suc k) last)) m)) [
        | true ↦ subst IsGood (sym (none_below claimed m (suc k) last (omega (arith, e)))) tt
        | false ↦
            let here : (k == m) ≡ true = same k m (omega (arith, e)) in
            subst IsGood (sym (ap (λ c. if c then Some (reply_to past b claimed (on_shard K s y.inputs))
            else reply_at (answered past b (if is_held (reply_to past b claimed (on_shard K s y.inputs)) then on_shard K s y.inputs ++ claimed
            else claimed) (part K s (suc k) last)) m) here
            ∙ ap (λ r. Some r) (held claimed (on_shard K s y.inputs) (λ x h. h) free))) tt
      ]
    where
      same : (k m : ℕ) → k ≡ m → (k == m) ≡ true
      same k m e = grind (arith, e)
  good_reply claimed k m (t ∷ first) last e free lack =
      elim (is_empty (on_shard K s t.inputs) && is_empty (on_shard K s t.outputs))
      as (λ c. IsGood (reply_at (answered past b claimed
      (if c then part K s (suc k) (first ++ y ∷ last) else entry_of K s k t ∷ part K s (suc k) (first ++ y ∷ last))) m)) [
        | true ↦ good_reply claimed (suc k) m first last (omega (arith, e)) free (λ x h. (lack x h).1)
        | false ↦
            let apart : (k == m) ≡ false = differs k m (omega (arith, e)) in
            let claimed' : List Digest = if is_held (reply_to past b claimed (on_shard K s t.inputs)) then on_shard K s t.inputs ++ claimed
            else claimed in
            subst IsGood (sym (ap (λ c. if c then Some (reply_to past b claimed (on_shard K s t.inputs))
            else reply_at (answered past b (if is_held (reply_to past b claimed (on_shard K s t.inputs)) then on_shard K s t.inputs ++ claimed
            else claimed) (part K s (suc k) (first ++ y ∷ last))) m) apart))
            (good_reply (if is_held (reply_to past b claimed (on_shard K s t.inputs)) then on_shard K s t.inputs ++ claimed else claimed) (suc k) m
            first last (omega (arith, e))
            (λ x h. claims (is_held (reply_to past b claimed (on_shard K s t.inputs))) (on_shard K s t.inputs) claimed x
            (on_lacks K s t.inputs x (lack x h).0) (free x h))
            (λ x h. (lack x h).1))
      ]
    where
      differs : (k m : ℕ) → k < m → (k == m) ≡ false
      differs k m lt = grind (arith, lt)

-- where all K reply well, the transaction is committed
good_by : (o : Option Reply) (s : ℕ) (rest : Outcome) → IsGood o → outcome_by o s rest ≡ rest
good_by None s rest h = refl
good_by (Some Held) s rest h = refl
good_by (Some (Missing x)) s rest h = absurd h
good_by (Some (Taken x by)) s rest h = absurd h

pub all_good : (locks : ℕ → List Answered) (k s n : ℕ) → ((r : ℕ) → r < s + n → IsGood (reply_at (locks r) k)) → outcome locks k s n ≡ Won
all_good locks k s zero h = refl
all_good locks k s (suc n) h = good_by (reply_at (locks s) k) s (outcome locks k (suc s) n) (h s (omega arith))
    ∙ all_good locks k (suc s) n (λ r lt. h r (omega (arith, lt)))

pub outcome_of_place : (locks : ℕ → List Answered) (shards k m j : ℕ) (first last : List Compact) (y : Compact) → m ≡ length first → j ≡ k + m
    → outcome_at (outcomes locks shards k (first ++ y ∷ last)) m ≡ Some (outcome locks j 0 shards)
outcome_of_place locks shards k m j [] last y e f =
    let z : m ≡ 0 = e in
    subst (λ n. outcome_at (outcomes locks shards k (y ∷ last)) n ≡ Some (outcome locks j 0 shards)) (sym z)
    (ap (λ n. Some (outcome locks n 0 shards)) (omega (arith, z, f)))
outcome_of_place locks shards k m j (t ∷ first) last y e f =
    subst (λ n. outcome_at (outcomes locks shards k (t ∷ (first ++ y ∷ last))) n ≡ Some (outcome locks j 0 shards)) (sym e)
    (outcome_of_place locks shards (suc k) (length first) j first last y refl (let z : m ≡ suc (length first) = e in omega (arith, z, f)))

-- What recovery writes may stand in the journals: the entries and replies of a part, and the outcomes by answered parts.
use Rattle.std.proofs.Common.{◌≡◌, ℕ, zero, suc, ◌+◌, ◌<◌, ◌≤◌, Bool, true, false, ◌&&◌, ◌==◌, if◌then◌else◌, List, [], ◌∷◌, ◌++◌, length, Option}
use Rattle.std.proofs.Common.{Some, None, refl, ap, arith}
use Rattle.std.specs.List.{AllByRecursion}
use Rattle.std.proofs.lemmas.List.Elements.{All-from_recursion, recursion_from_All}
use Rattle.cbdc_model.specs.Records.{Digest, Shape, Batch, Compact, Reply, Outcome, Answered, Record, is_held, Held, Missing, Taken}
use Rattle.cbdc_model.specs.Status.{Status, status, has, Unspent, Locked, Absent}
use Rattle.cbdc_model.specs.Replies.{refusal, first_reply, reply_to, answered}
use Rattle.cbdc_model.specs.Ranges.{shard_of, shard_node, on_shard, is_empty, entry_of, part}
use Rattle.cbdc_model.specs.Outcomes.{reply_at, outcome_by, outcome, outcomes}
use Rattle.cbdc_model.specs.Grammar.{IsHash, IsBatchOf, IsHashList, RisesFrom, IsReply, IsOutcome, IsEntry, IsCompact}
use Rattle.ledger_laws.proofs.Lookups.{number_is}

-- the hashes of a list that lie on a shard
on_length : (K : Shape) (s : ℕ) (xs : List Digest) → length (on_shard K s xs) ≤ length xs
on_length K s [] = omega arith
on_length K s (x ∷ xs) = elim (shard_of K x == s) as (λ c. length (if c then x ∷ on_shard K s xs else on_shard K s xs) ≤ length (x ∷ xs)) [
  | true ↦ omega (arith, on_length K s xs)
  | false ↦ omega (arith, on_length K s xs)
]

on_all : (Q : Digest → Type 0) (K : Shape) (s : ℕ) (xs : List Digest) → AllByRecursion Q xs → AllByRecursion Q (on_shard K s xs)
on_all Q K s [] h = tt
on_all Q K s (x ∷ xs) h = elim (shard_of K x == s) as (λ c. AllByRecursion Q (if c then x ∷ on_shard K s xs else on_shard K s xs)) [
  | true ↦ (h.0, on_all Q K s xs h.1)
  | false ↦ on_all Q K s xs h.1
]

on_here : (K : Shape) (s : ℕ) (xs : List Digest) → AllByRecursion (λ x. shard_node K (shard_of K x) ≡ shard_node K s) (on_shard K s xs)
on_here K s [] = tt
on_here K s (x ∷ xs) = elim (shard_of K x == s) as (λ c. (shard_of K x == s) ≡ c
    → AllByRecursion (λ x. shard_node K (shard_of K x) ≡ shard_node K s) (if c then x ∷ on_shard K s xs else on_shard K s xs)) [
      | true ↦ λ e. (ap (λ n. K.coordinators + n) (number_is (shard_of K x) s e), on_here K s xs)
      | false ↦ λ e. on_here K s xs
    ] refl

hash_list : (K : Shape) (s : ℕ) (xs : List Digest) → IsHashList xs → IsHashList (on_shard K s xs)
hash_list K s xs h =
    (omega (arith, on_length K s xs, h.0), All-from_recursion IsHash (on_shard K s xs) (on_all IsHash K s xs (recursion_from_All IsHash xs h.1)))

some_hash : (xs ys : List Digest) → (is_empty xs && is_empty ys) ≡ false → 1 ≤ length xs + length ys
some_hash [] [] e = absurd (let z : true ≡ false = e in cc)
some_hash [] (y ∷ ys) e = omega arith
some_hash (x ∷ xs) ys e = omega arith

rises_lower : (m n limit : ℕ) (es : List Answered) → m ≤ n → RisesFrom n limit es → RisesFrom m limit es
rises_lower m n limit [] le h = tt
rises_lower m n limit (a ∷ es) le h = (omega (arith, h.0), h.1, h.2)

refused : (K : Shape) (b : Batch) → IsBatchOf K b → (s : Status) (x : Digest) (claimed : Bool) (rest : Reply) → IsHash x
    → ((by : Batch) → s ≡ Locked by → IsBatchOf K by)
    → IsReply K rest → IsReply K (first_reply (refusal s x claimed b) rest)
refused K b hb Unspent x true rest h f r = (h, hb)
refused K b hb Unspent x false rest h f r = r
refused K b hb (Locked by) x claimed rest h f r = (h, f by refl)
refused K b hb Absent x claimed rest h f r = h

-- a part's entries, as a shard answers them
module _ (K : Shape) (s : ℕ) (J : List Record) (b : Batch) (of_shape : IsBatchOf K b)
    (holders : (x : Digest) (by : Batch) → status J x ≡ Locked by → IsBatchOf K by) where
  reply_fits : (claimed xs : List Digest) → AllByRecursion IsHash xs → IsReply K (reply_to J b claimed xs)
  reply_fits claimed [] h = tt
  reply_fits claimed (x ∷ xs) h = refused K b of_shape (status J x) x (has claimed x) (reply_to J b claimed xs) h.0 (λ by e. holders x by e)
      (reply_fits claimed xs h.1)

  entry_fits : (k : ℕ) (t : Compact) (r : Reply) → IsCompact t → (is_empty (on_shard K s t.inputs) && is_empty (on_shard K s t.outputs)) ≡ false
      → IsReply K r
      → IsEntry K (shard_node K s) (record { entry = entry_of K s k t; reply = r })
  entry_fits k t r c e h = record {
    id = c.id;
    inputs = hash_list K s t.inputs c.inputs;
    outputs = hash_list K s t.outputs c.outputs;
    some = some_hash (on_shard K s t.inputs) (on_shard K s t.outputs) e;
    inputs_here = All-from_recursion (λ x. shard_node K (shard_of K x) ≡ shard_node K s) (on_shard K s t.inputs) (on_here K s t.inputs);
    outputs_here = All-from_recursion (λ x. shard_node K (shard_of K x) ≡ shard_node K s) (on_shard K s t.outputs) (on_here K s t.outputs);
    reply = h;
  }

  pub record Fits (k limit most : ℕ) (es : List Answered) : Type 0 where
    pub all : AllByRecursion (IsEntry K (shard_node K s)) es
    pub rises : RisesFrom k limit es
    pub size : length es ≤ most

  pub part_fits : (claimed : List Digest) (k limit : ℕ) (txs : List Compact) → AllByRecursion IsCompact txs → k + length txs ≤ limit
      → Fits k limit (length txs) (answered J b claimed (part K s k txs))
  part_fits claimed k limit [] h le = record { all = tt; rises = tt; size = omega arith }
  part_fits claimed k limit (t ∷ ts) h le = elim (is_empty (on_shard K s t.inputs) && is_empty (on_shard K s t.outputs))
      as (λ c. (is_empty (on_shard K s t.inputs) && is_empty (on_shard K s t.outputs)) ≡ c
      → Fits k limit (length (t ∷ ts)) (answered J b claimed (if c then part K s (suc k) ts else entry_of K s k t ∷ part K s (suc k) ts))) [
        | true ↦ λ e. later_fits (answered J b claimed (part K s (suc k) ts)) (part_fits claimed (suc k) limit ts h.1 (omega arith))
        | false ↦ λ e. first_fits (reply_to J b claimed (on_shard K s t.inputs)) e
            (reply_fits claimed (on_shard K s t.inputs) (on_all IsHash K s t.inputs (recursion_from_All IsHash t.inputs h.0.inputs.1)))
            _ (part_fits (if is_held (reply_to J b claimed (on_shard K s t.inputs)) then on_shard K s t.inputs ++ claimed else claimed) (suc k) limit
            ts h.1 (omega arith))
      ] refl
    where
      later_fits : (es : List Answered) → Fits (suc k) limit (length ts) es → Fits k limit (length (t ∷ ts)) es
      later_fits es f = record { all = f.all; rises = rises_lower k (suc k) limit es (omega arith) f.rises; size = omega (arith, f.size) }

      first_fits : (r : Reply) → (is_empty (on_shard K s t.inputs) && is_empty (on_shard K s t.outputs)) ≡ false → IsReply K r → (es : List Answered)
          → Fits (suc k) limit (length ts) es → Fits k limit (length (t ∷ ts)) (record { entry = entry_of K s k t; reply = r } ∷ es)
      first_fits r e fit es f = record {
        all = (entry_fits k t r h.0 e fit, f.all);
        rises = (omega arith, omega arith, rises_lower (k + 1) (suc k) limit es (omega arith) f.rises);
        size = omega (arith, f.size);
      }

-- outcomes by answered parts
abbrev MayReply : Shape → Option Reply → Type 0
MayReply K None = Unit {0}
MayReply K (Some r) = IsReply K r

reply_at_fits : (K : Shape) (n : ℕ) (es : List Answered) (k : ℕ) → AllByRecursion (IsEntry K n) es → MayReply K (reply_at es k)
reply_at_fits K n [] k h = tt
reply_at_fits K n (a ∷ es) k h = elim (a.entry.place == k) as (λ c. MayReply K (if c then Some a.reply else reply_at es k)) [
  | true ↦ h.0.reply
  | false ↦ reply_at_fits K n es k h.1
]

outcome_by_fits : (K : Shape) (o : Option Reply) (s : ℕ) (rest : Outcome) → MayReply K o → s < K.shards → IsOutcome K rest
    → IsOutcome K (outcome_by o s rest)
outcome_by_fits K None s rest m lt h = h
outcome_by_fits K (Some Held) s rest m lt h = h
outcome_by_fits K (Some (Missing x)) s rest m lt h = (lt, m)
outcome_by_fits K (Some (Taken x by)) s rest m lt h = (lt, m.0, m.1)

module _ (K : Shape) (locks : ℕ → List Answered) (fit : (s : ℕ) → s < K.shards → AllByRecursion (IsEntry K (shard_node K s)) (locks s)) where
  outcome_fits : (k s n : ℕ) → s + n ≤ K.shards → IsOutcome K (outcome locks k s n)
  outcome_fits k s zero le = tt
  outcome_fits k s (suc n) le =
      let lt : s < K.shards = omega arith in
      outcome_by_fits K (reply_at (locks s) k) s (outcome locks k (suc s) n) (reply_at_fits K (shard_node K s) (locks s) k (fit s lt)) lt
      (outcome_fits k (suc s) n (omega arith))

  pub outcomes_fit : (k : ℕ) (txs : List Compact) → AllByRecursion (IsOutcome K) (outcomes locks K.shards k txs)
  outcomes_fit k [] = tt
  outcomes_fit k (t ∷ ts) = (outcome_fits k 0 K.shards (omega arith), outcomes_fit (suc k) ts)

  pub outcomes_length : (k : ℕ) (txs : List Compact) → length (outcomes locks K.shards k txs) ≡ length txs
  outcomes_length k [] = refl
  outcomes_length k (t ∷ ts) = ap (λ n. suc n) (outcomes_length (suc k) ts)

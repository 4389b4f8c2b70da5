-- Every unspent hash is among those that journals name.
use Rattle.std.proofs.Common.{◌≡◌, ◌↔◌, ℕ, zero, suc, ◌<◌, ◌+◌, ◌-◌, ◌*◌, ◌/◌, ◌%◌, Bool, true, false, ◌&&◌, not, List, [], ◌∷◌, ◌++◌, if◌then◌else◌}
use Rattle.std.proofs.Common.{refl, sym, ap, subst, arith, slice_index, mul-lt-mul_of_pos_right, div-lt_iff_lt-mul, mod-lt, lit<}
use Rattle.std.proofs.lemmas.Grind.{common_steps}
use Rattle.cbdc_model.specs.Records.{Digest, same_digest, Shape, Answered, Record, lock_of, Genesis, Lock, Finish, Carry}
use Rattle.cbdc_model.specs.Status.{Status, status, has, made_outputs, returned_inputs, finished_status, Unspent, Locked, Absent}
use Rattle.cbdc_model.specs.Ranges.{shard_of, shard_node, first_byte}
use Rattle.cbdc_model.specs.World.{IsUnspent}
use Rattle.plain_check.specs.Named.{entry_hashes, named_hashes, named_below, is_unspent_status, is_unspent_at, unspent_among}
use Rattle.plain_check.proofs.Digests.{has_append}
use Rattle.same_records.proofs.Alikeness.{same_digest_is}

made_in : (es : List Answered) (ds : List Bool) (x : Digest) → has (made_outputs es ds) x ≡ true → has (entry_hashes es) x ≡ true
made_in [] ds x h = cc
made_in (a ∷ es) [] x h = cc
made_in (a ∷ es) (true ∷ ds) x h = grind (
  arith,
  common_steps,
  has_append a.entry.inputs (a.entry.outputs ++ entry_hashes es) x,
  has_append a.entry.outputs (entry_hashes es) x,
  has_append a.entry.outputs (made_outputs es ds) x,
  made_in es ds x,
)
made_in (a ∷ es) (false ∷ ds) x h = grind (
  arith,
  common_steps,
  has_append a.entry.inputs (a.entry.outputs ++ entry_hashes es) x,
  has_append a.entry.outputs (entry_hashes es) x,
  made_in es ds x,
)

returned_in : (es : List Answered) (ds : List Bool) (x : Digest) → has (returned_inputs es ds) x ≡ true → has (entry_hashes es) x ≡ true
returned_in [] ds x h = cc
returned_in (a ∷ es) [] x h = cc
returned_in (a ∷ es) (d ∷ ds) x h = grind (
  arith,
  common_steps,
  has_append a.entry.inputs (a.entry.outputs ++ entry_hashes es) x,
  has_append a.entry.outputs (entry_hashes es) x,
  has_append a.entry.inputs (returned_inputs es ds) x,
  returned_in es ds x,
)

finished_in : (es : List Answered) (ds : List Bool) (x : Digest) (before : Status) (rest : List Digest) → finished_status es ds x before ≡ Unspent
    → (before ≡ Unspent → has rest x ≡ true) → has (entry_hashes es ++ rest) x ≡ true
finished_in es ds x before rest h g = grind (arith, common_steps, has_append (entry_hashes es) rest x, made_in es ds x, returned_in es ds x)

pub unspent_named : (past : List Record) (x : Digest) → status past x ≡ Unspent → has (named_hashes past) x ≡ true
unspent_named [] x h = cc
unspent_named (Genesis header hs ∷ past) x h = grind (arith, common_steps, has_append hs (named_hashes past) x, unspent_named past x)
unspent_named (Carry stamp header source hs numbers ∷ past) x h =
    grind (arith, common_steps, has_append hs (named_hashes past) x, unspent_named past x)
unspent_named (Lock stamp b es ∷ past) x h = grind (arith, common_steps, unspent_named past x)
unspent_named (Finish stamp b ds ∷ past) x h = finished_in (lock_of past b) ds x (status past x) (named_hashes past) h (unspent_named past x)
unspent_named (other ∷ past) x h = unspent_named past x h

named_there : (K : Shape) (J : ℕ → List Record) (x : Digest) (s n : ℕ) → s ≡ n → has (named_hashes (J (shard_node K s))) x ≡ true
    → has (named_below K J (suc n)) x ≡ true
named_there K J x s n e h =
    let g : has (named_hashes (J (shard_node K n))) x ≡ true = subst (λ m. has (named_hashes (J (shard_node K m))) x ≡ true) e h in
    grind (arith, common_steps, has_append (named_hashes (J (shard_node K n))) (named_below K J n) x)

named_later : (K : Shape) (J : ℕ → List Record) (x : Digest) (n : ℕ) → has (named_below K J n) x ≡ true → has (named_below K J (suc n)) x ≡ true
named_later K J x n h = grind (arith, common_steps, has_append (named_hashes (J (shard_node K n))) (named_below K J n) x)

named_at : (K : Shape) (J : ℕ → List Record) (x : Digest) (s n : ℕ) → s < n → has (named_hashes (J (shard_node K s))) x ≡ true
    → has (named_below K J n) x ≡ true
named_at K J x s zero l h = absurd (omega arith)
named_at K J x s (suc n) l h = grind (arith, named_there K J x s n, named_later K J x n, named_at K J x s n)

below_shards : (n shards : ℕ) → n < 256 → 0 < shards → n * shards / 256 < shards
below_shards n shards lt h =
    let m : n * shards < 256 * shards = mul-lt-mul_of_pos_right lt h in
    let k : n * shards < shards * 256 = omega (arith, m) in
    (div-lt_iff_lt-mul {k = 256} {x = n * shards} {y = shards} (lit< tt)).1 k

shard_of-lt : (K : Shape) (x : Digest) → 0 < K.shards → shard_of K x < K.shards
unfolding shard_of first_byte
shard_of-lt K x h = below_shards (slice_index x 0 % 256) K.shards (mod-lt (slice_index x 0) {m = 256} (lit< tt)) h

-- an unspent hash is named by its shard
is_named : (K : Shape) (J : ℕ → List Record) (x : Digest) → 0 < K.shards → IsUnspent K J x → has (named_below K J K.shards) x ≡ true
is_named K J x some h = named_at K J x (shard_of K x) K.shards (shard_of-lt K x some) (unspent_named (J (shard_node K (shard_of K x))) x h)

test_is : (s : Status) → is_unspent_status s ≡ true → s ≡ Unspent
test_is Unspent h = refl
test_is (Locked b) h = cc
test_is Absent h = cc

at_is : (K : Shape) (J : ℕ → List Record) (x : Digest) → is_unspent_at K J x ≡ true → IsUnspent K J x
at_is K J x h = test_is (status (J (shard_node K (shard_of K x))) x) h

is_at : (K : Shape) (J : ℕ → List Record) (x : Digest) → IsUnspent K J x → is_unspent_at K J x ≡ true
is_at K J x u = ap is_unspent_status u

among_in : (K : Shape) (J : ℕ → List Record) (xs : List Digest) (x : Digest) → has xs x ≡ true → IsUnspent K J x → has (unspent_among K J xs) x ≡ true
among_in K J [] x h u = cc
among_in K J (y ∷ xs) x h u = elim (has xs x) as (λ b. has xs x ≡ b → has (unspent_among K J (y ∷ xs)) x ≡ true) [
  | true ↦ λ e. let rest = among_in K J xs x e u in grind (arith, common_steps, rest)
  | false ↦ λ e.
      let s : same_digest y x ≡ true = grind (arith, common_steps) in
      let d : y ≡ x = same_digest_is y x s in
      let t : is_unspent_at K J y ≡ true = subst (λ z. is_unspent_at K J z ≡ true) (sym d) (is_at K J x u) in
      let n : has xs y ≡ false = subst (λ z. has xs z ≡ false) (sym d) e in
      rw (t, n, s)
] refl

among_is : (K : Shape) (J : ℕ → List Record) (xs : List Digest) (x : Digest) → has (unspent_among K J xs) x ≡ true → IsUnspent K J x
among_is K J [] x h = cc
among_is K J (y ∷ xs) x h = elim (is_unspent_at K J y && not (has xs y)) as
    (λ b. (is_unspent_at K J y && not (has xs y)) ≡ b → has (if b then y ∷ unspent_among K J xs else unspent_among K J xs) x ≡ true
    → IsUnspent K J x) [
      | true ↦ λ e g. elim (same_digest y x) as (λ b. same_digest y x ≡ b → IsUnspent K J x) [
        | true ↦ λ s. subst (IsUnspent K J) (same_digest_is y x s) (at_is K J y (grind (arith, common_steps)))
        | false ↦ λ s. among_is K J xs x (grind (arith, common_steps))
      ] refl
      | false ↦ λ e g. among_is K J xs x g
    ] refl h

pub named_step : (K : Shape) (J : ℕ → List Record) (n : ℕ) → 0 < n
    → named_below K J n ≡ named_hashes (J (K.coordinators + (n - 1))) ++ named_below K J (n - 1)
named_step K J zero h = absurd (omega arith)
named_step K J (suc n) h = let e : suc n - 1 ≡ n = omega arith in rw e refl

pub unspent_is : (K : Shape) (J : ℕ → List Record) (x : Digest) → 0 < K.shards
    → (has (unspent_among K J (named_below K J K.shards)) x ≡ true ↔ IsUnspent K J x)
unspent_is K J x some = (among_is K J (named_below K J K.shards) x, λ u. among_in K J (named_below K J K.shards) x (is_named K J x some u) u)

-- Which record it is: what passes the test for a kind and a batch, and what is found by it. Each kind is gone through here once; a law then asks
-- for the record of its own kind.
use Rattle.std.proofs.Common.{◌≡◌, ℕ, ◌+◌, ◌<◌, Bool, true, false, cond, ◌&&◌, ◌==◌, List, [], ◌∷◌, Some, None, is_some, refl, ap, ◌∙◌, subst, arith}
use Rattle.cbdc_model.specs.Records.{Shape, Batch, same_batch, Compact, Outcome, Answered, Record, record_of, kind_of, is_of, tells_lane, stamp_of}
use Rattle.cbdc_model.specs.Records.{last_stamp, Genesis, Lock, Finish, Forget, Start, Prepare, Commit, Discard, Done, Upgrade, Carry, CarryStart}
use Rattle.cbdc_model.specs.Records.{Seal}
use Rattle.cbdc_model.specs.After.{IsFirst}
use Rattle.cbdc_model.specs.Lanes.{Holds}
use Rattle.ledger_laws.proofs.Next.{Next}
use Rattle.ledger_laws.proofs.Lookups.{not_true, true_false}

pub same_batch_is : (a b : Batch) → same_batch a b ≡ true → a ≡ b
same_batch_is a b h =
    let l : a.lane ≡ b.lane = grind arith in
    let n : a.number ≡ b.number = grind arith in
    λ i. record { lane = l i; number = n i }

pub same_batch_self : (b : Batch) → same_batch b b ≡ true
same_batch_self b = grind arith

-- the two halves of a test, where the record's kind and batch are known
pub split_test : (k kind : ℕ) (b c : Batch) → ((k == kind) && same_batch b c) ≡ true → (k ≡ kind) × (b ≡ c)
split_test k kind b c h =
    let l : (k == kind) ≡ true = grind arith in
    let m : same_batch b c ≡ true = grind arith in
    let n : k ≡ kind = grind arith in
    (n, same_batch_is b c m)

pub test_itself : (kind : ℕ) (b : Batch) → ((kind == kind) && same_batch b b) ≡ true
test_itself kind b = grind arith

pub test_kind : (kind : ℕ) (b : Batch) (r : Record) → ((kind_of r == kind) && is_of b r) ≡ true → kind_of r ≡ kind
test_kind kind b r t = grind arith

pub test_batch : (kind : ℕ) (b : Batch) (r : Record) → ((kind_of r == kind) && is_of b r) ≡ true → is_of b r ≡ true
test_batch kind b r t = grind arith

-- what passes the test for a kind is a record of that kind of the batch
is_lock : (b : Batch) (r : Record) → ((kind_of r == 2) && is_of b r) ≡ true → (stamp : ℕ) × (es : List Answered) × (r ≡ Lock stamp b es)
is_lock b (Lock stamp c es) t = (stamp, es, ap (λ d. Lock stamp d es) (split_test 2 2 c b t).1)
is_lock b other t = absurd (let z : false ≡ true = t in cc)

is_finish : (b : Batch) (r : Record) → ((kind_of r == 3) && is_of b r) ≡ true → (stamp : ℕ) × (ds : List Bool) × (r ≡ Finish stamp b ds)
is_finish b (Finish stamp c ds) t = (stamp, ds, ap (λ d. Finish stamp d ds) (split_test 3 3 c b t).1)
is_finish b other t = absurd (let z : false ≡ true = t in cc)

is_forget : (b : Batch) (r : Record) → ((kind_of r == 4) && is_of b r) ≡ true → (stamp : ℕ) × (r ≡ Forget stamp b)
is_forget b (Forget stamp c) t = (stamp, ap (λ d. Forget stamp d) (split_test 4 4 c b t).1)
is_forget b other t = absurd (let z : false ≡ true = t in cc)

is_prepare : (b : Batch) (r : Record) → ((kind_of r == 6) && is_of b r) ≡ true → (stamp : ℕ) × (txs : List Compact) × (r ≡ Prepare stamp b txs)
is_prepare b (Prepare stamp c txs) t = (stamp, txs, ap (λ d. Prepare stamp d txs) (split_test 6 6 c b t).1)
is_prepare b other t = absurd (let z : false ≡ true = t in cc)

is_commit : (b : Batch) (r : Record) → ((kind_of r == 7) && is_of b r) ≡ true → (stamp : ℕ) × (os : List Outcome) × (r ≡ Commit stamp b os)
is_commit b (Commit stamp c os) t = (stamp, os, ap (λ d. Commit stamp d os) (split_test 7 7 c b t).1)
is_commit b other t = absurd (let z : false ≡ true = t in cc)

is_discard : (b : Batch) (r : Record) → ((kind_of r == 8) && is_of b r) ≡ true → (stamp : ℕ) × (r ≡ Discard stamp b)
is_discard b (Discard stamp c) t = (stamp, ap (λ d. Discard stamp d) (split_test 8 8 c b t).1)
is_discard b other t = absurd (let z : false ≡ true = t in cc)

is_done : (b : Batch) (r : Record) → ((kind_of r == 9) && is_of b r) ≡ true → (stamp : ℕ) × (r ≡ Done stamp b)
is_done b (Done stamp c) t = (stamp, ap (λ d. Done stamp d) (split_test 9 9 c b t).1)
is_done b other t = absurd (let z : false ≡ true = t in cc)

pub some_is : (q r : Record) → Some q ≡ Some r → q ≡ r
some_is q r e = cc

-- a record that comes is found where it passes the test, and else what was found before
pub found_new : (kind : ℕ) (q : Record) (J : List Record) (b : Batch) → ((kind_of q == kind) && is_of b q) ≡ true → record_of kind (q ∷ J) b ≡ Some q
found_new kind q J b t = rw t

pub test_step : (kind : ℕ) (r : Record) (J : List Record) (c : Batch) → ((kind_of r == kind) && is_of c r) ≡ false
    → record_of kind (r ∷ J) c ≡ record_of kind J c
test_step kind r J c h = rw h

-- what is found passes the test
pub found_passes : (kind : ℕ) (J : List Record) (b : Batch) (r : Record) → record_of kind J b ≡ Some r → ((kind_of r == kind) && is_of b r) ≡ true
found_passes kind [] b r e = absurd (let z : None ≡ Some r = e in cc)
found_passes kind (q ∷ J) b r e = step kind q J b r e (λ g. found_passes kind J b r g)
  where
    step : (kind : ℕ) (q : Record) (J : List Record) (b : Batch) (r : Record) → record_of kind (q ∷ J) b ≡ Some r
        → (record_of kind J b ≡ Some r → ((kind_of r == kind) && is_of b r) ≡ true) → ((kind_of r == kind) && is_of b r) ≡ true
    step kind q J b r e rest = elim ((kind_of q == kind) && is_of b q) as
        (λ t. ((kind_of q == kind) && is_of b q) ≡ t → cond t (Some q) (record_of kind J b) ≡ Some r → ((kind_of r == kind) && is_of b r) ≡ true) [
          | true ↦ λ t g. let same : q ≡ r = some_is q r g in subst (λ a. ((kind_of a == kind) && is_of b a) ≡ true) same t
          | false ↦ λ t g. rest g
        ] refl e

pub some_there : (J : List Record) (b : Batch) (kind : ℕ) → is_some (record_of kind J b) ≡ true → (r : Record) × (record_of kind J b ≡ Some r)
some_there J b kind h = elim (record_of kind J b) as (λ o. record_of kind J b ≡ o → is_some o ≡ true → (r : Record) × (record_of kind J b ≡ Some r)) [
  | None ↦ λ e t. absurd (let z : false ≡ true = t in cc)
  | Some r ↦ λ e t. (r, e)
] refl h

-- where a batch has its record of a kind, that one is found
module _ (J : List Record) (b : Batch) where
  pub found_lock : is_some (record_of 2 J b) ≡ true → (stamp : ℕ) × (es : List Answered) × (record_of 2 J b ≡ Some (Lock stamp b es))
  found_lock h =
      let f = some_there J b 2 h in
      let k = is_lock b f.0 (found_passes 2 J b f.0 f.1) in
      (k.0, k.1, f.1 ∙ ap (λ r. Some r) k.2)

  pub found_finish : is_some (record_of 3 J b) ≡ true → (stamp : ℕ) × (ds : List Bool) × (record_of 3 J b ≡ Some (Finish stamp b ds))
  found_finish h =
      let f = some_there J b 3 h in
      let k = is_finish b f.0 (found_passes 3 J b f.0 f.1) in
      (k.0, k.1, f.1 ∙ ap (λ r. Some r) k.2)

  pub found_forget : is_some (record_of 4 J b) ≡ true → (stamp : ℕ) × (record_of 4 J b ≡ Some (Forget stamp b))
  found_forget h =
      let f = some_there J b 4 h in
      let k = is_forget b f.0 (found_passes 4 J b f.0 f.1) in
      (k.0, f.1 ∙ ap (λ r. Some r) k.1)

  pub found_prepare : is_some (record_of 6 J b) ≡ true → (stamp : ℕ) × (txs : List Compact) × (record_of 6 J b ≡ Some (Prepare stamp b txs))
  found_prepare h =
      let f = some_there J b 6 h in
      let k = is_prepare b f.0 (found_passes 6 J b f.0 f.1) in
      (k.0, k.1, f.1 ∙ ap (λ r. Some r) k.2)

  pub found_commit : is_some (record_of 7 J b) ≡ true → (stamp : ℕ) × (os : List Outcome) × (record_of 7 J b ≡ Some (Commit stamp b os))
  found_commit h =
      let f = some_there J b 7 h in
      let k = is_commit b f.0 (found_passes 7 J b f.0 f.1) in
      (k.0, k.1, f.1 ∙ ap (λ r. Some r) k.2)

  pub found_discard : is_some (record_of 8 J b) ≡ true → (stamp : ℕ) × (record_of 8 J b ≡ Some (Discard stamp b))
  found_discard h =
      let f = some_there J b 8 h in
      let k = is_discard b f.0 (found_passes 8 J b f.0 f.1) in
      (k.0, f.1 ∙ ap (λ r. Some r) k.1)

  pub found_done : is_some (record_of 9 J b) ≡ true → (stamp : ℕ) × (record_of 9 J b ≡ Some (Done stamp b))
  found_done h =
      let f = some_there J b 9 h in
      let k = is_done b f.0 (found_passes 9 J b f.0 f.1) in
      (k.0, f.1 ∙ ap (λ r. Some r) k.1)

-- a first record is of no batch
pub not_of_first : (r : Record) (b : Batch) → IsFirst r → is_of b r ≡ true → ⊥
not_of_first (Genesis header hs) b first t = cc
not_of_first (Carry stamp header source hs numbers) b first t = cc
not_of_first (Start header) b first t = cc
not_of_first (CarryStart stamp header source numbers) b first t = cc
not_of_first other b first t = first

-- a record of a batch is of its lane, and one of a lane is of no other
pub of_in_lane : (b : Batch) (r : Record) → is_of b r ≡ true → tells_lane b.lane r ≡ true
of_in_lane b (Genesis header hs) h = cc
of_in_lane b (Start header) h = cc
of_in_lane b (Upgrade stamp batch) h = cc
of_in_lane b (Carry stamp header source hs numbers) h = cc
of_in_lane b (CarryStart stamp header source numbers) h = cc
of_in_lane b (Seal stamp to shards) h = cc
of_in_lane b other h = grind (arith, h)

-- a record's lane, 0 of one that has none
abbrev pub lane_in : Record → ℕ
lane_in (Genesis header hs) = 0
lane_in (Start header) = 0
lane_in (Lock stamp b es) = b.lane
lane_in (Finish stamp b ds) = b.lane
lane_in (Forget stamp b) = b.lane
lane_in (Prepare stamp b txs) = b.lane
lane_in (Commit stamp b os) = b.lane
lane_in (Discard stamp b) = b.lane
lane_in (Done stamp b) = b.lane
lane_in (Upgrade stamp batch) = 0
lane_in (Carry stamp header source hs numbers) = 0
lane_in (CarryStart stamp header source numbers) = 0
lane_in (Seal stamp to shards) = 0

-- what a lane may write is no first record
pub held_later : (pieces : List (List Compact)) (r : Record) → Holds pieces r → IsFirst r → ⊥
held_later pieces (Genesis header hs) held first = held
held_later pieces (Start header) held first = held
held_later pieces (Carry stamp header source hs numbers) held first = held
held_later pieces (CarryStart stamp header source numbers) held first = held
held_later pieces other held first = first

-- a record of one lane that is no first record is of no other
pub lanes_apart : (l m : ℕ) (r : Record) → (IsFirst r → ⊥) → tells_lane l r ≡ true → (l == m) ≡ false → tells_lane m r ≡ false
lanes_apart l m (Genesis header hs) later h apart = refl
lanes_apart l m (Carry stamp header source hs numbers) later h apart = absurd (later tt)
lanes_apart l m (CarryStart stamp header source numbers) later h apart = absurd (later tt)
lanes_apart l m other later h apart = grind (arith, h, apart)

-- what a record of another lane leaves of what is found
pub found_apart : (kind : ℕ) (r : Record) (J : List Record) (c : Batch) → tells_lane c.lane r ≡ false → record_of kind (r ∷ J) c ≡ record_of kind J c
found_apart kind r J c h = test_step kind r J c (not_true _ (λ t. true_false _ (of_in_lane c r (test_batch kind c r t)) h))

-- what is next is no first record
pub next_not_first : (K : Shape) (node : ℕ) (J : List Record) (r : Record) → Next K node J r → IsFirst r → ⊥
next_not_first K node J (Genesis header hs) next first = next
next_not_first K node J (Carry stamp header source hs numbers) next first = next
next_not_first K node J (Start header) next first = next
next_not_first K node J (CarryStart stamp header source numbers) next first = next
next_not_first K node J other next first = first

-- what is next has a stamp above the last one, and stands at a node of the shape
pub after_stamp : (K : Shape) (node : ℕ) (J : List Record) (r : Record) → Next K node J r → last_stamp J < stamp_of r
after_stamp K node J (Genesis header hs) next = absurd next
after_stamp K node J (Carry stamp header source hs numbers) next = absurd next
after_stamp K node J (Start header) next = absurd next
after_stamp K node J (CarryStart stamp header source numbers) next = absurd next
after_stamp K node J other next = next.0

pub at_a_node : (K : Shape) (node : ℕ) (J : List Record) (r : Record) → Next K node J r → node < K.coordinators + K.shards
at_a_node K node J (Genesis header hs) next = absurd next
at_a_node K node J (Carry stamp header source hs numbers) next = absurd next
at_a_node K node J (Start header) next = absurd next
at_a_node K node J (CarryStart stamp header source numbers) next = absurd next
at_a_node K node J other next = omega (arith, next.1)

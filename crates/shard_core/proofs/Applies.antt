-- What records make of slots, memory and hashes.
use Rattle.std.proofs.Common.{◌≡◌, ◌≢◌, ℕ, zero, suc, ◌+◌, ◌<◌, ◌≤◌, Bool, true, false, not, ◌&&◌, ◌||◌, List, [], ◌∷◌, ◌++◌, length, set, replicate}
use Rattle.std.proofs.Common.{vec_capacity, Option, Some, None, option_map, is_some, slice_get, if◌then◌else◌, arith, refl, ap, sym, ◌∙◌, subst}
use Rattle.std.specs.Global.{Vec}
use Rattle.std.specs.Bool.{OnTrue}
use Rattle.cbdc_model.specs.Records.{Digest, Batch, Header, Record, Entry, Reply, Answered, Genesis, Lock, Finish, Forget, lock_of, is_held}
use Rattle.cbdc_model.specs.Status.{Status, status, has, held_inputs, taken_inputs, made_outputs, returned_inputs, Unspent, Locked, Absent}
use Rattle.cbdc_model.specs.Replies.{entries, replies}
use Rattle.shard_table.specs.declared.slots.Kept.{Kept}
use Rattle.shard_table.specs.Entries.{lookup}
use Rattle.shard_core.specs.declared.slots.LaneSlot.{LaneSlot}
use Rattle.shard_core.specs.declared.slots.LaneSlot.TheVariants.{Idle as Free, Locked as Taken, Finished}
use Rattle.shard_core.specs.Agrees.{HashesAgree, says_unspent, locked_by, holder_in}
use Rattle.shard_core.specs.Memory.{HaveDecisionMemory, ArePaired, locked_entries, locked_replies}
use Rattle.shard_core.specs.Moves.{inputs_where, outputs_where, returned_where, inputs_in, outputs_in, hashes_in, owed_by, owed_in}
use Rattle.shard_core.specs.Judged.{IsSlotFree, IsSlotPast, IsSlotLocked, FitsFinish}
use Rattle.shard_core.specs.declared.core_state.ShardCore.{ShardCore}
use Rattle.shard_core.specs.declared.plans.StampPlan.{StampPlan}
use Rattle.shard_core.specs.declared.plans.StampPlan.TheVariants.{Kept as StampKept, Append as StampNext, Refused as StampRefused}
use Rattle.shard_core.specs.Admitted.{IsFinishable}
use Rattle.shard_core.specs.Plans.{IsFinishPlan}
use Rattle.shard_core.proofs.Lanes.{get_set_same, get_set_other, LanesStand}

append_length : {X : Type 0} (xs ys : List X) → length (xs ++ ys) ≡ length xs + length ys
append_length [] ys = omega arith
append_length (x ∷ xs) ys = let rest = append_length xs ys in omega (arith, rest)

some_is : {X : Type 0} (a b : X) → Some a ≡ Some b → a ≡ b
some_is a b h = cc

pub set_set : {X : Type 0} (xs : List X) (i : ℕ) (a b : X) → set (set xs i a) i b ≡ set xs i b
set_set [] i a b = refl
set_set (x ∷ xs) zero a b = refl
set_set (x ∷ xs) (suc i) a b = let rest = set_set xs i a b in rw rest

pub set_length : {X : Type 0} (xs : List X) (i : ℕ) (a : X) → length (set xs i a) ≡ length xs
set_length [] i a = refl
set_length (x ∷ xs) zero a = refl
set_length (x ∷ xs) (suc i) a = let rest = set_length xs i a in rw rest

-- two numbers are equal or not
pub data SameNumber (i j : ℕ) : Type 0 where
  Yes : i ≡ j → SameNumber i j
  No : i ≢ j → SameNumber i j

pub same_nat : (i j : ℕ) → SameNumber i j
same_nat zero zero = Yes refl
same_nat zero (suc j) = No (omega arith)
same_nat (suc i) zero = No (omega arith)
same_nat (suc i) (suc j) = elim (same_nat i j) [ Yes e ↦ Yes (omega arith) | No n ↦ No (omega arith) ]

pub set_at : {X : Type 0} (xs : List X) (i : ℕ) (a s : X) (j : ℕ) → j ≡ i → slice_get (set xs i a) j ≡ Some s → s ≡ a
set_at xs i a s j e h = get_set_same xs i a s (subst (λ (k : ℕ). slice_get (set xs i a) k ≡ Some s) e h)

pub set_off : {X : Type 0} (xs : List X) (i : ℕ) (a s : X) (j : ℕ) → j ≢ i → slice_get (set xs i a) j ≡ Some s → slice_get xs j ≡ Some s
set_off xs i a s j n h = sym (get_set_other xs i j a (λ e. n (sym e))) ∙ h

pub owed_set : (slots : List LaneSlot) (i : ℕ) (s new : LaneSlot) → slice_get slots i ≡ Some s
    → owed_in (set slots i new) + owed_by s ≡ owed_in slots + owed_by new
owed_set [] i s new h = cc
owed_set (t ∷ slots) zero s new h = let same : owed_by t ≡ owed_by s = ap owed_by (some_is t s h) in omega (arith, same)
owed_set (t ∷ slots) (suc i) s new h = let rest = owed_set slots i s new h in omega (arith, rest)

pub owed_at : (slots : List LaneSlot) (i : ℕ) (s : LaneSlot) → slice_get slots i ≡ Some s → owed_by s ≤ owed_in slots
owed_at [] i s h = cc
owed_at (t ∷ slots) zero s h = let same : owed_by t ≡ owed_by s = ap owed_by (some_is t s h) in omega (arith, same)
owed_at (t ∷ slots) (suc i) s h = let rest = owed_at slots i s h in omega (arith, rest)

pub memory_slot : (slots : List LaneSlot) (memory : List (Vec Bool)) (i : ℕ) (new : LaneSlot) → HaveDecisionMemory slots memory
    → locked_entries new ≡ 0 → HaveDecisionMemory (set slots i new) memory
memory_slot slots memory i new old none j s m h k =
    elim (same_nat j i) [
      | Yes e ↦ let same : locked_entries s ≡ 0 = ap locked_entries (set_at slots i new s j e h) ∙ none in omega (arith, same)
      | No n ↦ old j s m (set_off slots i new s j n h) k
    ]

pub memory_both : (slots : List LaneSlot) (memory : List (Vec Bool)) (i : ℕ) (new : LaneSlot) (v : Vec Bool) → HaveDecisionMemory slots memory
    → locked_entries new ≤ vec_capacity v
    → HaveDecisionMemory (set slots i new) (set memory i v)
memory_both slots memory i new v old room j s m h k =
    elim (same_nat j i) [
      | Yes e ↦
          let here : locked_entries s ≡ locked_entries new = ap locked_entries (set_at slots i new s j e h) in
          let there : vec_capacity m ≡ vec_capacity v = ap (λ (u : Vec Bool). vec_capacity u) (set_at memory i v m j e k) in
          omega (arith, here, there)
      | No n ↦ old j s m (set_off slots i new s j n h) (set_off memory i v m j n k)
    ]

pub paired_set : (slots : List LaneSlot) (i : ℕ) (new : LaneSlot) → ArePaired slots → locked_replies new ≡ locked_entries new
    → ArePaired (set slots i new)
paired_set slots i new old pair j s h =
    elim (same_nat j i) [
      | Yes e ↦ let same = set_at slots i new s j e h in rw same pair
      | No n ↦ old j s (set_off slots i new s j n h)
    ]

unspent_lock : (t : Bool) (b : Batch) (s : Status) → (not t && says_unspent s) ≡ says_unspent (if t then Locked b else s)
unspent_lock true b s = refl
unspent_lock false b s = refl

locked_lock : (t : Bool) (b : Batch) (s : Status) → (if t then Some b else locked_by s) ≡ locked_by (if t then Locked b else s)
locked_lock true b s = refl
locked_lock false b s = refl

pub agrees_lock : (J : List Record) (stamp : ℕ) (b : Batch) (es : List Answered) (hashes new : List Digest) (held kept : List (Kept (Batch × ℕ)))
    → HashesAgree hashes held J
    → ((y : Digest) → has new y ≡ (not (has (held_inputs es) y) && has hashes y))
    → ((y : Digest) → holder_in kept y ≡ (if has (held_inputs es) y then Some b else holder_in held y)) → HashesAgree new kept (Lock stamp b es ∷ J)
agrees_lock J stamp b es hashes new held kept a u l = record {
  unspent = λ x. u x ∙ ap (λ (c : Bool). not (has (held_inputs es) x) && c) (a.unspent x) ∙ unspent_lock (has (held_inputs es) x) b (status J x);
  locked = λ x. l x ∙ ap (λ (o : Option Batch). if has (held_inputs es) x then Some b else o) (a.locked x)
      ∙ locked_lock (has (held_inputs es) x) b (status J x);
}

pub made_is : (es : List Answered) (ds : List Bool) → made_outputs es ds ≡ outputs_where (entries es) ds
made_is [] ds = refl
made_is (a ∷ es) [] = refl
made_is (a ∷ es) (d ∷ ds) = let rest = made_is es ds in rw rest

pub taken_is : (es : List Answered) (ds : List Bool) → taken_inputs es ds ≡ inputs_where (entries es) ds
taken_is [] ds = refl
taken_is (a ∷ es) [] = refl
taken_is (a ∷ es) (d ∷ ds) = let rest = taken_is es ds in rw rest

pub returned_is : (es : List Answered) (ds : List Bool) → returned_inputs es ds ≡ returned_where (entries es) (replies es) ds
returned_is [] ds = refl
returned_is (a ∷ es) [] = refl
returned_is (a ∷ es) (d ∷ ds) = let rest = returned_is es ds in rw rest

unspent_finish : (made back gone : Bool) (s : Status) → (made || (back || (not gone && says_unspent s)))
    ≡ says_unspent (if made then Unspent else (if back then Unspent else (if gone then Absent else s)))
unspent_finish true back gone s = refl
unspent_finish false true gone s = refl
unspent_finish false false true s = refl
unspent_finish false false false s = refl

locked_finish : (made back gone : Bool) (s : Status) → (if made then None else (if back then None else (if gone then None else locked_by s)))
    ≡ locked_by (if made then Unspent else (if back then Unspent else (if gone then Absent else s)))
locked_finish true back gone s = refl
locked_finish false true gone s = refl
locked_finish false false true s = refl
locked_finish false false false s = refl

cut_holder : {X Y : Type 0} (t : Bool) (f : X → Y) (o : Option X) → option_map f (if t then None else o) ≡ (if t then None else option_map f o)
cut_holder true f o = refl
cut_holder false f o = refl

holder_step : (new old : List (Kept (Batch × ℕ))) (t : Bool) (x : Digest) → lookup new x ≡ (if t then None else lookup old x)
    → holder_in new x ≡ (if t then None else holder_in old x)
holder_step new old t x h = ap (λ (o : Option (Batch × ℕ)). option_map (λ (p : Batch × ℕ). p.0) o) h
    ∙ cut_holder t (λ (p : Batch × ℕ). p.0) (lookup old x)

pub agrees_finish : (J : List Record) (stamp : ℕ) (b : Batch) (ds : List Bool) (part : List Entry) (rs : List Reply) (hashes h1 h2 h3 : List Digest)
    (held k1 k2 k3 : List (Kept (Batch × ℕ)))
    → entries (lock_of J b) ≡ part → replies (lock_of J b) ≡ rs → HashesAgree hashes held J
    → ((y : Digest) → has h1 y ≡ (not (has (inputs_where part ds) y) && has hashes y))
    → ((y : Digest) → lookup k1 y ≡ (if has (inputs_where part ds) y then None else lookup held y))
    → ((y : Digest) → has h2 y ≡ (has (returned_where part rs ds) y || has h1 y))
    → ((y : Digest) → lookup k2 y ≡ (if has (returned_where part rs ds) y then None else lookup k1 y))
    → ((y : Digest) → has h3 y ≡ (has (outputs_where part ds) y || has h2 y))
    → ((y : Digest) → lookup k3 y ≡ (if has (outputs_where part ds) y then None else lookup k2 y))
    → HashesAgree h3 k3 (Finish stamp b ds ∷ J)
agrees_finish J stamp b ds part rs hashes h1 h2 h3 held k1 k2 k3 p r a u1 l1 u2 l2 u3 l3 =
    let made : made_outputs (lock_of J b) ds ≡ outputs_where part ds = made_is (lock_of J b) ds ∙ ap (λ (es : List Entry). outputs_where es ds) p in
    let gone : taken_inputs (lock_of J b) ds ≡ inputs_where part ds = taken_is (lock_of J b) ds ∙ ap (λ (es : List Entry). inputs_where es ds) p in
    let back : returned_inputs (lock_of J b) ds ≡ returned_where part rs ds =
    returned_is (lock_of J b) ds ∙ ap (λ (es : List Entry). returned_where es (replies (lock_of J b)) ds) p
    ∙ ap (λ (qs : List Reply). returned_where part qs ds) r in
    record {
      unspent = λ x. rw (made, gone, back)
          (u3 x ∙ ap (λ (c : Bool). has (outputs_where part ds) x || c) (u2 x ∙ ap (λ (c : Bool). has (returned_where part rs ds) x || c)
          (u1 x ∙ ap (λ (c : Bool). not (has (inputs_where part ds) x) && c) (a.unspent x)))
          ∙ unspent_finish (has (outputs_where part ds) x) (has (returned_where part rs ds) x) (has (inputs_where part ds) x) (status J x));
      locked = λ x. rw (made, gone, back)
          (holder_step k3 k2 (has (outputs_where part ds) x) x (l3 x)
          ∙ ap (λ (o : Option Batch). if has (outputs_where part ds) x then None else o)
          (holder_step k2 k1 (has (returned_where part rs ds) x) x (l2 x)
          ∙ ap (λ (o : Option Batch). if has (returned_where part rs ds) x then None else o)
          (holder_step k1 held (has (inputs_where part ds) x) x (l1 x)
          ∙ ap (λ (o : Option Batch). if has (inputs_where part ds) x then None else o) (a.locked x)))
          ∙ locked_finish (has (outputs_where part ds) x) (has (returned_where part rs ds) x) (has (inputs_where part ds) x) (status J x));
    }

pub agrees_forget : (J : List Record) (stamp : ℕ) (b : Batch) (hashes : List Digest) (held : List (Kept (Batch × ℕ))) → HashesAgree hashes held J
    → HashesAgree hashes held (Forget stamp b ∷ J)
agrees_forget J stamp b hashes held a = record { unspent = a.unspent; locked = a.locked }

genesis_unspent : (t : Bool) → t ≡ says_unspent (if t then Unspent else Absent)
genesis_unspent true = refl
genesis_unspent false = refl

genesis_locked : (t : Bool) → None ≡ locked_by (if t then Unspent else Absent)
genesis_locked true = refl
genesis_locked false = refl

pub agrees_genesis : (h : Header) (hs hashes : List Digest) → ((y : Digest) → has hashes y ≡ has hs y) → HashesAgree hashes [] (Genesis h hs ∷ [])
agrees_genesis h hs hashes u = record { unspent = λ x. u x ∙ genesis_unspent (has hs x); locked = λ x. genesis_locked (has hs x) }

pub replicate_get : {X : Type 0} (n i : ℕ) (a s : X) → slice_get (replicate n a) i ≡ Some s → s ≡ a
replicate_get zero i a s h = cc
replicate_get (suc n) zero a s h = cc
replicate_get (suc n) (suc i) a s h = replicate_get n i a s h

pub replicate_owed : (n t u : ℕ) → owed_in (replicate n (Free t u)) ≡ 0
replicate_owed zero t u = refl
replicate_owed (suc n) t u = let rest = replicate_owed n t u in omega (arith, rest)

pub idle_stand : (n : ℕ) (h : Header) (hs : List Digest) → LanesStand (replicate n (Free 0 0)) (Genesis h hs ∷ [])
idle_stand n h hs lane s g = let same = replicate_get n lane (Free 0 0) s g in rw same (refl, refl)

held_by : (t : Bool) (xs ys : List Digest) (m n : ℕ) → length ys ≤ n → length (if t then xs ++ ys else ys) ≤ (length xs + m) + n
held_by true xs ys m n l = let s = append_length xs ys in omega (arith, s)
held_by false xs ys m n l = omega arith

pub held_few : (es : List Answered) → length (held_inputs es) ≤ hashes_in (entries es)
held_few [] = omega arith
held_few (a ∷ es) = held_by (is_held a.reply) a.entry.inputs (held_inputs es) (length a.entry.outputs) (hashes_in (entries es)) (held_few es)

pub parts_few : (part : List Entry) → inputs_in part + outputs_in part ≡ hashes_in part
parts_few [] = refl
parts_few (e ∷ es) = let rest = parts_few es in omega (arith, rest)

pub same_count : (es : List Answered) → length (replies es) ≡ length (entries es)
same_count [] = refl
same_count (a ∷ es) = let rest = same_count es in rw rest

pub idle_owed : (s : LaneSlot) → IsSlotFree s → owed_by s ≡ 0
idle_owed (Free n t) h = refl
idle_owed (Taken n part rs t) h = absurd h
idle_owed (Finished n part rs ds t u) h = absurd h

pub past_owed : (s : LaneSlot) → IsSlotPast s → owed_by s ≡ 0
past_owed (Free n t) h = refl
past_owed (Taken n part rs t) h = absurd h
past_owed (Finished n part rs ds t u) h = refl

pub owed_free : (slots : List LaneSlot) (i : ℕ) (new : LaneSlot) → i < length slots → ((s : LaneSlot) → slice_get slots i ≡ Some s → owed_by s ≡ 0)
    → owed_in (set slots i new) ≡ owed_in slots + owed_by new
owed_free [] i new l h = absurd (omega arith)
owed_free (t ∷ slots) zero new l h = let none : owed_by t ≡ 0 = h t refl in omega (arith, none)
owed_free (t ∷ slots) (suc i) new l h = let rest = owed_free slots i new (omega arith) h in omega (arith, rest)

pub replicate_length : {X : Type 0} (n : ℕ) (x : X) → length (replicate n x) ≡ n
replicate_length zero x = refl
replicate_length (suc n) x = let rest = replicate_length n x in rw rest

-- what is locked for the batch, and where the slot is known
pub known : (slots : List LaneSlot) (i : ℕ) (s t : LaneSlot) → slice_get slots i ≡ Some s → slice_get slots i ≡ Some t → s ≡ t
known slots i s t h k = some_is s t (sym h ∙ k)

pub taken_part : (n m : ℕ) (part qart : List Entry) (rs qs : List Reply) (t u : ℕ) → Taken n part rs t ≡ Taken m qart qs u → part ≡ qart
taken_part n m part qart rs qs t u h = cc

pub taken_replies : (n m : ℕ) (part qart : List Entry) (rs qs : List Reply) (t u : ℕ) → Taken n part rs t ≡ Taken m qart qs u → rs ≡ qs
taken_replies n m part qart rs qs t u h = cc

pub taken_number : (n m : ℕ) (part qart : List Entry) (rs qs : List Reply) (t u : ℕ) → Taken n part rs t ≡ Taken m qart qs u → n ≡ m
taken_number n m part qart rs qs t u h = cc

pub finish_slot : (core : ShardCore) (b : Batch) (ds : List Bool) (s : LaneSlot) → slice_get core.slots b.lane ≡ Some s → ArePaired core.slots
    → IsSlotLocked s b.number ds → IsFinishable core b ds
finish_slot core b ds (Free n t) h pairs l = absurd l
finish_slot core b ds (Taken n part rs t) h pairs l =
    record {
      part = part;
      rs = rs;
      at = t;
      slot = h ∙ ap (λ (m : ℕ). Some (Taken m part rs t)) l.0;
      replies = pairs b.lane (Taken n part rs t) h;
      decisions = l.1 ∙ pairs b.lane (Taken n part rs t) h;
    }
finish_slot core b ds (Finished n part rs es t u) h pairs l = absurd l

pub finish_ready : (core : ShardCore) (b : Batch) (ds : List Bool) (s : LaneSlot) (p : StampPlan) → slice_get core.slots b.lane ≡ Some s
    → ArePaired core.slots → FitsFinish p s b.number ds
    → IsFinishPlan p core b ds
finish_ready core b ds s (StampKept stamp) h pairs n = tt
finish_ready core b ds s (StampNext stamp) h pairs n = finish_slot core b ds s h pairs n
finish_ready core b ds s (StampRefused why) h pairs n = tt

pub on_none : (o : Option ℕ) (b : Bool) (T : Type 0) → is_some o ≡ not b → (None ≡ o → T) → OnTrue b T
on_none None true T h f = f refl
on_none None false T h f = tt
on_none (Some n) true T h f = cc
on_none (Some n) false T h f = tt

-- What a shard's record changes of the lanes' slots.
use Rattle.std.proofs.Common.{◌≡◌, ◌≢◌, ℕ, ◌+◌, ◌≤◌, Bool, true, false, ◌==◌, List, ◌∷◌, length, refl, sym, ◌∙◌, ap, ap₂, arith}
use Rattle.std.proofs.lemmas.Bool.Decides.{nat_tests}
use Rattle.cbdc_model.specs.Records.{Batch, Answered, Record, lock_of, txs_of, Lock, Finish, Forget}
use Rattle.cbdc_model.specs.Slots.{Slot, slot, Idle, InLock, InFinish}
use Rattle.cbdc_model.specs.Room.{lane_room, room_in}
use Rattle.cbdc_model.specs.Due.{open_batch}

pub same_lane : (n : ℕ) → (n == n) ≡ true
same_lane n = grind (arith, nat_tests)

pub other_lane : (m n : ℕ) → m ≢ n → (m == n) ≡ false
other_lane m n apart = grind (arith, nat_tests)

-- a lane's own record, as its room counts it
pub locked_room : (J : List Record) (stamp : ℕ) (b : Batch) (es : List Answered) → lane_room (Lock stamp b es ∷ J) b.lane ≡ 76 + length es
locked_room J stamp b es = let e = same_lane b.lane in let n = same_lane b.number in rw (e, n) refl

pub finished_room : (J : List Record) (stamp : ℕ) (b : Batch) (ds : List Bool) → lane_room (Finish stamp b ds ∷ J) b.lane ≡ 34
finished_room J stamp b ds = let e = same_lane b.lane in rw e refl

pub forgotten_room : (J : List Record) (stamp : ℕ) (b : Batch) → lane_room (Forget stamp b ∷ J) b.lane ≡ 0
forgotten_room J stamp b = let e = same_lane b.lane in rw e refl

-- a journal that says the same of a lane
pub record SaysSameOfLane (J N : List Record) (lane : ℕ) : Type 0 where
  pub slots : slot N lane ≡ slot J lane
  pub locks : (n : ℕ) → lock_of N (record { lane = lane; number = n }) ≡ lock_of J (record { lane = lane; number = n })
  pub txs : (n : ℕ) → txs_of N (record { lane = lane; number = n }) ≡ txs_of J (record { lane = lane; number = n })

pub same_room : (J N : List Record) (lane : ℕ) → SaysSameOfLane J N lane → lane_room N lane ≡ lane_room J lane
same_room J N lane same =
    let room_at : Slot → ℕ = λ s. room_in s.phase (length (lock_of N (record { lane = lane; number = s.number })))
    (length (txs_of N (record { lane = lane; number = s.number }))) in
    let n = (slot J lane).number in
    ap room_at same.slots ∙ ap₂ (λ (m k : ℕ). room_in (slot J lane).phase m k) (ap length (same.locks n)) (ap length (same.txs n))

pub past_lock : (J : List Record) (stamp : ℕ) (b : Batch) (es : List Answered) (lane : ℕ) → b.lane ≢ lane
    → SaysSameOfLane J (Lock stamp b es ∷ J) lane
past_lock J stamp b es lane apart = let e = other_lane b.lane lane apart in record { slots = rw e refl; locks = λ n. rw e refl; txs = λ n. refl }

pub past_finish : (J : List Record) (stamp : ℕ) (b : Batch) (ds : List Bool) (lane : ℕ) → b.lane ≢ lane
    → SaysSameOfLane J (Finish stamp b ds ∷ J) lane
past_finish J stamp b ds lane apart = let e = other_lane b.lane lane apart in record { slots = rw e refl; locks = λ n. refl; txs = λ n. refl }

pub past_forget : (J : List Record) (stamp : ℕ) (b : Batch) (lane : ℕ) → b.lane ≢ lane → SaysSameOfLane J (Forget stamp b ∷ J) lane
past_forget J stamp b lane apart = let e = other_lane b.lane lane apart in record { slots = rw e refl; locks = λ n. refl; txs = λ n. refl }

-- ---- what is locked in a lane

-- the entries of a lane's locked batch, if one is locked
abbrev pub IsLockedWith : List Record → ℕ → ℕ → Type 0
IsLockedWith J lane n = (slot J lane).phase ≡ InLock → length (lock_of J (open_batch J lane)) ≤ n

pub own_lock : (J : List Record) (stamp : ℕ) (b : Batch) (es : List Answered) (n : ℕ) → length es ≤ n → IsLockedWith (Lock stamp b es ∷ J) b.lane n
own_lock J stamp b es n le = let e = same_lane b.lane in let m = same_lane b.number in rw (e, m) (λ _. le)

pub own_finish : (J : List Record) (stamp : ℕ) (b : Batch) (ds : List Bool) (n : ℕ) → IsLockedWith (Finish stamp b ds ∷ J) b.lane n
own_finish J stamp b ds n = let e = same_lane b.lane in rw e (λ (is : InFinish ≡ InLock). cc)

pub own_forget : (J : List Record) (stamp : ℕ) (b : Batch) (n : ℕ) → IsLockedWith (Forget stamp b ∷ J) b.lane n
own_forget J stamp b n = let e = same_lane b.lane in rw e (λ (is : Idle ≡ InLock). cc)

pub same_lock : (J N : List Record) (lane n : ℕ) → SaysSameOfLane J N lane → IsLockedWith J lane n → IsLockedWith N lane n
same_lock J N lane n same old phase =
    let number : (slot N lane).number ≡ (slot J lane).number = ap (λ (s : Slot). s.number) same.slots in
    let locks : lock_of N (open_batch N lane) ≡ lock_of J (open_batch J lane) =
    ap (λ (k : ℕ). lock_of N (record { lane = lane; number = k })) number ∙ same.locks (slot J lane).number in
    let le : length (lock_of J (open_batch J lane)) ≤ n = old (sym (ap (λ (s : Slot). s.phase) same.slots) ∙ phase) in
    omega (arith, ap length locks, le)

-- the room of a lane in a phase
pub room_locked : (J : List Record) (b : Batch) → (slot J b.lane).phase ≡ InLock → (slot J b.lane).number ≡ b.number
    → lane_room J b.lane ≡ 76 + length (lock_of J b)
room_locked J b phase number = rw (phase, number) refl

pub room_finished : (J : List Record) (lane : ℕ) → (slot J lane).phase ≡ InFinish → lane_room J lane ≡ 34
room_finished J lane phase = rw phase refl

pub room_idle : (J : List Record) (lane : ℕ) → (slot J lane).phase ≡ Idle → lane_room J lane ≡ 0
room_idle J lane phase = rw phase refl

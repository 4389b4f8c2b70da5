-- The calls that were made of parts, and of other calls, may be made.
use Rattle.std.proofs.Common.{◌≡◌, ℕ, ◌≤◌, Bool, List, [], ◌∷◌, length, map, refl, arith, ap, ◌∙◌, sym, subst}
use Rattle.std.specs.List.{All}
use Rattle.std.proofs.lemmas.List.Elements.{All-map, All-weaker, All-same}
use Rattle.cbdc_types.specs.declared.calls.LockCall.{LockCall}
use Rattle.cbdc_types.specs.declared.calls.FinishCall.{FinishCall}
use Rattle.cbdc_types.specs.declared.calls.ForgetCall.{ForgetCall}
use Rattle.cbdc_model.specs.Records.{Batch, Entry, Outcome}
use Rattle.lane_driver.specs.Calls.{shard, lock_call_of, finish_call_of, forget_call_of}
use Rattle.lane_driver.specs.Told.{AreShards}
use Rattle.lane_driver.specs.declared.room.LaterRoom.{LaterRoom}
use Rattle.lane_driver.specs.Rooms.{IsLaterRoom}
use Rattle.lane_driver.proofs.Phasing.{shards_alike}

shards-map : {X Y : Type 0} (f : ℕ × X → ℕ × Y) → ((x : ℕ × X) → shard (f x) ≡ shard x) → (xs : List (ℕ × X)) → map shard (map f xs) ≡ map shard xs
shards-map f same [] = refl
shards-map f same (x ∷ xs) = ap (λ n. n ∷ map shard (map f xs)) (same x) ∙ ap (λ ns. shard x ∷ ns) (shards-map f same xs)

mapped_shards : {X Y : Type 0} (f : ℕ × X → ℕ × Y) → ((x : ℕ × X) → shard (f x) ≡ shard x) → (m n : ℕ) → m ≡ n
    → (xs : List (ℕ × X)) (ys : List (ℕ × Y))
    → ys ≡ map f xs → AreShards shard n xs → AreShards shard m ys
mapped_shards f same m n k xs ys e h =
    subst (λ m. AreShards shard m ys) (sym k) (shards_alike n shard shard xs ys (ap (λ zs. map shard zs) e ∙ shards-map f same xs) h)

pub lock_shards : (b : Batch) (t m n : ℕ) → m ≡ n → (ps : List (ℕ × List Entry)) (cs : List (ℕ × LockCall)) → cs ≡ map (lock_call_of b t) ps
    → AreShards shard n ps → AreShards shard m cs
lock_shards b t m n k ps cs e h = mapped_shards (lock_call_of b t) (λ x. refl) m n k ps cs e h

pub lock_sizes : (b : Batch) (t : ℕ) (ps : List (ℕ × List Entry)) (cs : List (ℕ × LockCall)) (n m : ℕ) → cs ≡ map (lock_call_of b t) ps
    → All (λ p. length p.1 ≤ n) ps → m ≡ n → All (λ c. length c.1.part ≤ m) cs
lock_sizes b t ps cs n m e h k =
    let P : ℕ × LockCall → Type 0 = λ c. length c.1.part ≤ m in
    All-same P cs (map (lock_call_of b t) ps) e
    (All-map P (lock_call_of b t) ps (All-weaker (λ p. length p.1 ≤ n) (λ p. length p.1 ≤ m) (λ p lt. omega arith) ps h))

-- a finish call with these decisions
abbrev pub finish_with : Batch → ℕ → ℕ → List Bool → ℕ × FinishCall
finish_with b t s ds = (s, record { batch = b; decisions = ds; cause = t })

pub finish_shards : (b : Batch) (t : ℕ) (os : List Outcome) (m n : ℕ) → m ≡ n → (cs : List (ℕ × LockCall)) (fs : List (ℕ × FinishCall))
    → fs ≡ map (finish_call_of b t os) cs → AreShards shard n cs → AreShards shard m fs
finish_shards b t os m n k cs fs e h = mapped_shards (finish_call_of b t os) (λ x. refl) m n k cs fs e h

pub forget_shards : (b : Batch) (t m n : ℕ) → m ≡ n → (cs : List (ℕ × LockCall)) (fs : List (ℕ × ForgetCall)) → fs ≡ map (forget_call_of b t) cs
    → AreShards shard n cs → AreShards shard m fs
forget_shards b t m n k cs fs e h = mapped_shards (forget_call_of b t) (λ x. refl) m n k cs fs e h

pub later_room : (m n k l : ℕ) (r : LaterRoom) → m ≡ n → k ≡ l → IsLaterRoom n l r → IsLaterRoom m k r
later_room m n k l r e f h = subst (λ m. IsLaterRoom m k r) (sym e) (subst (λ k. IsLaterRoom n k r) (sym f) h)

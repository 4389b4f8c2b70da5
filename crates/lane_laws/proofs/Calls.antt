-- The calls of the phases are those of the concerned shards.
use Rattle.std.proofs.Common.{◌≡◌, ℕ, ◌<◌, Bool, true, false, ◌&&◌, ◌==◌, not, nat_lt, List, [], ◌∷◌, map, Result, refl, sym, ap, ◌∙◌, subst, arith}
use Rattle.cbdc_types.specs.declared.calls.LockCall.{LockCall}
use Rattle.cbdc_types.specs.declared.calls.FinishCall.{FinishCall}
use Rattle.cbdc_types.specs.declared.calls.NodeFault.{NodeFault}
use Rattle.cbdc_model.specs.Records.{Batch, Compact, Entry, Outcome, Shape}
use Rattle.cbdc_model.specs.Outcomes.{decisions}
use Rattle.cbdc_model.specs.Ranges.{part, is_no_part}
use Rattle.cbdc_model.specs.Causes.{greatest}
use Rattle.cbdc_model.specs.Sights.{Sight}
use Rattle.lane_laws.specs.Calls.{shard, AllAbove, IsRising, NotAmong, is_concerned, Every, AreCalls, AreParts, IsPart, IsPartLock, IsPartFinish}
use Rattle.lane_laws.specs.Calls.{IsPartForget, AreLocks, AreFinishes, AreForgets, lock_call_of, finish_call_of, forget_call_of}
use Rattle.lane_laws.specs.Gathering.{IsLatest, stamp_at}
use Rattle.lane_laws.specs.Answers.{Asked}
use Rattle.lane_laws.proofs.ByShard.{latest_by_shard, told_length}

every_mapped : {C D : Type 0} (P : ℕ × C → Type 0) (Q : ℕ × D → Type 0) (f : ℕ × C → ℕ × D) → ((c : ℕ × C) → P c → Q (f c)) → (cs : List (ℕ × C))
    → Every P cs → Every Q (map f cs)
every_mapped P Q f h [] e = tt
every_mapped P Q f h (c ∷ cs) e = (h c e.0, every_mapped P Q f h cs e.1)

above_mapped : {C D : Type 0} (f : ℕ × C → ℕ × D) → ((c : ℕ × C) → c.0 ≡ (f c).0) → (n : ℕ) (cs : List (ℕ × C)) → AllAbove shard n cs
    → AllAbove shard n (map f cs)
above_mapped f keeps n [] h = tt
above_mapped f keeps n (c ∷ cs) h = (subst (λ m. n < m) (keeps c) h.0, above_mapped f keeps n cs h.1)

rising_mapped : {C D : Type 0} (f : ℕ × C → ℕ × D) → ((c : ℕ × C) → c.0 ≡ (f c).0) → (cs : List (ℕ × C)) → IsRising shard cs
    → IsRising shard (map f cs)
rising_mapped f keeps [] h = tt
rising_mapped f keeps (c ∷ cs) h = (
  subst (λ m. AllAbove shard m (map f cs)) (keeps c) (above_mapped f keeps c.0 cs h.0),
  rising_mapped f keeps cs h.1,
)

among_mapped : {C D : Type 0} (f : ℕ × C → ℕ × D) → ((c : ℕ × C) → c.0 ≡ (f c).0) → (s : ℕ) (cs : List (ℕ × C)) → NotAmong shard (map f cs) s
    → NotAmong shard cs s
among_mapped f keeps s [] h = tt
among_mapped f keeps s (c ∷ cs) h = (subst (λ m. (m == s) ≡ false) (sym (keeps c)) h.0, among_mapped f keeps s cs h.1)

calls_mapped : {C D : Type 0} (K : Shape) (txs : List Compact) (P : ℕ × C → Type 0) (Q : ℕ × D → Type 0) (f : ℕ × C → ℕ × D)
    → ((c : ℕ × C) → c.0 ≡ (f c).0) → ((c : ℕ × C) → P c → Q (f c)) → (cs : List (ℕ × C))
    → AreCalls K txs shard P cs → AreCalls K txs shard Q (map f cs)
calls_mapped K txs P Q f keeps h cs are = record {
  every = every_mapped P Q f h cs are.every;
  rising = rising_mapped f keeps cs are.rising;
  covers = λ s c n. are.covers s c (among_mapped f keeps s cs n);
}

module _ (K : Shape) (txs : List Compact) (b : Batch) where
  pub are_locks : (t : ℕ) (parts : List (ℕ × List Entry)) → AreParts K txs parts → AreLocks K txs b t (map (lock_call_of b t) parts)
  are_locks t parts are = calls_mapped K txs (IsPart K txs) (IsPartLock K txs b t) (lock_call_of b t) (λ c. refl)
      (λ c p. (p.0, ap (λ es. let d : LockCall = record { batch = b; part = es; cause = t } in d) p.1)) parts are

  pub are_finishes : (os : List Outcome) (u t : ℕ) (locks : List (ℕ × LockCall)) → AreLocks K txs b u locks
      → AreFinishes K txs os b t (map (finish_call_of b t os) locks)
  are_finishes os u t locks are = calls_mapped K txs (IsPartLock K txs b u) (IsPartFinish K txs os b t) (finish_call_of b t os) (λ c. refl)
      (λ c p. (p.0, ap (λ (d : LockCall). let e : FinishCall = record { batch = b; decisions = decisions os d.part; cause = t } in e) p.1)) locks are

  pub are_forgets : (u t : ℕ) (locks : List (ℕ × LockCall)) → AreLocks K txs b u locks → AreForgets K txs b t (map (forget_call_of b t) locks)
  are_forgets u t locks are = calls_mapped K txs (IsPartLock K txs b u) (IsPartForget K txs b t) (forget_call_of b t) (λ c. refl)
      (λ c p. (p.0, refl)) locks are

pub in_range : (K : Shape) (txs : List Compact) (s : ℕ) → is_concerned K txs s ≡ true → s < K.shards
in_range K txs s c = numbers s K.shards (not (is_no_part (part K s 0 txs))) c
  where
    numbers : (s n : ℕ) (a : Bool) → (nat_lt s n && a) ≡ true → s < n
    numbers s n a h = grind (arith, h)

every_below : {C : Type 0} (K : Shape) (txs : List Compact) (P : ℕ × C → Type 0) → ((c : ℕ × C) → P c → is_concerned K txs c.0 ≡ true)
    → (cs : List (ℕ × C)) → Every P cs → Every (λ c. c.0 < K.shards) cs
every_below K txs P h [] e = tt
every_below K txs P h (c ∷ cs) e = (in_range K txs c.0 (h c e.0), every_below K txs P h cs e.1)

-- the latest stamp of a phase is the greatest by shard
pub latest_greatest : {C : Type 0} (K : Shape) (txs : List Compact) (P : ℕ × C → Type 0) (told : ℕ × C → Sight → Sight → Result ℕ NodeFault → Type 0)
    → ((c : ℕ × C) → P c → is_concerned K txs c.0 ≡ true)
    → (cs : List (ℕ × C)) (I J : ℕ → Sight) (m : ℕ) → AreCalls K txs shard P cs → (asked : Asked told cs I J) → IsLatest asked.answers m
    → m ≡ greatest (λ s. stamp_at shard cs asked.answers s) K.shards
latest_greatest K txs P told h cs I J m are asked l =
    l.1 ∙ latest_by_shard K.shards cs asked.answers are.rising (every_below K txs P h cs are.every) (told_length told cs asked.answers I J asked.each)

-- What a shard owes whose journal is its Genesis alone.
use Rattle.std.proofs.Common.{◌≡◌, ℕ, ◌≤◌, nat_lt, true, false, ◌||◌, ◌&&◌, ◌==◌, Bool, Option, List, [], ◌∷◌, length, reverse, Err, Some, None, refl}
use Rattle.std.proofs.Common.{sym, ap, ◌∙◌, subst, arith}
use Rattle.std.specs.Prelude.{if◌then◌else◌, slice_get}
use Rattle.cbdc_types.specs.declared.calls.NodeFault.{NodeFault}
use Rattle.cbdc_types.specs.declared.calls.NodeFault.TheVariants.{Memory, Refused as Refuses}
use Rattle.cbdc_types.specs.declared.calls.Refused.TheVariants.{NotLocked, Stale}
use Rattle.cbdc_types.specs.declared.calls.FinishCall.{FinishCall}
use Rattle.cbdc_types.specs.declared.calls.ForgetCall.{ForgetCall}
use Rattle.cbdc_types.specs.declared.calls.LockCall.{LockCall}
use Rattle.cbdc_model.specs.Records.{Digest, Header, Record, Genesis, Finish, Forget}
use Rattle.cbdc_model.specs.After.{IsJournal}
use Rattle.cbdc_model.specs.Next.{Refuse, next_stamp, next_finish, next_forget, finish_in, forget_in}
use Rattle.cbdc_model.specs.Due.{Due, stamp_by}
use Rattle.cbdc_model.specs.Sights.{Sight, Stays, Meets}
use Rattle.cbdc_model.specs.Slots.{Idle}
use Rattle.shard_core.specs.Stands.{ShardStands}
use Rattle.shard_core.specs.declared.core_state.ShardCore.{ShardCore}
use Rattle.port_sets.specs.Giving.{NodeGives}
use Rattle.port_sets.specs.Shards.{lock_owed, finish_owed, forget_owed, good_reply, good_stamp}
use Rattle.lock_rows.specs.Frozen.{seen_of, IsFrozen}

not_less : (n : ℕ) → nat_lt n 0 ≡ false
not_less n = grind arith

above : (n : ℕ) → 1 ≤ n → nat_lt 0 n ≡ true
above n le = grind (arith, le)

unlike : (n : ℕ) → 1 ≤ n → (n == 0) ≡ false
unlike n le = grind (arith, le)

-- a call that writes nothing, and is answered at once or because memory ran out
module _ {A : Type 0} (lane : ℕ) (memory : Bool) (due : Header → ℕ → Option ℕ → List Record → Due A) (good : Header → List Record → A → Type 0)
    (h : Header) (hs : List Digest) (fault : NodeFault) where
  abbrev s : Sight
  s = record { header = h; seen = Genesis h hs ∷ []; flight = None; faults = 0; opened = 0; capacity = 0 }

  pub gives : IsJournal h (Genesis h hs ∷ []) → Meets memory (due h 0 None (Genesis h hs ∷ [])) s s (Genesis h hs ∷ []) (Err fault)
      → NodeGives lane memory due good s s (Err fault)
  gives journal meets = record {
    told = record {
      found = Genesis h hs ∷ [];
      broken = None;
      finds = record { more = []; is = refl; between = tt };
      since = tt;
      whole = λ e. refl;
      unbroken = λ e f. refl;
      since_opened = omega arith;
      order = omega arith;
      later = omega arith;
      meets = meets;
    };
    journal = journal;
    answer = tt;
  }

-- no batch is locked
pub finish_refused : (h : Header) (hs : List Digest) (c : FinishCall) → 1 ≤ c.batch.number
    → next_finish (Genesis h hs ∷ []) c.batch c.decisions c.cause ≡ Refuse (NotLocked 0)
finish_refused h hs c le =
    ap (λ b. if b || ((c.batch.number == 0) && true) then Refuse (Stale 0) else if nat_lt 0 c.batch.number then Refuse (NotLocked 0)
    else finish_in Idle (Genesis h hs ∷ []) c.batch c.decisions c.cause) (not_less c.batch.number)
    ∙ (ap (λ b. if b && true then Refuse (Stale 0) else if nat_lt 0 c.batch.number then Refuse (NotLocked 0)
    else finish_in Idle (Genesis h hs ∷ []) c.batch c.decisions c.cause) (unlike c.batch.number le)
    ∙ ap (λ b. if b then Refuse (NotLocked 0) else finish_in Idle (Genesis h hs ∷ []) c.batch c.decisions c.cause) (above c.batch.number le))

pub forget_refused : (h : Header) (hs : List Digest) (c : ForgetCall) → 1 ≤ c.batch.number
    → next_forget (Genesis h hs ∷ []) c.batch c.cause ≡ Refuse (NotLocked 0)
forget_refused h hs c le =
    ap (λ b. if b then Refuse (Stale 0) else if nat_lt 0 c.batch.number then Refuse (NotLocked 0)
    else forget_in Idle (Genesis h hs ∷ []) c.batch c.cause) (not_less c.batch.number)
    ∙ ap (λ b. if b then Refuse (NotLocked 0) else forget_in Idle (Genesis h hs ∷ []) c.batch c.cause) (above c.batch.number le)

module _ (core : ShardCore) (rs : List Record) (k : IsFrozen core rs) (t : Sight) (is : t ≡ seen_of core.header rs) where
  abbrev J : List Record
  J = Genesis core.header k.hashes ∷ []

  abbrev first : Sight
  first = record { header = core.header; seen = J; flight = None; faults = 0; opened = 0; capacity = 0 }

  seen_first : t ≡ first
  seen_first = is ∙ ap (seen_of core.header) k.first

  stays : Stays first first J
  stays = record { node = record { header = refl; opened = refl; capacity = refl; later = omega arith }; seen = refl; flight = refl }

  pub lock_gives : (c : LockCall) → NodeGives c.batch.lane true (lock_owed c) good_reply t t (Err Memory)
  lock_gives c = subst (λ s. NodeGives c.batch.lane true (lock_owed c) good_reply s s (Err Memory)) (sym seen_first)
      (gives c.batch.lane true (lock_owed c) good_reply core.header k.hashes Memory k.journal (refl, stays))

  pub finish_gives : (c : FinishCall) → 1 ≤ c.batch.number → NodeGives c.batch.lane false (finish_owed c) good_stamp t t (Err (Refuses (NotLocked 0)))
  finish_gives c le = subst (λ s. NodeGives c.batch.lane false (finish_owed c) good_stamp s s (Err (Refuses (NotLocked 0)))) (sym seen_first)
      (gives c.batch.lane false (finish_owed c) good_stamp core.header k.hashes (Refuses (NotLocked 0)) k.journal
      (ap (λ p. stamp_by p (Finish (next_stamp J c.cause) c.batch c.decisions)) (finish_refused core.header k.hashes c le), stays))

  pub forget_gives : (c : ForgetCall) → 1 ≤ c.batch.number → NodeGives c.batch.lane false (forget_owed c) good_stamp t t (Err (Refuses (NotLocked 0)))
  forget_gives c le = subst (λ s. NodeGives c.batch.lane false (forget_owed c) good_stamp s s (Err (Refuses (NotLocked 0)))) (sym seen_first)
      (gives c.batch.lane false (forget_owed c) good_stamp core.header k.hashes (Refuses (NotLocked 0)) k.journal
      (ap (λ p. stamp_by p (Forget (next_stamp J c.cause) c.batch)) (forget_refused core.header k.hashes c le), stays))

only_one : (all : List Record) (r : Record) → length all ≡ 1 → slice_get all 0 ≡ Some r → all ≡ r ∷ []
only_one [] r one e = absurd (let z : 0 ≡ 1 = one in omega (arith, z))
only_one (x ∷ []) r one e = let same : x ≡ r = let z : Some x ≡ Some r = e in cc in ap (λ y. y ∷ []) same
only_one (x ∷ (y ∷ all)) r one e = absurd (omega (arith, one))

-- a shard of one record, which is a Genesis
pub frozen_of : (core : ShardCore) (h header : Header) (hs : List Digest) (all rs past : List Record) → reverse all ≡ past → IsJournal h past
    → length all ≡ 1 → slice_get all 0 ≡ Some (Genesis header hs)
    → core.header ≡ header → ShardStands core (Genesis header hs ∷ []) → rs ≡ Genesis header hs ∷ [] → IsFrozen core rs × (core.header ≡ h)
frozen_of core h header hs all rs past is journal one at own stands copy =
    let begun : IsJournal h (Genesis header hs ∷ []) = subst (IsJournal h) (sym is ∙ ap reverse (only_one all (Genesis header hs) one at)) journal in
    let same : header ≡ h = begun.1.0.0 in (
      record {
        hashes = hs;
        first = copy ∙ ap (λ k. Genesis k hs ∷ []) (sym own);
        stands = subst (λ k. ShardStands core (Genesis k hs ∷ [])) (sym own) stands;
        journal = subst (λ k. IsJournal k (Genesis k hs ∷ [])) (sym own) (subst (λ k. IsJournal k (Genesis header hs ∷ [])) (sym same) begun);
      },
      own ∙ same,
    )

-- Why a lane stopped, by checked journals.
use Rattle.std.proofs.Common.{◌≡◌, inl, inr, ℕ, zero, suc, ◌+◌, ◌-◌, ◌^◌, ◌<◌, ◌≤◌, Bool, true, false, ◌&&◌, ◌||◌, not, ◌==◌, nat_lt, if◌then◌else◌}
use Rattle.std.proofs.Common.{List, [], Some, None, is_some, Err, refl, sym, ap, ◌∙◌, subst, arith}
use Rattle.cbdc_types.specs.declared.calls.LockCall.{LockCall}
use Rattle.cbdc_types.specs.declared.calls.Refused.{Refused}
use Rattle.cbdc_types.specs.declared.calls.Refused.TheVariants.{Stale, LaneOpen, EarlyStamp}
use Rattle.cbdc_types.specs.declared.calls.Replied.{Replied}
use Rattle.cbdc_types.specs.declared.calls.NodeFault.{NodeFault}
use Rattle.cbdc_types.specs.declared.calls.NodeFault.TheVariants.{Broken, Refused as Refuses, ClockEnd, Full, DiskFault, Memory}
use Rattle.cbdc_model.specs.Records.{Shape, Batch, Compact, Entry, Record, record_of, lock_of, stamp_of, stamp_in, last_stamp, Finish, Forget}
use Rattle.cbdc_model.specs.Records.{Prepare, Commit, Discard}
use Rattle.cbdc_model.specs.Slots.{Phase, slot, slot_stamp, Idle, InPrepare, InCommit, InDiscard}
use Rattle.cbdc_model.specs.Replies.{answered, entries, replies}
use Rattle.cbdc_model.specs.Outcomes.{decisions}
use Rattle.cbdc_model.specs.Deciding.{reply_cause}
use Rattle.cbdc_model.specs.Ranges.{home_of, shard_node, part}
use Rattle.cbdc_model.specs.Next.{Plan, RepliesAt, Kept, Append, Refuse, next_stamp, next_lock as planned, lock_again, difference, same_entry}
use Rattle.cbdc_model.specs.Next.{next_finish, next_forget, is_idle}
use Rattle.cbdc_model.specs.Room.{need_of}
use Rattle.cbdc_model.specs.Due.{Due, Answers, Writes, last_early, last_late, if_early, if_room, used_of, lock_record, replied_of, lock_by, lock_due}
use Rattle.cbdc_model.specs.Due.{stamp_by, prepare_record, new_batch, prepare_due, commit_record, discard_record, done_record}
use Rattle.cbdc_types.specs.Limits.{IsWithinLimits}
use Rattle.cbdc_model.specs.Causes.{greatest}
use Rattle.cbdc_model.specs.History.{Minted}
use Rattle.cbdc_model.specs.Sights.{Sight, HasRisen}
use Rattle.lane_laws.specs.Calls.{is_concerned}
use Rattle.lane_laws.specs.Faults.{IsAnswered, IsCallFault, to_lock, to_decide, to_finish, to_discard, to_forget, to_done, HaveBelow, AreSeenBelow}
use Rattle.lane_laws.specs.Faults.{IsOpenFault, IsBatchFault, latest_at}
use Rattle.lane_laws.proofs.Dues.{ok, err, late_full, stamp_full, lock_new, finish_new, forget_new}
use Rattle.run_laws.specs.Laws.{late_records}
use Rattle.run_laws.proofs.WorldStamps.{found_le}
use Rattle.run_laws.proofs.Few.{low, few_enough}
use Rattle.run_laws.specs.Checked.{CheckedJournals}
use Rattle.run_laws.specs.Runs.{seen_by}
use Rattle.run_laws.specs.Faults.{IsNext, next_prepare, next_lock, awaited, HasHeard, IsAsked, asks_prepare, asks_log, asks_shard, HasFailed}
use Rattle.run_laws.specs.Faults.{IsStopBy, opened_by, faults_by, capacity_by, StopLaw}
use Rattle.run_laws.proofs.Seen.{seen_log, seen_shard}
use Rattle.run_laws.proofs.Checked.{Any, rows_of}
use Rattle.lane_laws.proofs.Grants.{late_refuses}
use Rattle.run_laws.proofs.Granting.{concerned, grant_law}

-- ---- a call that takes room

module _ {A : Type 0} (stamp used need capacity : ℕ) (a : A) (r : Record) where
  abbrev pub Due' : Due A
  Due' = if_early last_early stamp (if_room used need capacity (Writes a r))

  above : (x y : ℕ) → nat_lt x y ≡ true → x < y
  above x y h = grind (arith, h)

  pub roomy_end : (end : ℕ) → Due' ≡ Answers (Err (ClockEnd end)) → (end ≡ stamp) × (2 ^ 62 < end)
  roomy_end end e = two (nat_lt last_early stamp) (nat_lt capacity (used + need)) refl e
    where
      two : (x y : Bool) → nat_lt last_early stamp ≡ x
          → (if x then Answers (Err (ClockEnd stamp)) else (if y then Answers (Err (Full used need capacity)) else Writes a r))
          ≡ Answers (Err (ClockEnd end)) → (end ≡ stamp) × (2 ^ 62 < end)
      two true y h e = let z : err {A = A} (ClockEnd stamp) ≡ err (ClockEnd end) = e in let s : stamp ≡ end = cc in
          (sym s, subst (λ n. last_early < n) s (above last_early stamp h))
      two false true h e = absurd (let z : err {A = A} (Full used need capacity) ≡ err (ClockEnd end) = e in cc)
      two false false h e = absurd (let z : Writes a r ≡ err (ClockEnd end) = e in cc)

  within : (x y : ℕ) → nat_lt x y ≡ false → y ≤ x
  within x y h = grind (arith, h)

  pub roomy_full : (u n c : ℕ) → Due' ≡ Answers (Err (Full u n c))
      → (c ≡ capacity) × (u ≡ used) × (n ≡ need) × (capacity < used + need) × (stamp ≤ 2 ^ 62)
  roomy_full u n c e = two (nat_lt last_early stamp) (nat_lt capacity (used + need)) refl refl e
    where
      two : (x y : Bool) → nat_lt last_early stamp ≡ x → nat_lt capacity (used + need) ≡ y
          → (if x then Answers (Err (ClockEnd stamp)) else (if y then Answers (Err (Full used need capacity)) else Writes a r))
          ≡ Answers (Err (Full u n c))
          → (c ≡ capacity) × (u ≡ used) × (n ≡ need) × (capacity < used + need) × (stamp ≤ 2 ^ 62)
      two true y early h e = absurd (let z : err {A = A} (ClockEnd stamp) ≡ err (Full u n c) = e in cc)
      two false true early h e = let z : err {A = A} (Full used need capacity) ≡ err (Full u n c) = e in
          (cc, cc, cc, above capacity (used + need) h, within last_early stamp early)
      two false false early h e = absurd (let z : Writes a r ≡ err (Full u n c) = e in cc)

  pub roomy_grants : (why : Refused) → Due' ≡ Answers (Err (Refuses why)) → ⊥
  roomy_grants why e = two (nat_lt last_early stamp) (nat_lt capacity (used + need)) e
    where
      two : (x y : Bool) → (if x then Answers (Err (ClockEnd stamp)) else (if y then Answers (Err (Full used need capacity)) else Writes a r))
          ≡ Answers (Err (Refuses why)) → ⊥
      two true y e = let z : err {A = A} (ClockEnd stamp) ≡ err (Refuses why) = e in cc
      two false true e = let z : err {A = A} (Full used need capacity) ≡ err (Refuses why) = e in cc
      two false false e = let z : Writes a r ≡ err (Refuses why) = e in cc

-- a Lock whose stamp or room is wanting would be new
pub lock_appends : (K : Shape) (capacity : ℕ) (L : List Record) (c : LockCall) (p : Plan RepliesAt) (f : NodeFault)
    → ((why : Refused) → Refuses why ≡ f → ⊥) → lock_by p K capacity L c ≡ Answers (Err f) → (q : RepliesAt) × (p ≡ Append q)
lock_appends K capacity L c (Kept q) f never e = absurd (let z : ok (replied_of q) ≡ err f = e in cc)
lock_appends K capacity L c (Refuse w) f never e = absurd (never w (let z : err {A = Replied} (Refuses w) ≡ err f = e in cc))
lock_appends K capacity L c (Append q) f never e = (q, refl)

-- and the shard has not come to its batch
abbrev is_stale : List Record → Batch → Bool
is_stale J b = nat_lt b.number (slot J b.lane).number || ((b.number == (slot J b.lane).number) && is_idle (slot J b.lane).phase)

abbrev lock_rest : List Record → Batch → List Entry → ℕ → Plan RepliesAt
lock_rest J b p cause =
    if b.number == (slot J b.lane).number then lock_again (difference same_entry (entries (lock_of J b)) p) J b else
    if not (is_idle (slot J b.lane).phase) then Refuse (LaneOpen (slot J b.lane).number) else
    if not (nat_lt (slot_stamp J b.lane) cause) then Refuse (EarlyStamp (slot_stamp J b.lane))
    else Append (record { given = replies (answered J b [] p); at = next_stamp J cause })

passed : {A : Type 0} (c : Bool) (why : Refused) (p : Plan A) (a : A) → (if c then Refuse why else p) ≡ Append a → c ≡ false
passed true why p a e = absurd (let z : Refuse why ≡ Append a = e in cc)
passed false why p a e = refl

behind : (m n : ℕ) (c : Bool) → (nat_lt m n || c) ≡ false → (m == n) ≡ false → n < m
behind m n c h d = grind (arith, h, d)

pub lock_behind : (L : List Record) (b : Batch) (p : List Entry) (cause : ℕ) (q : RepliesAt) → planned L b p cause ≡ Append q
    → (slot L b.lane).number < b.number
lock_behind L b p cause q e = behind b.number (slot L b.lane).number ((b.number == (slot L b.lane).number) && is_idle (slot L b.lane).phase)
    (passed (is_stale L b) (Stale (slot L b.lane).number) (lock_rest L b p cause) q e) (lock_new L b p cause q e).0

abbrev part_call : Shape → Batch → List Compact → ℕ → ℕ → LockCall
part_call K b txs s t = record { batch = b; part = part K s 0 txs; cause = t }

-- ---- each call

-- the stamp of a record for which room was kept is refused only past its bound
pub late_within : {A : Type 0} (stamp : ℕ) (a : A) (r : Record) (end : ℕ) → stamp ≤ 2 ^ 62 + 2 ^ 20
    → if_early last_late stamp (Writes a r) ≡ Answers (Err (ClockEnd end)) → ⊥
late_within {A = A} stamp a r end le e = one (nat_lt last_late stamp) refl e
  where
    past : (x : ℕ) → nat_lt last_late x ≡ true → x ≤ 2 ^ 62 + 2 ^ 20 → ⊥
    past x h le = grind (arith, h, le)

    one : (x : Bool) → nat_lt last_late stamp ≡ x → (if x then Answers (Err (ClockEnd stamp)) else Writes a r) ≡ Answers (Err (ClockEnd end)) → ⊥
    one true h e = past stamp h le
    one false h e = let z : Writes a r ≡ err (ClockEnd end) = e in cc

pub stamp_within : (p : Plan ℕ) (what : Record) (end : ℕ) → ((t : ℕ) → p ≡ Append t → t ≤ 2 ^ 62 + 2 ^ 20)
    → stamp_by p what ≡ Answers (Err (ClockEnd end)) → ⊥
stamp_within (Kept t) what end le e = let z : ok t ≡ err (ClockEnd end) = e in cc
stamp_within (Refuse why) what end le e = let z : err {A = ℕ} (Refuses why) ≡ err (ClockEnd end) = e in cc
stamp_within (Append t) what end le e = late_within t t what end (le t refl) e

module _ (K : Shape) (lane : ℕ) (next : List Compact → Type 0) (J : ℕ → List Record) (opened faults capacity : ℕ → ℕ) (node : ℕ)
    (node_is : node < K.coordinators + K.shards) (asked : IsAsked K lane next J node) where
  abbrev Stop : NodeFault → Type 0
  Stop f = IsStopBy K lane next J opened faults capacity node f

  abbrev SameCounts : Sight → Type 0
  SameCounts now = (opened node ≡ now.opened) × (faults node ≡ now.faults)

  failed : (now : Sight) → SameCounts now → HasRisen now.opened now.faults → HasFailed K lane next J opened faults node
  failed now same h = record {
    node_is = node_is;
    asked = asked;
    rose = subst (λ o. HasRisen o (faults node)) (sym same.0) (subst (λ f. HasRisen now.opened f) (sym same.1) h);
  }

  -- a record that is next, and has no stamp or no room
  stops : {A : Type 0} (now : Sight) → SameCounts now → (stamp used need : ℕ) (a : A) (r : Record) → IsNext K lane next J node r → stamp ≡ stamp_of r
      → used ≡ used_of (J node) → need ≡ need_of K (J node) r
      → (f : NodeFault) → IsAnswered true (if_early last_early stamp (if_room used need (capacity node) (Writes a r))) now f → Stop f
  stops now same stamp used need a r is stamp_is used_is need_is (Broken since) h = failed now same h
  stops now same stamp used need a r is stamp_is used_is need_is (Refuses why) h = roomy_grants stamp used need (capacity node) a r why h
  stops now same stamp used need a r is stamp_is used_is need_is (ClockEnd end) h =
      let e = roomy_end stamp used need (capacity node) a r end h in record { wanted = r; is_next = is; stamp_is = e.0 ∙ stamp_is; above = e.1 }
  stops now same stamp used need a r is stamp_is used_is need_is (Full u n c) h =
      let e = roomy_full stamp used need (capacity node) a r u n c h in
      record {
        wanted = r;
        is_next = is;
        early = subst (λ x. x ≤ 2 ^ 62) stamp_is e.4;
        limit_is = e.0;
        used_is = e.1 ∙ used_is;
        need_is = e.2 ∙ need_is;
        above = more c (capacity node) u used n need e.0 e.1 e.2 e.3;
      }
    where
      more : (c d u v n m : ℕ) → c ≡ d → u ≡ v → n ≡ m → d < v + m → c < u + n
      more c d u v n m p q r h = omega (arith, p, q, r, h)
  stops now same stamp used need a r is stamp_is used_is need_is DiskFault h = failed now same h
  stops now same stamp used need a r is stamp_is used_is need_is Memory h = tt

  -- a record for which room was kept, and whose stamp is within its bound
  late : (now : Sight) → SameCounts now → (stamp : ℕ) (r : Record) → stamp ≤ 2 ^ 62 + 2 ^ 20 → (f : NodeFault)
      → IsAnswered false (if_early last_late stamp (Writes stamp r)) now f → Stop f
  late now same stamp r le (Broken since) h = failed now same h
  late now same stamp r le (Refuses why) h = late_refuses stamp stamp r why h
  late now same stamp r le (ClockEnd end) h = absurd (late_within stamp stamp r end le h)
  late now same stamp r le (Full u n c) h = absurd (late_full stamp stamp r u n c h)
  late now same stamp r le DiskFault h = failed now same h
  late now same stamp r le Memory h = tt

  -- the same of a plan, where what it appends has such a stamp
  planned_late : (now : Sight) → SameCounts now → (p : Plan ℕ) (r : Record) → ((t : ℕ) → p ≡ Append t → t ≤ 2 ^ 62 + 2 ^ 20) → (f : NodeFault)
      → ((why : Refused) → Refuses why ≡ f → ⊥)
      → IsAnswered false (stamp_by p r) now f → Stop f
  planned_late now same p r le (Broken since) never h = failed now same h
  planned_late now same p r le (Refuses why) never h = never why refl
  planned_late now same p r le (ClockEnd end) never h = absurd (stamp_within p r end le h)
  planned_late now same p r le (Full u n c) never h = absurd (stamp_full p r u n c h)
  planned_late now same p r le DiskFault never h = failed now same h
  planned_late now same p r le Memory never h = tt

  prepares : (now : Sight) → SameCounts now → (txs : List Compact) → next txs → node ≡ home_of K lane → (slot (J node) lane).phase ≡ Idle
      → (f : NodeFault)
      → IsAnswered true (prepare_due K (capacity node) lane txs None (J node)) now f → Stop f
  prepares now same txs due home idle f h = stops now same (next_stamp (J node) 0) (used_of (J node))
      (need_of K (J node) (prepare_record (J node) lane txs)) (new_batch (J node) lane, next_stamp (J node) 0) (prepare_record (J node) lane txs)
      (next_prepare txs due home idle refl) refl refl refl f h

  module _ (now : Sight) (same : SameCounts now) (b : Batch) (t : ℕ) (txs : List Compact) (s : ℕ) (lane_is : b.lane ≡ lane)
      (at : node ≡ shard_node K s) (concerned : is_concerned K txs s ≡ true)
      (phase : (slot (J (home_of K b.lane)) b.lane).phase ≡ InPrepare) (stands : record_of 6 (J (home_of K b.lane)) b ≡ Some (Prepare t b txs))
      (have : HaveBelow K txs (λ k. J (shard_node K k)) 2 b s) where
    abbrev c : LockCall
    c = part_call K b txs s t

    appends : (f : NodeFault) (q : RepliesAt) → planned (J node) b (part K s 0 txs) t ≡ Append q
        → IsAnswered true (lock_by (Append q) K (capacity node) (J node) c) now f → Stop f
    appends f q e h = stops now same q.at (used_of (J node)) (need_of K (J node) (lock_record (J node) c)) (replied_of q) (lock_record (J node) c)
        (next_lock b t txs s lane_is at concerned phase stands have (lock_behind (J node) b (part K s 0 txs) t q e) refl)
        (ap (λ x. x.at) (lock_new (J node) b (part K s 0 txs) t q e).1) refl refl f h

    locks : (f : NodeFault) → ((why : Refused) → Refuses why ≡ f → ⊥) → IsAnswered true (lock_due K (capacity node) c None (J node)) now f → Stop f
    locks (Broken since) never h = failed now same h
    locks (Refuses why) never h = never why refl
    locks (ClockEnd end) never h =
        let a = lock_appends K (capacity node) (J node) c (planned (J node) b (part K s 0 txs) t) (ClockEnd end) never h in
        appends (ClockEnd end) a.0 a.1 (subst (λ p. IsAnswered true (lock_by p K (capacity node) (J node) c) now (ClockEnd end)) a.1 h)
    locks (Full u n m) never h =
        let a = lock_appends K (capacity node) (J node) c (planned (J node) b (part K s 0 txs) t) (Full u n m) never h in
        appends (Full u n m) a.0 a.1 (subst (λ p. IsAnswered true (lock_by p K (capacity node) (J node) c) now (Full u n m)) a.1 h)
    locks DiskFault never h = failed now same h
    locks Memory never h = tt

-- ---- in checked journals

below : (K : Shape) (txs : List Compact) (s : ℕ) → is_concerned K txs s ≡ true → s < K.shards
below K txs s c = (concerned K txs s c).0

pub greatest_le : (f : ℕ → ℕ) (top n : ℕ) → ((s : ℕ) → f s ≤ top) → greatest f n ≤ top
greatest_le f top zero h = omega arith
greatest_le f top (suc n) h = omega (arith, greatest_le f top n h, h n)

pub next_within : (J : List Record) (cause top : ℕ) → last_stamp J ≤ top → cause ≤ top → next_stamp J cause ≤ suc top
next_within J cause top a b = omega (arith, a, b)

module _ (K : Shape) (m : Minted) (logs shards : ℕ → Sight) (limits : IsWithinLimits K)
    (shard_shapes : (s : ℕ) → s < K.shards → (shards s).header.shape ≡ K)
    (checked : CheckedJournals K m (seen_by K logs shards)) where
  abbrev J : ℕ → List Record
  J = seen_by K logs shards

  abbrev opened : ℕ → ℕ
  opened = opened_by K logs shards

  abbrev faults : ℕ → ℕ
  faults = faults_by K logs shards

  abbrev capacity : ℕ → ℕ
  capacity = capacity_by K logs shards

  -- no stamp of the journals is above this, and the next ones are within the bound
  abbrev top : ℕ
  top = 2 ^ 62 + late_records K

  low_at : (n : ℕ) → last_stamp (J n) ≤ top
  low_at n = subst (λ L. last_stamp L ≤ top) (checked.history.journals_are n) (low K m Any limits.some_shard checked.later (rows_of K m J checked) n)

  found_at : (kind n : ℕ) (b : Batch) → stamp_in (record_of kind (J n) b) ≤ top
  found_at kind n b = subst (λ L. stamp_in (record_of kind L b) ≤ top) (checked.history.journals_are n)
      (found_le K m Any limits.some_shard checked.later (rows_of K m J checked) top
      (λ n. low K m Any limits.some_shard checked.later (rows_of K m J checked) n) kind n b)

  bounded : (stamp : ℕ) → stamp ≤ suc top → stamp ≤ 2 ^ 62 + 2 ^ 20
  bounded stamp le = let f : late_records K ≤ 33536 = few_enough K limits in omega (arith, le, f)

  -- of a coordinator and of a shard
  low_is : (n : ℕ) → n < K.coordinators → nat_lt n K.coordinators ≡ true
  low_is n lt = grind (arith, lt)

  high_is : (s : ℕ) → nat_lt (shard_node K s) K.coordinators ≡ false
  high_is s = grind arith

  back : (s : ℕ) → shard_node K s - K.coordinators ≡ s
  back s = omega arith

  log_by : (field : Sight → ℕ) (n : ℕ) → n < K.coordinators
      → (if nat_lt n K.coordinators then field (logs n) else field (shards (n - K.coordinators))) ≡ field (logs n)
  log_by field n lt = ap (λ t. if t then field (logs n) else field (shards (n - K.coordinators))) (low_is n lt)

  shard_by : (field : Sight → ℕ) (s : ℕ) → (if nat_lt (shard_node K s) K.coordinators then field (logs (shard_node K s))
      else field (shards (shard_node K s - K.coordinators))) ≡ field (shards s)
  shard_by field s = ap (λ t. if t then field (logs (shard_node K s)) else field (shards (shard_node K s - K.coordinators))) (high_is s)
      ∙ ap (λ k. field (shards k)) (back s)

  log_node : (n : ℕ) → n < K.coordinators → n < K.coordinators + K.shards
  log_node n lt = omega (arith, lt)

  shard_there : (s : ℕ) → s < K.shards → shard_node K s < K.coordinators + K.shards
  shard_there s lt = omega (arith, lt)

  latest_low : (kind : ℕ) (b : Batch) → latest_at K shards kind b ≤ top
  latest_low kind b = greatest_le (λ s. stamp_in (record_of kind (shards s).seen b)) top K.shards
      (λ s. subst (λ L. stamp_in (record_of kind L b) ≤ top) (seen_shard K logs shards s) (found_at kind (shard_node K s) b))

  module _ (next : List Compact → Type 0) (b : Batch) (home : home_of K b.lane < K.coordinators) (txs : List Compact) (node : ℕ) (f : NodeFault) where
    abbrev log : Sight
    log = logs (home_of K b.lane)

    abbrev StopAt : ℕ → Type 0
    StopAt n = IsStopBy K b.lane next J opened faults capacity n f

    at_home : J (home_of K b.lane) ≡ log.seen
    at_home = seen_log K logs shards (home_of K b.lane) home

    same_log : (opened (home_of K b.lane) ≡ log.opened) × (faults (home_of K b.lane) ≡ log.faults)
    same_log = (log_by (λ x. x.opened) (home_of K b.lane) home, log_by (λ x. x.faults) (home_of K b.lane) home)

    same_shard : (s : ℕ) → (opened (shard_node K s) ≡ (shards s).opened) × (faults (shard_node K s) ≡ (shards s).faults)
    same_shard s = (shard_by (λ x. x.opened) s, shard_by (λ x. x.faults) s)

    log_low : last_stamp log.seen ≤ top
    log_low = subst (λ L. last_stamp L ≤ top) at_home (low_at (home_of K b.lane))

    shard_low : (s : ℕ) → last_stamp (shards s).seen ≤ top
    shard_low s = subst (λ L. last_stamp L ≤ top) (seen_shard K logs shards s) (low_at (shard_node K s))

    cause_low : (kind t : ℕ) (r : Record) → record_of kind log.seen b ≡ Some r → stamp_of r ≡ t → t ≤ top
    cause_low kind t r e is = let l : stamp_in (record_of kind log.seen b) ≤ top =
        subst (λ L. stamp_in (record_of kind L b) ≤ top) at_home (found_at kind (home_of K b.lane) b) in
        subst (λ x. x ≤ top) (ap stamp_in e ∙ is) l

    -- at the coordinator, behind causes that the shards have
    at_log : IsAsked K b.lane next J (home_of K b.lane) → (cause : ℕ) (r : Record) → cause ≤ top
        → IsAnswered false (if_early last_late (next_stamp log.seen cause) (Writes (next_stamp log.seen cause) r)) log f → StopAt (home_of K b.lane)
    at_log asked cause r le h = late K b.lane next J opened faults capacity (home_of K b.lane) (log_node (home_of K b.lane) home) asked log same_log
        (next_stamp log.seen cause) r
        (bounded (next_stamp log.seen cause) (next_within log.seen cause top log_low le)) f h

    open_stops : IsOpenFault K b txs log shards node f → StopAt node
    open_stops fault = go fault.call
      where
        never : (why : Refused) → Refuses why ≡ f → ⊥
        never why e = grant_law K m logs shards b txs node why limits.some_shard home checked
            (subst (λ g. IsOpenFault K b txs log shards node g) (sym e) fault)

        busy : (slot (J (home_of K b.lane)) b.lane).phase ≡ Idle → ⊥
        busy i = fault.busy (sym (ap (λ L. (slot L b.lane).phase) at_home) ∙ i)

        -- what the shards have
        there : (kind n : ℕ) → AreSeenBelow K txs shards kind b n → HaveBelow K txs (λ s. J (shard_node K s)) kind b n
        there kind n have s lt c = subst (λ L. is_some (record_of kind L b) ≡ true) (sym (seen_shard K logs shards s)) (have s lt c)

        heard : (p : Phase) (n : ℕ) → (slot log.seen b.lane).phase ≡ p → AreSeenBelow K txs shards (awaited p) b n → HasHeard K b.lane J b txs n
        heard p n phase have = record {
          of_lane = refl;
          number = ap (λ L. (slot L b.lane).number) at_home ∙ fault.number;
          busy = busy;
          stamp = fault.stamp;
          prepare = ap (λ L. record_of 6 L b) at_home ∙ fault.prepare;
          heard = subst (λ q. HaveBelow K txs (λ s. J (shard_node K s)) (awaited q) b n) (sym (ap (λ L. (slot L b.lane).phase) at_home ∙ phase))
              (there (awaited p) n have);
        }

        asked : (p : Phase) (s : ℕ) → is_concerned K txs s ≡ true → (slot log.seen b.lane).phase ≡ p → AreSeenBelow K txs shards (awaited p) b s
            → IsAsked K b.lane next J (shard_node K s)
        asked p s c phase have = asks_shard b txs s refl c (heard p s phase have)

        asked_log : (p : Phase) → (slot log.seen b.lane).phase ≡ p → AreSeenBelow K txs shards (awaited p) b K.shards
            → IsAsked K b.lane next J (home_of K b.lane)
        asked_log p phase have = asks_log b txs refl (heard p K.shards phase have)

        -- at a shard, behind a cause that the coordinator has
        at_shard : (s cause : ℕ) (p : Plan ℕ) (r : Record) → is_concerned K txs s ≡ true → IsAsked K b.lane next J (shard_node K s) → cause ≤ top
            → ((t : ℕ) → p ≡ Append t → t ≡ next_stamp (shards s).seen cause)
            → IsAnswered false (stamp_by p r) (shards s) f → StopAt (shard_node K s)
        at_shard s cause p r c asks le is h = planned_late K b.lane next J opened faults capacity (shard_node K s) (shard_there s (below K txs s c))
            asks (shards s) (same_shard s) p r
            (λ t e. subst (λ x. x ≤ 2 ^ 62 + 2 ^ 20) (sym (is t e))
            (bounded (next_stamp (shards s).seen cause) (next_within (shards s).seen cause top (shard_low s) le))) f never h

        go : IsCallFault K b txs log shards node f → StopAt node
        go (to_lock s t is c phase stands have h) =
            subst StopAt (sym is)
            (locks K b.lane next J opened faults capacity (shard_node K s) (shard_there s (below K txs s c)) (asked InPrepare s c phase have)
            (shards s) (same_shard s) b t txs s refl refl c (ap (λ L. (slot L b.lane).phase) at_home ∙ phase)
            (ap (λ L. record_of 6 L b) at_home ∙ stands)
            (there 2 s have) f never
            (subst (λ L. IsAnswered true (lock_due K (capacity (shard_node K s)) (part_call K b txs s t) None L) (shards s) f)
            (sym (seen_shard K logs shards s))
            (subst (λ limit. IsAnswered true (lock_due K limit (part_call K b txs s t) None (shards s).seen) (shards s) f)
            (sym (shard_by (λ x. x.capacity) s))
            (subst (λ k. IsAnswered true (lock_due k (shards s).capacity (part_call K b txs s t) None (shards s).seen) (shards s) f)
            (shard_shapes s (below K txs s c)) h))))
        go (to_decide replies is phase have cause h) =
            subst StopAt (sym is) (at_log (asked_log InPrepare phase have) (reply_cause K replies) (commit_record K b.lane replies log.seen)
            (subst (λ x. x ≤ top) (sym cause) (latest_low 2 b)) h)
        go (to_finish s t os is c phase stands have h) =
            subst StopAt (sym is) (at_shard s t (next_finish (shards s).seen b (decisions os (part K s 0 txs)) t)
            (Finish (next_stamp (shards s).seen t) b (decisions os (part K s 0 txs))) c (asked InCommit s c phase have)
            (cause_low 7 t (Commit t b os) stands refl)
            (λ u e. (finish_new (shards s).seen b (decisions os (part K s 0 txs)) t u e).1) h)
        go (to_discard cause is phase have latest h) =
            subst StopAt (sym is) (at_log (asked_log InCommit phase have) cause (discard_record b.lane cause log.seen)
            (subst (λ x. x ≤ top) (sym latest) (latest_low 3 b)) h)
        go (to_forget s t is c phase stands have h) =
            subst StopAt (sym is) (at_shard s t (next_forget (shards s).seen b t) (Forget (next_stamp (shards s).seen t) b) c
            (asked InDiscard s c phase have) (cause_low 8 t (Discard t b) stands refl)
            (λ u e. (forget_new (shards s).seen b t u e).1) h)
        go (to_done cause is phase have latest h) =
            subst StopAt (sym is) (at_log (asked_log InDiscard phase have) cause (done_record b.lane cause log.seen)
            (subst (λ x. x ≤ top) (sym latest) (latest_low 4 b)) h)

  open_by : (next : List Compact → Type 0) (lane : ℕ) (b : Batch) → b.lane ≡ lane → home_of K lane < K.coordinators
      → (txs : List Compact) (node : ℕ) (f : NodeFault) → IsOpenFault K b txs (logs (home_of K lane)) shards node f
      → IsStopBy K lane next J opened faults capacity node f
  open_by next lane b is home txs node f fault =
      subst (λ l. IsStopBy K l next J opened faults capacity node f) is
      (open_stops next b (subst (λ l. home_of K l < K.coordinators) (sym is) home) txs node f
      (subst (λ l. IsOpenFault K b txs (logs (home_of K l)) shards node f) (sym is) fault))

  batch_by : (lane : ℕ) → home_of K lane < K.coordinators → (logs (home_of K lane)).header.shape ≡ K
      → (txs : List Compact) (node : ℕ) (f : NodeFault) → IsBatchFault K lane txs (logs (home_of K lane)) shards node f
      → IsStopBy K lane (λ t. t ≡ txs) J opened faults capacity node f
  batch_by lane home shape txs node f (inr (b, is, fault)) = open_by (λ t. t ≡ txs) lane b is home txs node f fault
  batch_by lane home shape txs node f (inl (at, idle, h)) =
      subst (λ n. IsStopBy K lane (λ t. t ≡ txs) J opened faults capacity n f) (sym at)
      (prepares K lane (λ t. t ≡ txs) J opened faults capacity (home_of K lane) (log_node (home_of K lane) home)
      (asks_prepare txs refl refl (ap (λ L. (slot L lane).phase) (seen_log K logs shards (home_of K lane) home) ∙ idle)) (logs (home_of K lane))
      (log_by (λ x. x.opened) (home_of K lane) home, log_by (λ x. x.faults) (home_of K lane) home)
      txs refl refl (ap (λ L. (slot L lane).phase) (seen_log K logs shards (home_of K lane) home) ∙ idle) f
      (subst (λ L. IsAnswered true (prepare_due K (capacity (home_of K lane)) lane txs None L) (logs (home_of K lane)) f)
      (sym (seen_log K logs shards (home_of K lane) home))
      (subst (λ limit. IsAnswered true (prepare_due K limit lane txs None (logs (home_of K lane)).seen) (logs (home_of K lane)) f)
      (sym (log_by (λ x. x.capacity) (home_of K lane) home))
      (subst (λ k. IsAnswered true (prepare_due k (logs (home_of K lane)).capacity lane txs None (logs (home_of K lane)).seen)
      (logs (home_of K lane)) f) shape h))))

pub stop_law : StopLaw
stop_law K m lane logs shards txs node f limits home shape shard_shapes checked = (
  λ fault. batch_by K m logs shards limits shard_shapes checked lane home shape txs node f fault,
  λ b is fault. open_by K m logs shards limits shard_shapes checked (λ t. ⊥) lane b is home txs node f fault,
)

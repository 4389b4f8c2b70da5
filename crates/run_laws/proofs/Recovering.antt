-- Recovery: the nodes are opened again, all Locks that are still to come are written, and then each lane is brought to rest.
use Rattle.std.proofs.Common.{◌≡◌, ◌⊎◌, inl, inr, ℕ, ◌+◌, ◌*◌, ◌^◌, ◌<◌, ◌≤◌, ◌/◌, Bool, true, false, ◌&&◌, not, List, [], ◌∷◌, ◌++◌, length, is_some}
use Rattle.std.proofs.Common.{sym, ap, subst, arith}
use Rattle.std.proofs.Math.Nat.{mul-le-mul}
use Rattle.cbdc_types.specs.Limits.{IsWithinLimits}
use Rattle.cbdc_model.specs.Records.{Shape, Batch, Compact, Record, Row, journal, record_of, txs_of, last_stamp, Prepare}
use Rattle.cbdc_model.specs.Slots.{slot}
use Rattle.cbdc_model.specs.Due.{open_batch}
use Rattle.cbdc_model.specs.Coins.{Output, FullTx}
use Rattle.cbdc_model.specs.Clean.{IsProperCompact}
use Rattle.cbdc_model.specs.Ranges.{shard_node, part, is_no_part, Concerned}
use Rattle.cbdc_model.specs.Grammar.{IsInGrammar}
use Rattle.cbdc_model.specs.History.{Minted, minted, header_of, first_rows}
use Rattle.cbdc_model.specs.World.{World, Event, Begin, End, Crash, Reopen, Repeat, journals, KeptWorld}
use Rattle.ledger_laws.specs.Resumed.{IsNoPrepare, BeginsNoPrepare, openings, BeginNoPrepare, Recovers}
use Rattle.ledger_laws.proofs.Next.{has_lock, Steady}
use Rattle.ledger_laws.proofs.FirstWorld.{to_steady, to_kept}
use Rattle.ledger_laws.proofs.Reaching.{run-append}
use Rattle.ledger_laws.proofs.Moves.{all_structure}
use Rattle.ledger_laws.proofs.Recovered.{all_dones}
use Rattle.ledger_laws.proofs.Phases.{in_order}
use Rattle.ledger_laws.proofs.Found.{found_grammar}
use Rattle.ledger_laws.proofs.Writing.{AllLocked, Open, begin-append}
use Rattle.ledger_laws.proofs.LanePhases.{Rests, lanes_rest}
use Rattle.run_laws.specs.Laws.{late_records, WorldRecoveryLaw, StuckLaw}
use Rattle.run_laws.specs.LocksDue.{opened, lacks_lock, LocksFit, IsStuck, IsLock, BeginsOnlyLock, BeginLocks, Sticks}
use Rattle.run_laws.proofs.Few.{low, few_enough}
use Rattle.ledger_laws.proofs.Openings.{IsQuiet, Opened, open_all}
use Rattle.run_laws.proofs.LockWrites.{HasPrepare}
use Rattle.run_laws.proofs.LockWrites as locks
use Rattle.run_laws.proofs.OneLock.{LockStep}
use Rattle.run_laws.proofs.LocksFirst.{Going, Comes, arrives, sticks, lanes_of}
use Rattle.run_laws.proofs.Fits.{fits_stay, fits_not_stuck}

not_lacking : (a b : Bool) → (not a && not b) ≡ false → a ≡ false → b ≡ true
not_lacking a b h e = grind arith

-- where no lane lacks a Lock of its last batch, none is missing: earlier batches are done
module _ (K : Shape) (minting : Minted) (P : Compact → Type 0) (shards : 0 < K.shards) (later : List Row) (kept : Steady K minting P later) where
  abbrev J : ℕ → List Record
  J n = journal n (later ++ first_rows K minting)

  done_locked : (b : Batch) (s : ℕ) → Concerned K (txs_of (J (b.lane / K.lanes)) b) s → is_some (record_of 9 (J (b.lane / K.lanes)) b) ≡ true
      → has_lock (J (shard_node K s)) b ≡ true
  done_locked b s c done =
      let o = in_order K minting P shards later kept b in
      let forgot = ((o.done done).1 s c).0 in
      let discarded = (o.forget s forgot).0 in
      let finished = ((o.discard discarded).1 s c).0 in
      (o.finish s finished).0

  all_locked : ((lane : ℕ) → lane < K.coordinators * K.lanes → (s : ℕ) → s < K.shards → lacks_lock K J s lane ≡ false)
      → (b : Batch) (s : ℕ) → Concerned K (txs_of (J (b.lane / K.lanes)) b) s → has_lock (J (shard_node K s)) b ≡ true
  all_locked none b s c = by_prepare (locks.has_prepare K (J (b.lane / K.lanes)) b s c.1)
    where
      by_number : (p : HasPrepare (J (b.lane / K.lanes)) b) → b.lane < K.coordinators * K.lanes
          → (b.number < (slot (J (b.lane / K.lanes)) b.lane).number) ⊎ ((slot (J (b.lane / K.lanes)) b.lane).number ≡ b.number)
          → has_lock (J (shard_node K s)) b ≡ true
      by_number p lt (inl less) = done_locked b s c
          ((all_dones K minting P shards later kept (b.lane / K.lanes)).past_done b (ap is_some p.stands) less)
      by_number p lt (inr e) =
          let same : open_batch (J (b.lane / K.lanes)) b.lane ≡ b = λ i. record { lane = b.lane; number = e i } in
          let f : (not (is_no_part (part K s 0 (txs_of (J (b.lane / K.lanes)) b))) && not (has_lock (J (shard_node K s)) b)) ≡ false
          = subst (λ d. (not (is_no_part (part K s 0 (txs_of (J (b.lane / K.lanes)) d))) && not (has_lock (J (shard_node K s)) d)) ≡ false) same
          (none b.lane lt s c.0) in
          not_lacking (is_no_part (part K s 0 (txs_of (J (b.lane / K.lanes)) b))) (has_lock (J (shard_node K s)) b) f c.1

      less_or_same : (m n : ℕ) → m ≤ n → (m < n) ⊎ (n ≡ m)
      less_or_same m n le = grind arith

      by_prepare : HasPrepare (J (b.lane / K.lanes)) b → has_lock (J (shard_node K s)) b ≡ true
      by_prepare p =
          let g : IsInGrammar (header_of K minting.id (b.lane / K.lanes)) (Prepare p.cause b p.txs) =
          found_grammar K minting P shards later kept (b.lane / K.lanes) 6 b (Prepare p.cause b p.txs) p.stands in
          by_number p g.1.0 (less_or_same b.number (slot (J (b.lane / K.lanes)) b.lane).number
          (((all_structure K minting P shards later kept).journals (b.lane / K.lanes)).prepare_below b (ap is_some p.stands)))

-- there are stamps enough for all that may come
enough : (K : Shape) → IsWithinLimits K → (2 ^ 62 + late_records K) + K.coordinators * K.lanes * (3 * K.shards + 3) ≤ 2 ^ 62 + 2 ^ 20
enough K limits =
    let lanes : K.coordinators * K.lanes ≤ 16 * 16 = mul-le-mul limits.coordinators limits.lanes in
    let each : 3 * K.shards + 3 ≤ 195 = (let l = limits.shards in omega arith) in
    let all : K.coordinators * K.lanes * (3 * K.shards + 3) ≤ 16 * 16 * 195 = mul-le-mul lanes each in
    let f : late_records K ≤ 33536 = few_enough K limits in
    sum (late_records K) (K.coordinators * K.lanes * (3 * K.shards + 3)) f all
  where
    sum : (m n : ℕ) → m ≤ 33536 → n ≤ 49920 → (2 ^ 62 + m) + n ≤ 2 ^ 62 + 2 ^ 20
    sum m n h g = omega arith

lock_no_prepare : (r : Record) → IsLock r → IsNoPrepare r
lock_no_prepare (Prepare stamp b txs) h = absurd h
lock_no_prepare other h = tt

of_event : (e : Event) → BeginsOnlyLock e → BeginsNoPrepare e
of_event (Begin n r) h = lock_no_prepare r h
of_event (End n) h = tt
of_event (Crash n kept) h = tt
of_event (Reopen n) h = tt
of_event (Repeat n call) h = tt

locks_no_prepare : (es : List Event) → BeginLocks es → BeginNoPrepare es
locks_no_prepare [] h = tt
locks_no_prepare (e ∷ es) h = (of_event e h.0, locks_no_prepare es h.1)

module _ (K : Shape) (mint : List Output) (txs : List FullTx) (limits : IsWithinLimits K) (kept_at : ℕ → Bool) (w : World)
    (kept : KeptWorld K mint txs w) where
  abbrev m : Minted
  m = minted mint

  abbrev P : Compact → Type 0
  P = IsProperCompact txs

  abbrev shards : 0 < K.shards
  shards = limits.some_shard

  abbrev lanes : 0 < K.lanes
  lanes = limits.some_lane

  abbrev all_lanes : ℕ
  all_lanes = K.coordinators * K.lanes

  -- from a world with all Locks
  abbrev top : ℕ
  top = 2 ^ 62 + late_records K

  open_at : (v : World) → IsQuiet K m P shards v → Open K m P shards top v
  open_at v q = record {
    kept = q.kept;
    size = q.size;
    up = q.up;
    quiet = q.quiet;
    low = λ n. subst (λ J. last_stamp J ≤ top) (q.kept.history n) (low K m P shards q.kept.later q.kept.kept n);
  }

  locked_at : (v : World) → IsQuiet K m P shards v
      → ((lane : ℕ) → lane < all_lanes → (s : ℕ) → s < K.shards → lacks_lock K (journals v) s lane ≡ false) → AllLocked K v
  locked_at v q = subst (λ J. ((lane : ℕ) → lane < all_lanes → (s : ℕ) → s < K.shards → lacks_lock K J s lane ≡ false)
      → (b : Batch) (s : ℕ) → Concerned K (txs_of (J (b.lane / K.lanes)) b) s → has_lock (J (shard_node K s)) b ≡ true) (λ i n. q.kept.history n i)
      (λ none. all_locked K m P shards q.kept.later q.kept.kept none)

  abbrev Clear : World → Type 0
  Clear u = (lane : ℕ) → lane < all_lanes → (s : ℕ) → s < K.shards → lacks_lock K (journals u) s lane ≡ false

  module _ (Inv : World → Type 0) (keeps : (v u : World) (s lane : ℕ) → s < K.shards → lane < all_lanes → lacks_lock K (journals v) s lane ≡ true
      → LockStep K m P shards lanes v u s lane → Inv v → Inv u) where
    abbrev Goes : World → Type 0
    Goes v = Going K m P shards lanes Inv keeps v

    recovers : (v : World) → Opened K m P shards kept_at w v → (g : Goes v) → Clear g.new → Recovers K mint txs kept_at w
    recovers v o g clear = by_lanes (lanes_rest K m P shards lanes all_lanes (omega arith) top g.new (enough K limits)
        (inr (locked_at g.new g.is_quiet clear)) (open_at g.new g.is_quiet))
      where
        by_lanes : Rests K m P shards all_lanes (top + all_lanes * (3 * K.shards + 3)) g.new → Recovers K mint txs kept_at w
        by_lanes r = record {
          asked = g.events ++ r.events;
          after = r.new;
          run = run-append K m w v r.new (openings kept_at (length w)) (g.events ++ r.events) o.run
              (run-append K m v g.new r.new g.events r.events g.run r.run);
          none = begin-append g.events r.events (locks_no_prepare g.events g.locks) r.none;
          kept = to_kept K mint txs r.new r.is_open.size r.is_open.kept;
          recovered = record { up = r.is_open.up; quiet = r.is_open.quiet; idle = r.idle };
        }

    stuck_at : (v : World) → Opened K m P shards kept_at w v → (g : Goes v) → IsStuck K (journals g.new) → Sticks K mint txs kept_at w
    stuck_at v o g stuck = record {
      asked = g.events;
      after = g.new;
      run = run-append K m w v g.new (openings kept_at (length w)) g.events o.run g.run;
      locks = g.locks;
      kept = to_kept K mint txs g.new g.is_quiet.size g.is_quiet.kept;
      stuck = stuck;
    }

    locks_written : (v : World) → Opened K m P shards kept_at w v → Inv v → Comes K m P shards lanes Inv keeps v Clear
    locks_written v o i = lanes_of K m P shards lanes Inv keeps v o.is_quiet i all_lanes (omega arith)

  opening : (v : World) × Opened K m P shards kept_at w v
  opening = open_all K m P shards kept_at w (to_steady K mint txs w kept) kept.size

  module _ (v : World) (o : Opened K m P shards kept_at w v) where
    by_fits : Comes K m P shards lanes (λ u. LocksFit K (journals u)) (fits_stay K m P shards lanes) v Clear → Recovers K mint txs kept_at w
    by_fits (arrives g clear) = recovers (λ u. LocksFit K (journals u)) (fits_stay K m P shards lanes) v o g clear
    by_fits (sticks g stuck) = absurd (fits_not_stuck K m P shards lanes g.new g.holds stuck)

    recovers_fitting : LocksFit K (opened kept_at w) → Recovers K mint txs kept_at w
    recovers_fitting fit = by_fits (locks_written (λ u. LocksFit K (journals u)) (fits_stay K m P shards lanes) v o
        (subst (λ J. LocksFit K J) (λ i n. sym (o.journals_are n) i) fit))

    either : Comes K m P shards lanes (λ u. Unit {0}) (λ v u s lane ls ll l step i. tt) v Clear
        → Recovers K mint txs kept_at w ⊎ Sticks K mint txs kept_at w
    either (arrives g clear) = inl (recovers (λ u. Unit {0}) (λ v u s lane ls ll l step i. tt) v o g clear)
    either (sticks g stuck) = inr (stuck_at (λ u. Unit {0}) (λ v u s lane ls ll l step i. tt) v o g stuck)

    recovers_or_sticks : Recovers K mint txs kept_at w ⊎ Sticks K mint txs kept_at w
    recovers_or_sticks = either (locks_written (λ u. Unit {0}) (λ v u s lane ls ll l step i. tt) v o tt)

pub recovery_law : WorldRecoveryLaw
recovery_law K mint txs w kept_at limits kept fit =
    let o = opening K mint txs limits kept_at w kept in
    recovers_fitting K mint txs limits kept_at w kept o.0 o.1 fit

pub stuck_law : StuckLaw
stuck_law K mint txs w kept_at limits kept =
    let o = opening K mint txs limits kept_at w kept in
    recovers_or_sticks K mint txs limits kept_at w kept o.0 o.1

-- Once nodes are brought up, each keeping what was in flight or not, every lane is brought to rest.
use Rattle.std.proofs.Common.{◌≡◌, ◌⊎◌, inl, inr, ℕ, ◌+◌, ◌*◌, ◌^◌, ◌<◌, ◌≤◌, Bool, true, false, ◌&&◌, if◌then◌else◌, List, length, Option, Some}
use Rattle.std.proofs.Common.{None, refl, sym, subst, arith}
use Rattle.cbdc_model.specs.Records.{Shape, Compact, Record, stamp_of, last_stamp}
use Rattle.cbdc_model.specs.Clean.{IsProperCompact}
use Rattle.cbdc_model.specs.History.{Minted, minted}
use Rattle.cbdc_model.specs.World.{World, node_at, journals, flushed, Run}
use Rattle.ledger_laws.specs.Resumed.{IsNoPrepare, openings, IsStampedUpTo, HasAllLocks, Recovers}
use Rattle.ledger_laws.specs.Laws.{RecoveryLaw}
use Rattle.ledger_laws.proofs.FirstWorld.{to_steady, to_kept}
use Rattle.ledger_laws.proofs.Reaching.{run-append}
use Rattle.ledger_laws.proofs.Writing.{Grows, as_is, by_one, AllLocked, locks_stay, Open}
use Rattle.ledger_laws.proofs.LanePhases.{Rests, lanes_rest}
use Rattle.ledger_laws.proofs.Openings.{Opened, open_all}

-- a journal with what was in flight, where that is kept
flushed_low : (f : Option Record) (J : List Record) (top : ℕ) → last_stamp J ≤ top → ((r : Record) → f ≡ Some r → stamp_of r ≤ top)
    → last_stamp (flushed f J) ≤ top
flushed_low None J top h g = h
flushed_low (Some r) J top h g = g r refl

kept_low : (kept : Bool) (f : Option Record) (J : List Record) (top : ℕ) → last_stamp J ≤ top → ((r : Record) → f ≡ Some r → stamp_of r ≤ top)
    → last_stamp (if kept then flushed f J else J) ≤ top
kept_low true f J top h g = flushed_low f J top h g
kept_low false f J top h g = h

kept_grows : (kept : Bool) (f : Option Record) (J : List Record) → ((r : Record) → f ≡ Some r → IsNoPrepare r)
    → Grows J (if kept then flushed f J else J)
kept_grows true None J h = as_is refl
kept_grows true (Some r) J h = by_one r (h r refl) refl
kept_grows false f J h = as_is refl

-- once the nodes are opened again, no stamp is above the greatest one before, and no Lock is lacking that stood
module _ (K : Shape) (minting : Minted) (P : Compact → Type 0) (shards : 0 < K.shards) (kept_at : ℕ → Bool) (w v : World)
    (o : Opened K minting P shards kept_at w v) where
  open_there : (top : ℕ) → IsStampedUpTo top w → Open K minting P shards top v
  open_there top stamps = record {
    kept = o.is_quiet.kept;
    size = o.is_quiet.size;
    up = o.is_quiet.up;
    quiet = o.is_quiet.quiet;
    low = λ n. subst (λ J. last_stamp J ≤ top) (sym (o.journals_are n))
        (kept_low ((node_at w n).up && kept_at n) (node_at w n).flight (journals w n) top (stamps.journals n) (stamps.flights n));
  }

  grown : ((n : ℕ) (r : Record) → (node_at w n).flight ≡ Some r → IsNoPrepare r) → (n : ℕ) → Grows (journals w n) (journals v n)
  grown none n = subst (λ J. Grows (journals w n) J) (sym (o.journals_are n))
      (kept_grows ((node_at w n).up && kept_at n) (node_at w n).flight (journals w n) (none n))

  locked_there : HasAllLocks K w → AllLocked K v
  locked_there l = locks_stay K w v (grown l.flights) l.locks

pub recovery_law : RecoveryLaw
recovery_law K mint txs w kept_at top shards lanes kept stamps room early =
    by_opening (open_all K (minted mint) (IsProperCompact txs) shards kept_at w (to_steady K mint txs w kept) kept.size)
  where
    by_lanes : (v : World) → Run K (minted mint) w (openings kept_at (length w)) v
        → Rests K (minted mint) (IsProperCompact txs) shards (K.coordinators * K.lanes) (top + K.coordinators * K.lanes * (3 * K.shards + 3)) v
        → Recovers K mint txs kept_at w
    by_lanes v run r = record {
      asked = r.events;
      after = r.new;
      run = run-append K (minted mint) w v r.new (openings kept_at (length w)) r.events run r.run;
      none = r.none;
      kept = to_kept K mint txs r.new r.is_open.size r.is_open.kept;
      recovered = record { up = r.is_open.up; quiet = r.is_open.quiet; idle = r.idle };
    }

    all_locked : (v : World) → Opened K (minted mint) (IsProperCompact txs) shards kept_at w v
        → (top + K.coordinators * K.lanes * (3 * K.shards + 3) ≤ 2 ^ 62) ⊎ HasAllLocks K w
        → (top + K.coordinators * K.lanes * (3 * K.shards + 3) ≤ 2 ^ 62) ⊎ AllLocked K v
    all_locked v o (inl h) = inl h
    all_locked v o (inr l) = inr (locked_there K (minted mint) (IsProperCompact txs) shards kept_at w v o l)

    by_opening : (v : World) × Opened K (minted mint) (IsProperCompact txs) shards kept_at w v → Recovers K mint txs kept_at w
    by_opening (v, o) =
        by_lanes v o.run (lanes_rest K (minted mint) (IsProperCompact txs) shards lanes (K.coordinators * K.lanes) (omega arith) top v room
        (all_locked v o early)
        (open_there K (minted mint) (IsProperCompact txs) shards kept_at w v o top stamps))

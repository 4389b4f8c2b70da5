-- One record is written in a world that is up, and writings in turn.
use Rattle.std.proofs.Common.{◌≡◌, ℕ, suc, ◌+◌, ◌<◌, ◌≤◌, ◌/◌, true, false, ◌&&◌, ◌==◌, cond, List, [], ◌∷◌, ◌++◌, length, Some, None, is_some, refl}
use Rattle.std.proofs.Common.{sym, ap, ◌∙◌, subst, arith}
use Rattle.cbdc_model.specs.Records.{Shape, Batch, Compact, Record, record_of, txs_of, kind_of, is_of, last_stamp, Prepare}
use Rattle.cbdc_model.specs.Slots.{slot}
use Rattle.cbdc_model.specs.Ranges.{shard_node, Concerned}
use Rattle.cbdc_model.specs.Causes.{AllHave}
use Rattle.cbdc_model.specs.History.{Minted}
use Rattle.cbdc_model.specs.World.{World, Event, Begin, End, node_at, journals, Run}
use Rattle.ledger_laws.specs.Resumed.{IsNoPrepare, BeginNoPrepare}
use Rattle.ledger_laws.proofs.Rows.{at, away, at_node}
use Rattle.ledger_laws.proofs.ByKind.{test_batch, not_of_first, of_in_lane, lanes_apart}
use Rattle.ledger_laws.proofs.Last.{slot_stays}
use Rattle.ledger_laws.proofs.Ledger.{SteadyWorld, after_of, passes_of}
use Rattle.ledger_laws.proofs.Worlds.{run_keeps}
use Rattle.ledger_laws.proofs.Reaching.{run-append, ended, ended_at, ended_away, ended_length, written}
use Rattle.ledger_laws.proofs.Resuming.{Writes}

pub begin-append : (es fs : List Event) → BeginNoPrepare es → BeginNoPrepare fs → BeginNoPrepare (es ++ fs)
begin-append [] fs h g = g
begin-append (e ∷ es) fs h g = (h.0, begin-append es fs h.1 g)

-- a record of a lane leaves the slots of the others
other_slots : (r : Record) (b : Batch) (J : List Record) (lane : ℕ) → is_of b r ≡ true → (b.lane == lane) ≡ false → slot (r ∷ J) lane ≡ slot J lane
other_slots r b J lane h apart = slot_stays r J lane (lanes_apart b.lane lane r (λ first. not_of_first r b first h) (of_in_lane b r h) apart)

-- a journal that stays or grows by a record that is no Prepare
pub data Grows (J I : List Record) : Type 0 where
  as_is : I ≡ J → Grows J I
  by_one : (r : Record) → IsNoPrepare r → I ≡ r ∷ J → Grows J I

same_txs : (r : Record) (J : List Record) (c : Batch) → IsNoPrepare r → txs_of (r ∷ J) c ≡ txs_of J c
same_txs (Prepare stamp d txs) J c h = absurd h
same_txs other J c h = refl

more_locks : (r : Record) (J : List Record) (c : Batch) → is_some (record_of 2 J c) ≡ true → is_some (record_of 2 (r ∷ J) c) ≡ true
more_locks r J c h = elim ((kind_of r == 2) && is_of c r) as (λ t. is_some (cond t (Some r) (record_of 2 J c)) ≡ true) [ true ↦ refl | false ↦ h ]

grown_txs : (J I : List Record) (c : Batch) → Grows J I → txs_of I c ≡ txs_of J c
grown_txs J I c (as_is e) = ap (λ X. txs_of X c) e
grown_txs J I c (by_one r h e) = ap (λ X. txs_of X c) e ∙ same_txs r J c h

grown_locks : (J I : List Record) (c : Batch) → Grows J I → is_some (record_of 2 J c) ≡ true → is_some (record_of 2 I c) ≡ true
grown_locks J I c (as_is e) h = subst (λ X. is_some (record_of 2 X c) ≡ true) (sym e) h
grown_locks J I c (by_one r n e) h = subst (λ X. is_some (record_of 2 X c) ≡ true) (sym e) (more_locks r J c h)

-- each shard that a Prepare concerns has its Lock
abbrev pub AllLocked : Shape → World → Type 0
AllLocked K w = (c : Batch) → AllHave K (journals w) 2 c

pub locks_stay : (K : Shape) (old new : World) → ((n : ℕ) → Grows (journals old n) (journals new n)) → AllLocked K old → AllLocked K new
locks_stay K old new g l c s concerned = grown_locks (journals old (shard_node K s)) (journals new (shard_node K s)) c (g (shard_node K s))
    (l c s (subst (λ ts. Concerned K ts s) (grown_txs (journals old (c.lane / K.lanes)) (journals new (c.lane / K.lanes)) c (g (c.lane / K.lanes)))
    concerned))

module _ (K : Shape) (minting : Minted) (P : Compact → Type 0) (shards : 0 < K.shards) where
  -- a kept world whose nodes are all up with nothing in flight, and whose stamps are at most this
  pub record Open (top : ℕ) (w : World) : Type 0 where
    pub kept : SteadyWorld K minting P w
    pub size : length w ≡ K.coordinators + K.shards
    pub up : (n : ℕ) → n < length w → (node_at w n).up ≡ true
    pub quiet : (n : ℕ) → n < length w → (node_at w n).flight ≡ None
    pub low : (n : ℕ) → last_stamp (journals w n) ≤ top

  -- the slots of other lanes are as they were
  abbrev pub Others : ℕ → World → World → Type 0
  Others lane old new = (n other : ℕ) → (lane == other) ≡ false → slot (journals new n) other ≡ slot (journals old n) other

  -- events without a new Prepare lead to an open world
  pub record Goes (top lane : ℕ) (old : World) (Q : World → Type 0) : Type 0 where
    pub new : World
    pub events : List Event
    pub run : Run K minting old events new
    pub none : BeginNoPrepare events
    pub is_open : Open top new
    pub others : Others lane old new
    pub locks : AllLocked K old → AllLocked K new
    pub what : Q new

  pub stay : (top lane : ℕ) (w : World) (Q : World → Type 0) → Open top w → Q w → Goes top lane w Q
  stay top lane w Q o q = record {
    new = w;
    events = [];
    run = refl;
    none = tt;
    is_open = o;
    others = λ n other apart. refl;
    locks = λ l. l;
    what = q;
  }

  pub go_on : (middle top lane : ℕ) (w : World) (Q R : World → Type 0) → Goes middle lane w Q
      → ((v : World) → Open middle v → Q v → Goes top lane v R) → Goes top lane w R
  go_on middle top lane w Q R g f =
      let h = f g.new g.is_open g.what in
      record {
        new = h.new;
        events = g.events ++ h.events;
        run = run-append K minting w g.new h.new g.events h.events g.run h.run;
        none = begin-append g.events h.events g.none h.none;
        is_open = h.is_open;
        others = λ n other apart. h.others n other apart ∙ g.others n other apart;
        locks = λ l. h.locks (g.locks l);
        what = h.what;
      }

  pub weaken : (low high lane : ℕ) (w : World) (Q R : World → Type 0) → low ≤ high → Goes low lane w Q → ((v : World) → Q v → R v)
      → Goes high lane w R
  weaken low high lane w Q R le g f = record {
    new = g.new;
    events = g.events;
    run = g.run;
    none = g.none;
    is_open = record {
      kept = g.is_open.kept;
      size = g.is_open.size;
      up = g.is_open.up;
      quiet = g.is_open.quiet;
      low = λ n. omega (arith, g.is_open.low n);
    };
    others = g.others;
    locks = g.locks;
    what = f g.new g.what;
  }

  pub raise : (low high : ℕ) (w : World) → low ≤ high → Open low w → Open high w
  raise low high w le o = record { kept = o.kept; size = o.size; up = o.up; quiet = o.quiet; low = λ n. omega (arith, o.low n) }

  -- what a writing leaves
  pub record Written (w : World) (n kind : ℕ) (b : Batch) (new : World) : Type 0 where
    pub here : (r : Record) × ((((kind_of r == kind) && is_of b r) ≡ true) × (journals new n ≡ r ∷ journals w n))
    pub elsewhere : (m : ℕ) → (n == m) ≡ false → journals new m ≡ journals w m

  pub write : (top : ℕ) (w : World) (n kind : ℕ) (b : Batch) → Open top w → n < length w → Writes K minting.id P (journals w) n b kind top
      → Goes (suc top) b.lane w (Written w n kind b)
  write top w n kind b o lt q = record {
    new = ended K minting P shards w n q.r lt;
    events = Begin n q.r ∷ End n ∷ [];
    run = run_of;
    none = (q.begun, (tt, tt));
    is_open = record {
      kept = run_keeps K minting P shards w (ended K minting P shards w n q.r lt) (Begin n q.r ∷ End n ∷ []) o.kept
          (passes_of P q.r q.passes, (tt, tt)) run_of;
      size = ended_length K minting P shards w n q.r lt ∙ o.size;
      up = λ m l. elim (at_node n m) [
        | at e ↦ subst (λ k. (node_at (ended K minting P shards w n q.r lt) k).up ≡ true) e (ap (λ v. v.up) (ended_at K minting P shards w n q.r lt))
        | away e ↦ ap (λ v. v.up) (ended_away K minting P shards w n q.r lt m e) ∙ o.up m (shorter m l)
      ];
      quiet = λ m l. elim (at_node n m) [
        | at e ↦ subst (λ k. (node_at (ended K minting P shards w n q.r lt) k).flight ≡ None) e
            (ap (λ v. v.flight) (ended_at K minting P shards w n q.r lt))
        | away e ↦ ap (λ v. v.flight) (ended_away K minting P shards w n q.r lt m e) ∙ o.quiet m (shorter m l)
      ];
      low = λ m. elim (at_node n m) [
        | at e ↦ subst (λ k. last_stamp (journals (ended K minting P shards w n q.r lt) k) ≤ suc top) e
            (subst (λ J. last_stamp J ≤ suc top) (sym own) q.stamp)
        | away e ↦ subst (λ J. last_stamp J ≤ suc top) (sym (rest m e)) (let l = o.low m in omega arith)
      ];
    };
    others = λ m other apart. elim (at_node n m) [
      | at e ↦ subst (λ k. slot (journals (ended K minting P shards w n q.r lt) k) other ≡ slot (journals w k) other) e
          (ap (λ J. slot J other) own ∙ other_slots q.r b (journals w n) other (test_batch kind b q.r q.of_kind) apart)
      | away e ↦ ap (λ J. slot J other) (rest m e)
    ];
    locks = locks_stay K w (ended K minting P shards w n q.r lt) (λ m. elim (at_node n m) [
      | at e ↦ subst (λ k. Grows (journals w k) (journals (ended K minting P shards w n q.r lt) k)) e (by_one q.r q.begun own)
      | away e ↦ as_is (rest m e)
    ]);
    what = record { here = (q.r, (q.of_kind, own)); elsewhere = rest };
  }
    where
      run_of : Run K minting w (Begin n q.r ∷ End n ∷ []) (ended K minting P shards w n q.r lt)
      run_of = written K minting P shards w n q.r lt (lt, o.up n lt, o.quiet n lt) (after_of K minting.id n (journals w n) q.r q.next q.grammar)
          q.caused

      own : journals (ended K minting P shards w n q.r lt) n ≡ q.r ∷ journals w n
      own = ap (λ v. v.journal) (ended_at K minting P shards w n q.r lt)

      rest : (m : ℕ) → (n == m) ≡ false → journals (ended K minting P shards w n q.r lt) m ≡ journals w m
      rest m e = ap (λ v. v.journal) (ended_away K minting P shards w n q.r lt m e)

      shorter : (m : ℕ) → m < length (ended K minting P shards w n q.r lt) → m < length w
      shorter m l = let k : length (ended K minting P shards w n q.r lt) ≡ length w = ended_length K minting P shards w n q.r lt in omega arith

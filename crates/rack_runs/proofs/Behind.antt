-- The nodes of a ledger that was opened, and their disks behind a run.
use Rattle.std.proofs.Common.{◌≡◌, inl, inr, ℕ, zero, suc, ◌+◌, ◌-◌, ◌<◌, ◌≤◌, true, false, nat_lt, if◌then◌else◌, List, [], ◌∷◌, length, get_or}
use Rattle.std.proofs.Common.{reverse, Option, Some, None, refl, sym, ap, ◌∙◌, subst, arith}
use Rattle.std.specs.Prelude.{slice_get, All, IfSome}
use Rattle.std.proofs.lemmas.Option.{slice_get_within, slice_get-get_or}
use Rattle.std.proofs.lemmas.Bool.{cases_lt}
use Rattle.outside.specs.Counts.{Rose}
use Rattle.outside.specs.declared.disk.Disk.{Ghosts}
use Rattle.cbdc_model.specs.Records.{Shape, Header}
use Rattle.cbdc_model.specs.After.{IsJournal}
use Rattle.cbdc_model.specs.Room.{kept_room, need_of}
use Rattle.cbdc_model.specs.Due.{used_of}
use Rattle.record_log.specs.Held.{OpensToEither}
use Rattle.node_journal.specs.Nodes.{NodeOf, sight, HoldsJournal}
use Rattle.cbdc_model.specs.Sights.{Sight, HasRisen}
use Rattle.ledger_runs.specs.Faults.{HaveFailed}
use Rattle.node_ports.specs.Nodes.{sight_at}
use Rattle.rack_ledgers.specs.Places.{EachFrom, MayReturn}
use Rattle.rack_ledgers.specs.Racked.{OfTold, SameRoom}
use Rattle.rack_ledgers.specs.Ledgers.{ByPlace, AreOpened}
use Rattle.rack_laws.specs.Shown.{KeepsEach, HoldsEach}
use Rattle.rack_ledgers.specs.RefusalLaws.{AllHaveRoom}
use Rattle.cbdc_model.specs.Ranges.{node_count}
use Rattle.rack_laws.proofs.Opened.{at_place, sight_there, all_by}
use Rattle.rack_runs.specs.Works.{IsSeen, AreSeen}
use Rattle.file_runs.specs.Ledgers.{IsLedger, node_journals, flights_of, faults_of, opened_of, capacity_of, AreStored, AreQuiet}

-- nodes whose disks' counts have not fallen may be put back where those before might
pub returns : {N : Type 0} (f : N → ℕ) (can : ℕ → ℕ → Type 0) (i : ℕ) (xs ys : List N) → length ys ≡ length xs
    → ((n : ℕ) (x y : N) → slice_get xs n ≡ Some x → slice_get ys n ≡ Some y → f x ≤ f y) → EachFrom (MayReturn f can) i xs
    → EachFrom (MayReturn f can) i ys
returns f can i [] [] e le each = tt
returns f can i [] (y ∷ ys) e le each = absurd (omega (arith, e))
returns f can i (x ∷ xs) [] e le each = absurd (omega (arith, e))
returns f can i (x ∷ xs) (y ∷ ys) e le each =
    (λ k h. each.0 k (omega (arith, h, le 0 x y refl refl)), returns f can (suc i) xs ys (omega (arith, e)) (λ n a b p q. le (suc n) a b p q) each.1)

-- the item at a place has what all have
pub by_all : {N : Type 0} (P : N → Type 0) (xs : List N) → All P xs → (n : ℕ) (x : N) → slice_get xs n ≡ Some x → P x
by_all P xs all n x there =
    let inside = slice_get_within xs n x there in
    let got : slice_get xs n ≡ Some (get_or xs n x) = slice_get-get_or xs n x inside in
    let same : get_or xs n x ≡ x = cc in
    subst P same (all n x inside)

-- nothing is in flight where nothing is at any place
none_flies : {N : Type 0} (see : N → Sight) (xs : List N) → ((n : ℕ) (x : N) → slice_get xs n ≡ Some x → (see x).flight ≡ None) → (n : ℕ)
    → (sight_at see xs n).flight ≡ None
none_flies see [] each n = refl
none_flies see (x ∷ xs) each zero = each 0 x refl
none_flies see (x ∷ xs) each (suc n) = none_flies see xs (λ k y there. each (suc k) y there) n

-- ---- a node of a ledger by its number, the coordinators first

log_low : (K : Shape) (n : ℕ) → n < K.coordinators → nat_lt n K.coordinators ≡ true
log_low K n low = grind (arith, low)

shard_high : (K : Shape) (s : ℕ) → nat_lt (K.coordinators + s) K.coordinators ≡ false
shard_high K s = grind arith

shard_place : (K : Shape) (s : ℕ) → (K.coordinators + s) - K.coordinators ≡ s
shard_place K s = omega arith

module _ {D X : Type 0} (f : Sight → X) (K : Shape) (logs shards : List (NodeOf D)) where
  -- what is told of a number
  abbrev by_number : ℕ → X
  by_number n = if nat_lt n K.coordinators then f (sight_at sight logs n) else f (sight_at sight shards (n - K.coordinators))

  of_log : (n : ℕ) (l : NodeOf D) → n < K.coordinators → slice_get logs n ≡ Some l → by_number n ≡ f (sight l)
  of_log n l low there =
      ap (λ b. if b then f (sight_at sight logs n) else f (sight_at sight shards (n - K.coordinators))) (log_low K n low)
      ∙ ap f (sight_there sight logs n l there)

  of_shard : (s : ℕ) (x : NodeOf D) → slice_get shards s ≡ Some x → by_number (K.coordinators + s) ≡ f (sight x)
  of_shard s x there =
      ap (λ b. if b then f (sight_at sight logs (K.coordinators + s)) else f (sight_at sight shards ((K.coordinators + s) - K.coordinators)))
      (shard_high K s)
      ∙ (ap (λ p. f (sight_at sight shards p)) (shard_place K s)
      ∙ ap f (sight_there sight shards s x there))

module _ {D : Type 0} (K : Shape) (logs shards : List (NodeOf D)) where
  pub log_journal : (n : ℕ) (l : NodeOf D) → n < K.coordinators → slice_get logs n ≡ Some l → node_journals K logs shards n ≡ l.journal
  log_journal = of_log (λ s. s.seen) K logs shards

  pub shard_journal : (s : ℕ) (x : NodeOf D) → slice_get shards s ≡ Some x → node_journals K logs shards (K.coordinators + s) ≡ x.journal
  shard_journal = of_shard (λ s. s.seen) K logs shards

  -- what the ledger tells of a number is so of this node
  pub record IsThere (n : ℕ) (x : NodeOf D) : Type 0 where
    pub journal : node_journals K logs shards n ≡ x.journal
    pub flight : flights_of K logs shards n ≡ x.flight
    pub faults : faults_of K logs shards n ≡ x.faults
    pub opened : opened_of K logs shards n ≡ x.opened
    pub capacity : capacity_of K logs shards n ≡ x.capacity

  log_there : (n : ℕ) (l : NodeOf D) → n < K.coordinators → slice_get logs n ≡ Some l → IsThere n l
  log_there n l low there = record {
    journal = of_log (λ s. s.seen) K logs shards n l low there;
    flight = of_log (λ s. s.flight) K logs shards n l low there;
    faults = of_log (λ s. s.faults) K logs shards n l low there;
    opened = of_log (λ s. s.opened) K logs shards n l low there;
    capacity = of_log (λ s. s.capacity) K logs shards n l low there;
  }

  shard_there : (s : ℕ) (x : NodeOf D) → slice_get shards s ≡ Some x → IsThere (K.coordinators + s) x
  shard_there s x there = record {
    journal = of_shard (λ s. s.seen) K logs shards s x there;
    flight = of_shard (λ s. s.flight) K logs shards s x there;
    faults = of_shard (λ s. s.faults) K logs shards s x there;
    opened = of_shard (λ s. s.opened) K logs shards s x there;
    capacity = of_shard (λ s. s.capacity) K logs shards s x there;
  }

  -- each number of the ledger has a node, which has what all coordinators and all shards have at their places
  pub node_there : length logs ≡ K.coordinators → length shards ≡ K.shards → (P : ℕ → NodeOf D → Type 0) → ByPlace P logs
      → ByPlace (λ s x. P (K.coordinators + s) x) shards
      → (n : ℕ) → n < node_count K → (x : NodeOf D) × P n x × IsThere n x
  node_there logs_are shards_are P log shard n inside = elim (cases_lt n K.coordinators) [
    | inl low ↦ let l = at_place logs n (omega (arith, low, logs_are)) in (l.0, log n l.0 l.1, log_there n l.0 low l.1)
    | inr high ↦
        let place : K.coordinators + (n - K.coordinators) ≡ n = omega (arith, high) in
        let x = at_place shards (n - K.coordinators) (omega (arith, high, inside, shards_are)) in (
          x.0,
          subst (λ k. P k x.0) place (shard (n - K.coordinators) x.0 x.1),
          subst (λ k. IsThere k x.0) place (shard_there (n - K.coordinators) x.0 x.1),
        )
  ]

  -- nodes that were opened have nothing in flight anywhere
  pub none_fly : AreQuiet logs shards → (n : ℕ) → flights_of K logs shards n ≡ None
  none_fly quiet n = go (nat_lt n K.coordinators)
    where
      go : (b : _) → (if b then (sight_at sight logs n).flight else (sight_at sight shards (n - K.coordinators)).flight) ≡ None
      go true = quiet.logs_are n
      go false = quiet.shards_are (n - K.coordinators)

module _ {D : Type 0} (device : Ghosts D) where
  -- opened nodes have nothing in flight
  pub are_quiet : (held : ℕ → Option D) (h : Header) (logs shards : List (NodeOf D)) → AreOpened device held h logs shards → AreQuiet logs shards
  are_quiet held h logs shards are = record {
    logs_are = none_flies sight logs (λ n l there. (are.logs_at n l there).flight);
    shards_are = none_flies sight shards (λ s x there. (are.shards_at s x there).flight);
  }

  -- opened nodes are a ledger's
  pub is_ledger : (held : ℕ → Option D) (h : Header) (logs shards : List (NodeOf D)) → AreOpened device held h logs shards → IsLedger h logs shards
  is_ledger held h logs shards are = record {
    limits = are.limits;
    coordinators = are.coordinators;
    shards_are = are.shards_are;
    log_headers = λ n low.
        let l = at_place logs n (omega (arith, low, are.coordinators)) in
        ap (λ s. s.header) (sight_there sight logs n l.0 l.1) ∙ (are.logs_at n l.0 l.1).header;
    shard_headers = λ s low.
        let x = at_place shards s (omega (arith, low, are.shards_are)) in
        ap (λ t. t.header) (sight_there sight shards s x.0 x.1) ∙ (are.shards_at s x.0 x.1).header;
    log_journals = all_by (λ l. IsJournal l.header l.journal) logs (λ n l there. (are.logs_at n l there).journal);
    shard_journals = all_by (λ s. IsJournal s.header s.journal) shards (λ n s there. (are.shards_at n s there).journal);
  }

  module _ (held : ℕ → Option D) (h : Header) (logs now shards after : List (NodeOf D)) (are : AreOpened device held h logs shards)
      (g : Header) (shape : g.shape ≡ h.shape) (is : IsLedger g now after) where
    logs_stay : length now ≡ h.shape.coordinators
    logs_stay = is.coordinators ∙ ap (λ k. k.coordinators) shape

    shards_stay : length after ≡ h.shape.shards
    shards_stay = is.shards_are ∙ ap (λ k. k.shards) shape

    module _ (later : (n : ℕ) → faults_of h.shape logs shards n ≤ faults_of h.shape now after n) (seen : AreSeen device now after) where
      -- no disk has failed less often, by the node's number
      not_less : (n : ℕ) (x y : NodeOf D) → x.faults ≡ device.count x.disk → y.faults ≡ device.count y.disk
          → faults_of h.shape logs shards n ≡ x.faults → faults_of h.shape now after n ≡ y.faults
          → device.count x.disk ≤ device.count y.disk
      not_less n x y x_is y_is a b = omega (arith, x_is, y_is, a, b, later n)

      -- the coordinators' disks may be put back
      pub logs_return : (can : ℕ → ℕ → Type 0) → EachFrom (MayReturn (λ x. device.count x.disk) can) 0 logs
          → EachFrom (MayReturn (λ x. device.count x.disk) can) 0 now
      logs_return can each = returns (λ x. device.count x.disk) can 0 logs now (logs_stay ∙ sym are.coordinators)
          (λ n x y p q.
          let low : n < h.shape.coordinators = omega (arith, slice_get_within logs n x p, are.coordinators) in
          not_less n x y (are.logs_at n x p).faults (by_all (IsSeen device) now seen.logs_are n y q).faults
          (of_log (λ s. s.faults) h.shape logs shards n x low p) (of_log (λ s. s.faults) h.shape now after n y low q))
          each

      -- and the shards'
      pub shards_return : (can : ℕ → ℕ → Type 0) → EachFrom (MayReturn (λ x. device.count x.disk) can) (length logs) shards
          → EachFrom (MayReturn (λ x. device.count x.disk) can) (length now) after
      shards_return can each =
          subst (λ k. EachFrom (MayReturn (λ x. device.count x.disk) can) k after) (are.coordinators ∙ sym logs_stay)
          (returns (λ x. device.count x.disk) can (length logs) shards after (shards_stay ∙ sym are.shards_are)
          (λ s x y p q.
          not_less (h.shape.coordinators + s) x y (are.shards_at s x p).faults (by_all (IsSeen device) after seen.shards_are s y q).faults
          (of_shard (λ s. s.faults) h.shape logs shards s x p) (of_shard (λ s. s.faults) h.shape now after s y q))
          each)

  -- ---- disks that are back

  -- a node whose disk is back, and what is known of it
  record IsPutBack (held : ℕ → Option D) (P : NodeOf D → Type 0) (n : ℕ) (x : NodeOf D) : Type 0 where
    back : OfTold (held n) (λ d. d ≡ x.disk)
    has : P x

  module _ (held : ℕ → Option D) (h : Header) (logs shards : List (NodeOf D)) (is : IsLedger h logs shards)
      (logs_back : ByPlace (λ n l. OfTold (held n) (λ d. d ≡ l.disk)) logs)
      (shards_back : ByPlace (λ s x. OfTold (held (length logs + s)) (λ d. d ≡ x.disk)) shards) where
    -- the node of a number, with its disk back there
    put_back : (P : NodeOf D → Type 0) → All P logs → All P shards → (n : ℕ) → n < node_count h.shape
        → (x : NodeOf D) × IsPutBack held P n x × IsThere h.shape logs shards n x
    put_back P log_has shard_has = node_there h.shape logs shards is.coordinators is.shards_are (IsPutBack held P)
        (λ n l there. record { back = logs_back n l there; has = by_all P logs log_has n l there })
        (λ s x there. record {
          back = subst (λ k. OfTold (held (k + s)) (λ d. d ≡ x.disk)) is.coordinators (shards_back s x there);
          has = by_all P shards shard_has s x there;
        })

    -- disks that are back keep the journals, with the record that is in flight at their nodes, or without
    pub keeps_flights : AreStored device logs shards
        → (n : ℕ) → n < node_count h.shape → OfTold (held n)
        (λ d. (c : List ℕ) → device.images d c → OpensToEither (reverse (node_journals h.shape logs shards n)) (flights_of h.shape logs shards n)
        c)
    keeps_flights stored n inside d told c image =
        let x = put_back (HoldsJournal device) stored.logs_are stored.shards_are n inside in
        subst (λ o. OpensToEither (reverse (node_journals h.shape logs shards n)) o c) (sym x.2.flight)
        (subst (λ J. OpensToEither (reverse J) x.0.flight c) (sym x.2.journal)
        (x.1.has.each c (subst (λ y. device.images y c) (x.1.back d told) image)))

    pub keeps_each : AreStored device logs shards → KeepsEach device held h.shape (node_journals h.shape logs shards)
    keeps_each stored n inside = (flights_of h.shape logs shards n, keeps_flights stored n inside)

    -- and hold nothing else, where nothing is in flight
    pub holds_each : AreStored device logs shards → AreQuiet logs shards → HoldsEach device held h.shape (node_journals h.shape logs shards)
    holds_each stored quiet n inside d told c image =
        subst (λ o. OpensToEither (reverse (node_journals h.shape logs shards n)) o c) (none_fly h.shape logs shards quiet n)
        (keeps_flights stored n inside d told c image)

    module _ (seen : AreSeen device logs shards) where
      seen_back : (n : ℕ) → n < node_count h.shape
          → (x : NodeOf D) × IsPutBack held (λ x. IsSeen device x × (x.header.shape ≡ h.shape)) n x × IsThere h.shape logs shards n x
      seen_back = node_there h.shape logs shards is.coordinators is.shards_are (IsPutBack held (λ x. IsSeen device x × (x.header.shape ≡ h.shape)))
          (λ n l there.
          let low : n < h.shape.coordinators = omega (arith, slice_get_within logs n l there, is.coordinators) in
          record {
            back = logs_back n l there;
            has = (
              by_all (IsSeen device) logs seen.logs_are n l there,
              ap (λ s. s.header.shape) (sym (sight_there sight logs n l there)) ∙ ap (λ k. k.shape) (is.log_headers n low),
            );
          })
          (λ s x there.
          let low : s < h.shape.shards = omega (arith, slice_get_within shards s x there, is.shards_are) in
          record {
            back = subst (λ k. OfTold (held (k + s)) (λ d. d ≡ x.disk)) is.coordinators (shards_back s x there);
            has = (
              by_all (IsSeen device) shards seen.shards_are s x there,
              ap (λ t. t.header.shape) (sym (sight_there sight shards s x there)) ∙ ap (λ k. k.shape) (is.shard_headers s low),
            );
          })

      -- disks that are back have room for what is kept for their open batches
      pub rooms_each : AllHaveRoom device held h.shape (node_journals h.shape logs shards)
      rooms_each n inside d told =
          let x = seen_back n inside in
          let s = x.1.has.0 in
          let own : used_of x.0.journal + kept_room h.shape x.0.journal ≤ x.0.capacity =
          subst (λ k. used_of x.0.journal + kept_room k x.0.journal ≤ x.0.capacity) x.1.has.1 s.room in
          let size : x.0.capacity ≡ device.limit d = s.capacity ∙ ap device.limit (sym (x.1.back d told)) in
          subst (λ J. used_of J + kept_room h.shape J ≤ device.limit d) (sym x.2.journal)
          (subst (λ m. used_of x.0.journal + kept_room h.shape x.0.journal ≤ m) size own)

      -- and what is in flight had room
      pub fits_each : (n : ℕ) → n < node_count h.shape
          → OfTold (held n) (λ d. IfSome (flights_of h.shape logs shards n)
          (λ r. used_of (node_journals h.shape logs shards n) + need_of h.shape (node_journals h.shape logs shards n) r ≤ device.limit d))
      fits_each n inside d told =
          let x = seen_back n inside in
          let s = x.1.has.0 in
          let own : IfSome x.0.flight (λ r. used_of x.0.journal + need_of h.shape x.0.journal r ≤ x.0.capacity) =
          subst (λ k. IfSome x.0.flight (λ r. used_of x.0.journal + need_of k x.0.journal r ≤ x.0.capacity)) x.1.has.1 s.fits in
          let size : x.0.capacity ≡ device.limit d = s.capacity ∙ ap device.limit (sym (x.1.back d told)) in
          subst (λ f. IfSome f (λ r. used_of (node_journals h.shape logs shards n) + need_of h.shape (node_journals h.shape logs shards n) r
          ≤ device.limit d)) (sym x.2.flight)
          (subst (λ J. IfSome x.0.flight (λ r. used_of J + need_of h.shape J r ≤ device.limit d)) (sym x.2.journal)
          (subst (λ m. IfSome x.0.flight (λ r. used_of x.0.journal + need_of h.shape x.0.journal r ≤ m)) size own))

  -- what all disks told is stored
  pub told_stored : (held : ℕ → Option D) (h : Header) (logs shards : List (NodeOf D)) → AreOpened device held h logs shards
      → ((n : ℕ) → n < node_count h.shape → (d : D) × (held n ≡ Some d) × ((c : List ℕ) × (device.content d ≡ Some c))) → AreStored device logs shards
  told_stored held h logs shards are tells = record {
    logs_are = all_by (HoldsJournal device) logs (λ n l there.
        let t = tells n (omega (arith, slice_get_within logs n l there, are.coordinators)) in
        (((are.logs_at n l there).opened t.0 t.1).stands t.2.0 t.2.1).1);
    shards_are = all_by (HoldsJournal device) shards (λ s x there.
        let t = tells (h.shape.coordinators + s) (omega (arith, slice_get_within shards s x there, are.shards_are)) in
        (((are.shards_at s x there).opened t.0 t.1).stands t.2.0 t.2.1).1);
  }

  -- a node may hold what its disk may that was told
  pub may_hold : (held : ℕ → Option D) (h : Header) (logs shards : List (NodeOf D)) → AreOpened device held h logs shards
      → (n c : ℕ) → n < node_count h.shape → c ≡ capacity_of h.shape logs shards n → OfTold (held n) (λ d. c ≡ device.limit d)
  may_hold held h logs shards are n c inside is d told =
      let x = node_there h.shape logs shards are.coordinators are.shards_are (λ k x. OfTold (held k) (λ d. x.capacity ≡ device.limit d))
      (λ k l there. let own = are.logs_at k l there in λ d told. own.capacity ∙ (own.opened d told).read.room)
      (λ s x there. let own = are.shards_at s x there in λ d told. own.capacity ∙ (own.opened d told).read.room) n inside in
      is ∙ x.2.capacity ∙ x.1 d told

  -- a disk that is back behind a run has as much room as the one that was told there
  pub rooms_same : (held back : ℕ → Option D) (h : Header) (logs now shards after : List (NodeOf D)) → AreOpened device held h logs shards
      → (g : Header) → g.shape ≡ h.shape → IsLedger g now after → AreSeen device now after
      → ByPlace (λ n l. OfTold (back n) (λ d. d ≡ l.disk)) now → ByPlace (λ s x. OfTold (back (length now + s)) (λ d. d ≡ x.disk)) after
      → ((n : ℕ) → capacity_of h.shape now after n ≡ capacity_of h.shape logs shards n)
      → (n : ℕ) → n < node_count h.shape → SameRoom device (held n) (back n)
  rooms_same held back h logs now shards after are g shape is seen logs_back shards_back same n inside was told d is_now =
      let y = put_back back g now after is logs_back shards_back (IsSeen device) seen.logs_are seen.shards_are n
      (subst (λ k. n < node_count k) (sym shape) inside) in
      let now_is : capacity_of h.shape now after n ≡ y.0.capacity = ap (λ k. capacity_of k now after n) (sym shape) ∙ y.2.capacity in
      ap device.limit (y.1.back d is_now) ∙ sym y.1.has.capacity ∙ sym now_is ∙ same n
      ∙ may_hold held h logs shards are n (capacity_of h.shape logs shards n) inside refl was told

  -- a count that had not fallen before it rose
  rose_by : (opened faults before behind : ℕ) → HasRisen opened faults → before ≤ opened → faults ≤ behind → Rose before behind
  rose_by opened faults before behind rose earlier later = omega (arith, rose, earlier, later)

  -- a disk that has failed since its node was opened has failed since the call began
  pub have_risen : (held : ℕ → Option D) (h : Header) (logs now shards after : List (NodeOf D)) → AreOpened device held h logs shards
      → (g : Header) → g.shape ≡ h.shape → IsLedger g now after → AreSeen device now after → (before behind : ℕ → ℕ)
      → ByPlace (λ n l. before n ≤ device.count l.disk) logs → ByPlace (λ s x. before (h.shape.coordinators + s) ≤ device.count x.disk) shards
      → ByPlace (λ n l. device.count l.disk ≤ behind n) now → ByPlace (λ s x. device.count x.disk ≤ behind (length now + s)) after
      → (n : ℕ) → n < node_count h.shape → HaveFailed (opened_of h.shape logs shards) (faults_of h.shape now after) n → Rose (before n) (behind n)
  have_risen held h logs now shards after are g shape is seen before behind logs_since shards_since logs_counted shards_counted n inside rose =
      let logs_are : length now ≡ h.shape.coordinators = logs_stay held h logs now shards after are g shape is in
      let shards_are : length after ≡ h.shape.shards = shards_stay held h logs now shards after are g shape is in
      let x = node_there h.shape logs shards are.coordinators are.shards_are (λ k x. before k ≤ x.opened)
      (λ k l there. let own = are.logs_at k l there in subst (λ m. before k ≤ m) (sym (own.since ∙ own.faults)) (logs_since k l there))
      (λ s x there. let own = are.shards_at s x there in
      subst (λ m. before (h.shape.coordinators + s) ≤ m) (sym (own.since ∙ own.faults)) (shards_since s x there)) n inside in
      let y = node_there h.shape now after logs_are shards_are (λ k y. y.faults ≤ behind k)
      (λ k l there. subst (λ m. m ≤ behind k) (sym (by_all (IsSeen device) now seen.logs_are k l there).faults) (logs_counted k l there))
      (λ s x there. subst (λ m. m ≤ behind (h.shape.coordinators + s)) (sym (by_all (IsSeen device) after seen.shards_are s x there).faults)
      (subst (λ c. device.count x.disk ≤ behind (c + s)) logs_are (shards_counted s x there))) n inside in
      rose_by (opened_of h.shape logs shards n) (faults_of h.shape now after n) (before n) (behind n) rose
      (subst (λ m. before n ≤ m) (sym x.2.opened) x.1) (subst (λ m. m ≤ behind n) (sym y.2.faults) y.1)

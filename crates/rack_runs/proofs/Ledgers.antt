-- The ledger that a rack showed, behind a run.
use Rattle.std.proofs.Common.{◌≡◌, ◌⊎◌, ◌∷◌, ℕ, ◌+◌, ◌<◌, ◌≤◌, inl, inr, List, [], ◌++◌, length, reverse, Option, Some, None, refl, sym, ap, ◌∙◌}
use Rattle.std.proofs.Common.{subst}
use Rattle.std.proofs.lemmas.List.{append-nil}
use Rattle.cbdc_types.specs.Limits.{IsWithinLimits}
use Rattle.cbdc_model.specs.Records.{Shape, Header, Record}
use Rattle.cbdc_model.specs.Coins.{Output, FullTx, genesis_id}
use Rattle.cbdc_model.specs.Clean.{Clean, IsProperCompact}
use Rattle.cbdc_model.specs.History.{minted, header_of}
use Rattle.cbdc_model.specs.Lanes.{IsEnd}
use Rattle.cbdc_model.specs.World.{KeptJournals}
use Rattle.cbdc_model.specs.Room.{kept_room, need_of}
use Rattle.cbdc_model.specs.Due.{used_of}
use Rattle.cbdc_model.specs.Headline.{Headline}
use Rattle.ledger_laws.proofs.Cuts.{end_trans}
use Rattle.ledger_laws.proofs.Ledger.{steady}
use Rattle.ledger_laws.proofs.Recovery.{idle_law}
use Rattle.ledger_laws.proofs.FirstJournals.{never_empty}
use Rattle.run_laws.specs.Flights.{MayCome}
use Rattle.run_laws.proofs.Rests.{none_beyond}
use Rattle.record_log.specs.Held.{OpensToEither}
use Rattle.node_journal.specs.Nodes.{NodeOf}
use Rattle.rack_ledgers.specs.Ledgers.{ByPlace, AreOpened}
use Rattle.rack_ledgers.specs.Racked.{OfTold}
use Rattle.rack_laws.specs.Shown.{Shows, OfShown, KeepsEach, HoldsEach, OpenTo}
use Rattle.rack_ledgers.specs.RefusalLaws.{AllHaveRoom}
use Rattle.cbdc_model.specs.Ranges.{node_count}
use Rattle.rack_laws.proofs.Opened.{same_shape, same_journals, logs_held, shards_held}
use Rattle.rack_runs.proofs.Behind.{node_there, are_quiet, none_fly, keeps_each, keeps_flights, holds_each, rooms_each, fits_each}
use Rattle.rack_laws.proofs.Rooms.{room_behind}
use Rattle.rack_laws.proofs.Crashed.{crashed}
use Rattle.ledger_runs.specs.Turning.{OfKept, StaysKept}
use Rattle.file_runs.specs.Ledgers.{IsLedger, node_journals, flights_of, AreStored, AreQuiet}
use Rattle.submissions.specs.Checks.{VerdictsOf}
use Rattle.ledger_runs.specs.Flying.{AllMayCome}
use Rattle.file_runs.specs.Runs.{joined, FliesWith}
use Rattle.rack_runs.specs.Endings.{IsInOrder}
use Rattle.rack_runs.specs.Runs.{IsGrown, IsRun, IsRecovery, IsCutShort}
use Rattle.printed_lines.specs.Unspent.{IsUnspentCount}
use Rattle.recovery.specs.declared.resumed.ResumedBatch.{ResumedBatch}
use Rattle.rack_runs.specs.Telling.{CountAll}
use Rattle.rack_runs.specs.declared.told.Told.{Told}
use Rattle.rack_runs.specs.Works.{Deed, AllWell, AreSeen, HasEndedWork}
use Rattle.rack_runs.proofs.Unspent.{unspent_counted}
use Rattle.std.specs.Prelude.{map, IfSome}
use Rattle.outside.specs.declared.disk.Disk.{Ghosts}

-- kept journals have nothing beyond the ledger's nodes
pub beyond : (K : Shape) (mint : List Output) (submissions : List FullTx) (E : ℕ → List Record) → KeptJournals K mint submissions E → (n : ℕ)
    → node_count K ≤ n → E n ≡ []
beyond K mint submissions E kept n le =
    sym (kept.history.journals_are n) ∙ none_beyond K (minted mint) (IsProperCompact submissions) kept.later
    (steady K (minted mint) (IsProperCompact submissions) kept.later kept.kept) n le

-- a crash leaves a node's journal, or that with what was in flight there
abbrev pub LandsOrNot : Shape → List Output → List FullTx → (ℕ → List Record) → (ℕ → Option Record) → ℕ → List Record → Type 0
LandsOrNot K mint submissions J flights n now = (now ≡ J n)
    ⊎ ((r : Record) × (now ≡ r ∷ J n) × MayCome K mint submissions J n r × (flights n ≡ Some r))

-- for which there was room, and for what is kept then
landed_room : (K : Shape) (mint : List Output) (submissions : List FullTx) (J : ℕ → List Record) (flights : ℕ → Option Record) (n : ℕ)
    (now : List Record) (limit : ℕ) → n < node_count K → KeptJournals K mint submissions J
    → used_of (J n) + kept_room K (J n) ≤ limit → IfSome (flights n) (λ r. used_of (J n) + need_of K (J n) r ≤ limit)
    → LandsOrNot K mint submissions J flights n now → used_of now + kept_room K now ≤ limit
landed_room K mint submissions J flights n now limit inside kept room fits (inl e) = subst (λ L. used_of L + kept_room K L ≤ limit) (sym e) room
landed_room K mint submissions J flights n now limit inside kept room fits (inr (r, e, may, flies)) =
    subst (λ L. used_of L + kept_room K L ≤ limit) (sym e)
    (room_behind (header_of K (minted mint).id n) (J n) r limit
    (λ none. never_empty K (minted mint) kept.later n inside (kept.history.journals_are n ∙ none)) may.after room
    (subst (λ o. IfSome o (λ q. used_of (J n) + need_of K (J n) q ≤ limit)) flies fits))

has_room : (K : Shape) (J : List Record) (S : Shape) (capacity limit : ℕ) → S ≡ K → capacity ≡ limit → used_of J + kept_room S J ≤ capacity
    → used_of J + kept_room K J ≤ limit
has_room K J S capacity limit shape size room = subst (λ m. used_of J + kept_room K J ≤ m) size
    (subst (λ k. used_of J + kept_room k J ≤ capacity) shape room)

module _ {D Done : Type 0} (device : Ghosts D) (held back : ℕ → Option D) (h g : Header)
    (logs now : List (NodeOf D)) (shards after : List (NodeOf D)) (deed : Deed Done)
    (are : AreOpened device held h logs shards) (is : IsLedger g now after) (shape : g.shape ≡ h.shape)
    (logs_back : ByPlace (λ n l. OfTold (back n) (λ d. d ≡ l.disk)) now)
    (shards_back : ByPlace (λ s x. OfTold (back (length now + s)) (λ d. d ≡ x.disk)) after)
    (stored : AreStored device logs shards → AreStored device now after) where
  -- what is in flight had room, by journals
  abbrev pub HaveFit : Shape → (ℕ → List Record) → (ℕ → Option Record) → Type 0
  HaveFit K J F = (n : ℕ) → n < node_count K → OfTold (back n) (λ d. IfSome (F n) (λ r. used_of (J n) + need_of K (J n) r ≤ device.limit d))

  -- what a run says of its journals, by the shape
  abbrev pub KeepsIt : Shape → Type 0
  KeepsIt S = OfKept S (node_journals S logs shards)
      (λ mint submissions. StaysKept S (node_journals S logs shards) (node_journals S now after) mint (submissions ++ joined deed.handed))

  abbrev pub WellIt : List ResumedBatch → Done → Shape → Type 0
  WellIt resumed done S = AllWell deed S (node_journals S logs shards) (node_journals S now after) resumed done

  abbrev pub FliesIt : Shape → Type 0
  FliesIt S = OfKept S (node_journals S logs shards)
      (FliesWith S (joined deed.handed) (node_journals S logs shards) (node_journals S now after) (flights_of S logs shards) (flights_of S now after))

  abbrev pub OrdersIt : Shape → Type 0
  OrdersIt S = IsInOrder S (node_journals S logs shards) (node_journals S now after)

  -- each disk that was told had room for its journal and for what is kept for its open batches
  pub opened_room : AllHaveRoom device held h.shape (node_journals h.shape logs shards)
  opened_room n inside was told =
      let HasRoom : ℕ → NodeOf D → Type 0 = λ k x. OfTold (held k) (λ was. used_of x.journal + kept_room h.shape x.journal ≤ device.limit was) in
      let x = node_there h.shape logs shards are.coordinators are.shards_are HasRoom
      (λ k l there. let own = are.logs_at k l there in
      λ was told. has_room h.shape l.journal l.header.shape l.capacity (device.limit was) (ap (λ k. k.shape) own.header)
      (own.capacity ∙ (own.opened was told).read.room) own.room)
      (λ s x there. let own = are.shards_at s x there in
      λ was told. has_room h.shape x.journal x.header.shape x.capacity (device.limit was) (ap (λ k. k.shape) own.header)
      (own.capacity ∙ (own.opened was told).read.room) own.room)
      n inside in
      subst (λ (J : List Record). used_of J + kept_room h.shape J ≤ device.limit was) (sym x.2.journal) (x.1 was told)

  module _ (K : Shape) (mint : List Output) (submissions : List FullTx) (E : ℕ → List Record) (within : IsWithinLimits K)
      (shows : Shows device held K (genesis_id mint) E) (kept : KeptJournals K mint submissions E) where
    shape_is : h.shape ≡ K
    shape_is = same_shape device held h logs shards are K (genesis_id mint) E within shows

    journals_are : node_journals K logs shards ≡ E
    journals_are = λ i n. same_journals device held h logs shards are K (genesis_id mint) E within shows (beyond K mint submissions E kept) n i

    kept_there : KeptJournals K mint submissions (node_journals K logs shards)
    kept_there = subst (KeptJournals K mint submissions) (sym journals_are) kept

    is_stored : AreStored device now after
    is_stored = stored (record {
      logs_are = logs_held device held h logs shards are K (genesis_id mint) E within shows;
      shards_are = shards_held device held h logs shards are K (genesis_id mint) E within shows;
    })

    disks_keep : KeepsEach device back K (node_journals K now after)
    disks_keep = subst (λ k. KeepsEach device back k (node_journals k now after)) (shape ∙ shape_is)
        (keeps_each device back g now after is logs_back shards_back is_stored)

    disks_hold : AreQuiet now after → HoldsEach device back K (node_journals K now after)
    disks_hold quiet = subst (λ k. HoldsEach device back k (node_journals k now after)) (shape ∙ shape_is)
        (holds_each device back g now after is logs_back shards_back is_stored quiet)

    disks_fly : (n : ℕ) → n < node_count K → OfTold (back n)
        (λ d. (c : List ℕ) → device.images d c → OpensToEither (reverse (node_journals K now after n)) (flights_of K now after n) c)
    disks_fly = subst (λ k. (n : ℕ) → n < node_count k
        → OfTold (back n) (λ d. (c : List ℕ) → device.images d c
        → OpensToEither (reverse (node_journals k now after n)) (flights_of k now after n) c))
        (shape ∙ shape_is) (keeps_flights device back g now after is logs_back shards_back is_stored)

    rooms_there : AreSeen device now after → AllHaveRoom device back K (node_journals K now after)
    rooms_there seen = subst (λ k. AllHaveRoom device back k (node_journals k now after)) (shape ∙ shape_is)
        (rooms_each device back g now after is logs_back shards_back seen)

    -- nothing was in flight at entry
    may_come : FliesIt h.shape → AllMayCome K mint (submissions ++ joined deed.handed) (node_journals K now after) (flights_of K now after)
    may_come flies = subst FliesIt shape_is flies mint submissions kept_there (λ n r there.
        absurd (let none : flights_of K logs shards n ≡ None = none_fly K logs shards (are_quiet device held h logs shards are) n in
        let z : None ≡ Some r = sym none ∙ there in cc))

    is_grown : KeepsIt h.shape → IsGrown K mint (submissions ++ joined deed.handed) E (node_journals K now after)
    is_grown keeps =
        let a = subst KeepsIt shape_is keeps mint submissions kept_there in
        record {
          grows = λ n. subst (λ L. IsEnd (L n) (node_journals K now after n)) journals_are (a.grows n);
          kept = a.kept;
        }

    has_ended : (told : Told Done) → KeepsIt h.shape → OrdersIt h.shape → AreSeen device now after → (AreQuiet logs shards → AreQuiet now after)
        → WellIt told.resumed.items told.done h.shape → CountAll (map (λ s. s.journal) after) told.unspent
        → HasEndedWork device back deed told K mint submissions E
    has_ended told keeps orders seen quiet well counted =
        let grown = is_grown keeps in
        let w : AllWell deed K E (node_journals K now after) told.resumed.items told.done =
        subst (λ L. AllWell deed K L (node_journals K now after) told.resumed.items told.done) journals_are
        (subst (WellIt told.resumed.items told.done) shape_is well) in
        record {
          exit = node_journals K now after;
          well = w;
          grown = grown;
          disks = disks_hold (quiet (are_quiet device held h logs shards are));
          rooms = rooms_there seen;
          in_order = subst (λ L. IsInOrder K L (node_journals K now after)) journals_are (subst OrdersIt shape_is orders);
          unspent = subst (λ k. IsUnspentCount k (node_journals k now after) told.unspent) (shape ∙ shape_is)
              (unspent_counted g now after is told.unspent counted);
          headline = λ clean. idle_law K mint (submissions ++ joined deed.handed) (node_journals K now after) within.some_shard within.some_lane
              clean grown.kept w.well.idle;
        }

  pub ended : (told : Told Done) → KeepsIt h.shape → OrdersIt h.shape → AreSeen device now after → (AreQuiet logs shards → AreQuiet now after)
      → WellIt told.resumed.items told.done h.shape → CountAll (map (λ s. s.journal) after) told.unspent
      → OfShown device held (HasEndedWork device back deed told)
  ended told keeps orders seen quiet well counted K mint submissions E within shows kept =
      has_ended K mint submissions E within shows kept told keeps orders seen quiet well counted

  pub cut_short : KeepsIt h.shape → FliesIt h.shape → AreSeen device now after
      → OfShown device held (IsCutShort device back deed.handed (node_journals h.shape now after))
  cut_short keeps flies seen K mint submissions E within shows kept =
      let grown = is_grown K mint submissions E within shows kept keeps in
      let rooms = rooms_there K mint submissions E within shows kept seen in
      let fits : HaveFit K (node_journals K now after) (flights_of K now after) =
      subst (λ k. HaveFit k (node_journals k now after) (flights_of k now after)) (shape ∙ shape_is K mint submissions E within shows kept)
      (fits_each device back g now after is logs_back shards_back seen) in
      subst (λ k. IsCutShort device back deed.handed (node_journals k now after) K mint submissions E)
      (sym (shape_is K mint submissions E within shows kept)) (record {
        grown = grown;
        disks = disks_keep K mint submissions E within shows kept;
        rooms = rooms;
        crashes = λ contents left.
            let came : (X : ℕ → List Record) × OpenTo back K contents X × ((n : ℕ) → IsEnd (node_journals K now after n) (X n))
            × KeptJournals K mint (submissions ++ joined deed.handed) X
            × ((n : ℕ) → LandsOrNot K mint (submissions ++ joined deed.handed) (node_journals K now after) (flights_of K now after) n (X n))
            = crashed device back K mint (submissions ++ joined deed.handed) (node_journals K now after) (flights_of K now after)
            (may_come K mint submissions E within shows kept flies)
            (disks_fly K mint submissions E within shows kept) contents left within.some_shard grown.kept in (
              came.0,
              came.1,
              record { grows = λ n. end_trans (E n) (node_journals K now after n) (came.0 n) (grown.grows n) (came.2 n); kept = came.3 },
              λ n inside d told. landed_room K mint (submissions ++ joined deed.handed) (node_journals K now after) (flights_of K now after) n
                  (came.0 n) (device.limit d) inside grown.kept (rooms n inside d told) (fits n inside d told) (came.4 n),
            );
      })

-- a run of no files is a recovery
unfoldable pub recovered : {D : Type 0} (device : Ghosts D) (back : ℕ → Option D) (verdicts : VerdictsOf) (K : Shape) (mint : List Output)
    (submissions : List FullTx) (E : ℕ → List Record)
    → IsRun device back verdicts [] K mint submissions E → IsRecovery device back K mint submissions E
recovered device back verdicts K mint submissions E run =
    let none : submissions ++ [] ≡ submissions = append-nil submissions in
    record {
      exit = run.exit;
      grown = subst (λ s. IsGrown K mint s E run.exit) none run.grown;
      disks = run.disks;
      rooms = run.rooms;
      resumed = run.resumed refl;
      in_order = run.in_order;
      headline = λ clean. subst (λ s. Headline K mint s run.exit) none (run.headline (subst (Clean mint) (sym none) clean));
    }

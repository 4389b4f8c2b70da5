-- A submission that nothing else of its file contends with is confirmed.
use Rattle.std.proofs.Common.{◌≡◌, inl, inr, ℕ, suc, ◌+◌, ◌*◌, ◌%◌, ◌<◌, Bool, true, false, ◌&&◌, ◌==◌, List, [], ◌∷◌, ◌++◌, map, reverse, length}
use Rattle.std.proofs.Common.{Some, is_some, refl, sym, ap, ◌∙◌, subst, arith, append_assoc, append-nil, mod-lt}
use Rattle.std.specs.List.{filter, AllByRecursion}
use Rattle.std.proofs.lemmas.List.{reverse-reverse, append_cancel_right, length-append, length-map}
use Rattle.std.proofs.lemmas.List.Elements.{recursion_from_All}
use Rattle.cbdc_model.specs.Records.{Digest, Shape, Batch, Compact, Record, Row, journal, record_of, kind_of, is_of, entries_in, txs_in, txs_of}
use Rattle.cbdc_model.specs.Records.{outcomes_of, lock_of, Won, Lock, Prepare, Commit}
use Rattle.cbdc_model.specs.Status.{status, has, Unspent}
use Rattle.cbdc_model.specs.Slots.{slot, Idle}
use Rattle.cbdc_model.specs.Replies.{answered, entries}
use Rattle.cbdc_model.specs.Ranges.{home_of, shard_node, shard_of, part}
use Rattle.cbdc_model.specs.Outcomes.{reply_at, outcomes}
use Rattle.cbdc_model.specs.Coins.{FullTx, compact}
use Rattle.cbdc_model.specs.Clean.{IsProperCompact}
use Rattle.cbdc_model.specs.History.{Minted, minted, first_rows}
use Rattle.cbdc_model.specs.World.{IsUnspent}
use Rattle.cbdc_model.specs.Lanes.{IsEnd}
use Rattle.cbdc_model.specs.Waves.{share, sent_to, prepared, has_prepare, IsFileRun}
use Rattle.cbdc_model.specs.Places.{sized_onto, place_of, outcome_at, outcome_in}
use Rattle.ledger_laws.proofs.ByKind.{test_itself, some_is}
use Rattle.ledger_laws.proofs.Next.{Steady, has_lock}
use Rattle.ledger_laws.proofs.Lookups.{true_false, no_lock, number_is, number_self}
use Rattle.ledger_laws.proofs.Cuts.{cut}
use Rattle.ledger_laws.proofs.Rows.{at, away, at_node}
use Rattle.ledger_laws.proofs.Moves.{split_test, all_structure}
use Rattle.ledger_laws.proofs.Finds.{stands}
use Rattle.ledger_laws.proofs.Found.{found_grammar}
use Rattle.ledger_laws.proofs.Standing.{standing}
use Rattle.ledger_laws.proofs.Recovered.{all_dones, all_phases}
use Rattle.ledger_laws.proofs.Ledger.{steady}
use Rattle.run_laws.proofs.LastRecords.{prepare_stands, commit_stands}
use Rattle.run_laws.proofs.NewRecords.{in_journal}
use Rattle.run_laws.specs.Free.{IsAlone, lane_behind, sound_behind, IsConfirmed, FreeLaw}
use Rattle.run_laws.proofs.Sharing.{AllLack, lack_both, lack_append, got, got-append, got_here, got_elsewhere, EachLacks, each_both, got_lack, joined}
use Rattle.run_laws.proofs.Sharing.{cut_joined, Told, told_in, txs_all, size_told, prepared_told, sized_told, LiesIn, lies_in, place_found}
use Rattle.run_laws.proofs.Told.{AllTold, told_append, told_middle, told_reversed, told_turned, all_told, told_at, told_lack, txs_reversed}
use Rattle.run_laws.proofs.FreeReplies.{IsGood, good_reply, all_good, outcome_of_place, on_has}
use Rattle.run_laws.proofs.WaveRecords.{next_in, never_twice, found_at, IsNew, never_locked, of_new, unspent_until}

-- the others lack each input of the submission
each_lacks : (sound : FullTx → Bool) (t : FullTx) (x : Digest) (us : List FullTx) → has (compact t).inputs x ≡ true
    → AllByRecursion (λ u. sound u ≡ true → (x : Digest) → has (compact t).inputs x ≡ true → has (compact u).inputs x ≡ false) us
    → EachLacks sound x us
each_lacks sound t x [] h a = tt
each_lacks sound t x (u ∷ us) h a = ((λ s. a.0 s x h), each_lacks sound t x us h a.1)

module _ (K : Shape) (minting : Minted) (P : Compact → Type 0) (some : 0 < K.shards) (some_lane : 0 < K.coordinators * K.lanes) (old new : List Row)
    (kept : Steady K minting P old) (kept' : Steady K minting P new)
    (sound : FullTx → Bool) (before : List FullTx) (t : FullTx) (behind : List FullTx) (is_sound : sound t ≡ true)
    (alone : IsAlone sound t (before ++ behind)) where
  abbrev I : ℕ → List Record
  I n = journal n (old ++ first_rows K minting)

  abbrev J : ℕ → List Record
  J n = journal n (new ++ first_rows K minting)

  abbrev lanes : ℕ
  lanes = K.coordinators * K.lanes

  abbrev L : ℕ
  L = lane_behind K before

  abbrev sent : ℕ → List Compact
  sent = sent_to K sound (before ++ t ∷ behind)

  lane_lt : L < lanes
  lane_lt = mod-lt (length before) {m = lanes} some_lane

  -- what a lane gets of the submissions before this one, and of those behind it
  abbrev A : ℕ → List Compact
  A lane = got sound lanes lane 0 before

  abbrev B : ℕ → List Compact
  B lane = got sound lanes lane (suc (0 + length before)) behind

  from_none : 0 + length before ≡ length before
  from_none = omega arith

  sent_here : sent L ≡ A L ++ compact t ∷ B L
  sent_here = got-append sound lanes L 0 before (t ∷ behind)
      ∙ ap (λ l. A L ++ l) (got_here sound lanes L (0 + length before) t behind is_sound (ap (λ k. k % lanes == L) from_none ∙ number_self L))

  sent_elsewhere : (lane : ℕ) → (L == lane) ≡ false → sent lane ≡ A lane ++ B lane
  sent_elsewhere lane apart = got-append sound lanes lane 0 before (t ∷ behind)
      ∙ ap (λ l. A lane ++ l) (got_elsewhere sound lanes lane (0 + length before) t behind (ap (λ k. k % lanes == lane) from_none ∙ apart))

  spare : (x : Digest) → has (compact t).inputs x ≡ true → (lane : ℕ) → AllLack x (A lane) × AllLack x (B lane)
  spare x h lane =
      let each = each_both sound x before behind (each_lacks sound t x (before ++ behind) h (recursion_from_All _ (before ++ behind) alone)) in
      (got_lack sound x lanes lane 0 before each.0, got_lack sound x lanes lane (suc (0 + length before)) behind each.1)

  module _ (run : IsFileRun K (sent_to K sound (before ++ t ∷ behind)) I J) where
    abbrev more_at : ℕ → List Record
    more_at lane = (run.adds.grows (home_of K lane)).0

    abbrev told : ℕ → List Told
    told lane = reverse (told_in lane (more_at lane))

    joined_told : (lane : ℕ) → lane < lanes → joined (txs_all (told lane)) ≡ sent lane
    joined_told lane lt =
        let c = run.cut lane lt in
        let grown : prepared lane (J (home_of K lane)) ≡ txs_all (told_in lane (more_at lane)) ++ prepared lane (I (home_of K lane))
        = ap (prepared lane) (run.adds.grows (home_of K lane)).1 ∙ prepared_told lane (more_at lane) (I (home_of K lane)) in
        let turned : txs_all (told_in lane (more_at lane)) ≡ reverse c.0
        = append_cancel_right (txs_all (told_in lane (more_at lane))) (reverse c.0) (prepared lane (I (home_of K lane))) (sym grown ∙ c.2) in
        ap joined (txs_reversed (told_in lane (more_at lane)) ∙ ap reverse turned ∙ reverse-reverse c.0) ∙ cut_joined K.batch (sent lane) c.0 c.1

    lies : LiesIn (told L) (A L) (compact t) (B L)
    lies = lies_in (told L) (A L) (compact t) (B L) (joined_told L lane_lt ∙ sent_here)

    abbrev b : Batch
    b = lies.batch

    abbrev piece : List Compact
    piece = lies.first ++ compact t ∷ lies.last

    -- a new Prepare of the lane is of a new batch, and is found
    abbrev Q : Batch → List Compact → Type 0
    Q c txs = (c.lane ≡ L) × IsNew K minting P some old new kept kept' c × (txs_of (J (home_of K c.lane)) c ≡ txs)

    each_told : (newer back : List Record) (stamp : ℕ) (c : Batch) (txs : List Compact) → [] ++ more_at L ≡ newer ++ Prepare stamp c txs ∷ back
        → (c.lane == L) ≡ true → Q c txs
    each_told newer back stamp c txs e l =
        let at_lane : c.lane ≡ L = number_is c.lane L l in
        let is : J (home_of K L) ≡ newer ++ Prepare stamp c txs ∷ (back ++ I (home_of K L))
        = (run.adds.grows (home_of K L)).1 ∙ ap (λ m. m ++ I (home_of K L)) e ∙ append_assoc newer (Prepare stamp c txs ∷ back) (I (home_of K L)) in
        let found : record_of 6 (J (home_of K L)) c ≡ Some (Prepare stamp c txs)
        = found_at K minting P some old new kept kept' (home_of K L) 6 c newer (back ++ I (home_of K L)) (Prepare stamp c txs) is (back, refl)
        (test_itself 6 c) in (
          at_lane,
          of_new K minting P some old new kept kept' run.adds (home_of K L) newer (back ++ I (home_of K L)) (Prepare stamp c txs) c is (back, refl)
              (test_itself 6 c),
          ap (λ m. txs_of (J (home_of K m)) c) at_lane ∙ ap txs_in found,
        )

    its : Q b piece
    its = told_middle Q lies.front lies.back (b, piece)
        (subst (AllTold Q) lies.parts (told_reversed Q (told_in L (more_at L)) (all_told Q L (more_at L) [] each_told)))

    -- no other new batch spends an input of the submission
    module _ (x : Digest) (of_it : has (compact t).inputs x ≡ true) where
      abbrev G : Batch → List Compact → Type 0
      G c txs = (c ≡ b → ⊥) → AllLack x txs

      good_here : AllTold G (told L)
      good_here =
          let s = spare x of_it L in
          let front = (lack_both x (joined (txs_all lies.front)) lies.first (subst (AllLack x) lies.before s.0)).0 in
          let back = (lack_both x lies.last (joined (txs_all lies.back)) (subst (AllLack x) lies.behind s.1)).1 in
          subst (AllTold G) (sym lies.parts) (told_append G lies.front ((b, piece) ∷ lies.back) (told_lack G x lies.front (λ c txs h apart. h) front)
          ((λ apart. absurd (apart refl)), told_lack G x lies.back (λ c txs h apart. h) back))

      good_at : (lane : ℕ) → lane < lanes → AllTold G (told lane)
      good_at lane lt = elim (at_node L lane) [
        | at e ↦ subst (λ m. AllTold G (told m)) e good_here
        | away e ↦
            let s = spare x of_it lane in
            told_lack G x (told lane) (λ c txs h apart. h)
            (subst (AllLack x) (sym (joined_told lane lt ∙ sent_elsewhere lane e)) (lack_append x (A lane) (B lane) s.0 s.1))
      ]

      lacks : (c : Batch) → IsNew K minting P some old new kept kept' c → (c ≡ b → ⊥) → AllLack x (txs_of (J (home_of K c.lane)) c)
      lacks c is_new apart =
          let p = prepare_stands (J (home_of K c.lane)) c is_new.1 in
          let q = stands (J (home_of K c.lane)) 6 c is_new.1 in
          let same : q.1 ≡ Prepare p.0 c (txs_of (J (home_of K c.lane)) c) =
          some_is q.1 (Prepare p.0 c (txs_of (J (home_of K c.lane)) c)) (sym q.5 ∙ p.1) in
          let lt : c.lane < lanes = (found_grammar K minting P some new kept' (home_of K c.lane) 6 c
          (Prepare p.0 c (txs_of (J (home_of K c.lane)) c)) p.1).1.0 in
          let grows = run.adds.grows (home_of K c.lane) in
          elim (cut grows.0 (I (home_of K c.lane)) q.0 q.2 q.1 (sym grows.1 ∙ q.3)) [
            | inl f ↦ absurd (true_false (has_prepare K I c)
                (subst (λ M. is_some (record_of 6 M c) ≡ true) (sym f.1) (in_journal f.0 q.2 q.1 6 c q.4)) is_new.0)
            | inr f ↦
                let is : more_at c.lane ≡ q.0 ++ Prepare p.0 c (txs_of (J (home_of K c.lane)) c) ∷ f.back =
                f.more_is ∙ ap (λ r. q.0 ++ r ∷ f.back) same in
                told_at G c.lane q.0 f.back p.0 c (txs_of (J (home_of K c.lane)) c) (number_self c.lane)
                (subst (λ m. AllTold G (told_in c.lane m)) is (told_turned G (told_in c.lane (more_at c.lane)) (good_at c.lane lt))) apart
          ]

    -- each shard replies well
    module _ (unspent : (x : Digest) → has (compact t).inputs x ≡ true → IsUnspent K I x) (s : ℕ) where
      locked_good : (q : Record) (newer rest : List Record) → J (shard_node K s) ≡ newer ++ q ∷ rest → ((kind_of q == 2) && is_of b q) ≡ true
          → record_of 2 (J (shard_node K s)) b ≡ Some q → IsEnd (I (shard_node K s)) rest
          → IsGood (reply_at (lock_of (J (shard_node K s)) b) (length lies.first))
      locked_good (Lock stamp c es) newer rest e u found h =
          let same : c ≡ b = (split_test 2 2 c b u).1 in
          let next = next_in K minting P some old new kept kept' (shard_node K s) newer rest (Lock stamp c es) e h in
          let locked : has_lock (J (shard_node K s)) b ≡ true = ap is_some found in
          let is : lock_of (J (shard_node K s)) b ≡ es = ap entries_in found in
          let whole : entries es ≡ part K s 0 piece
          = ap entries (sym is) ∙ (all_structure K minting P some new kept').lock_part s b locked ∙ ap (part K s 0) its.2 in
          let replied : lock_of (J (shard_node K s)) b ≡ answered rest b [] (part K s 0 piece)
          = is ∙ next.4 ∙ (λ i. answered rest (same i) [] (whole i)) in
          let free : has_lock rest b ≡ true → ⊥ =
          never_twice K minting P some old new kept kept' (shard_node K s) newer rest (Lock stamp c es) 2 b e h u in
          subst (λ ls. IsGood (reply_at ls (length lies.first))) (sym replied)
          (good_reply rest b K s (compact t) (λ x on. still x (on_has K s (compact t).inputs x on) e h free) [] 0 (length lies.first) lies.first
          lies.last (omega arith)
          (λ x on. refl)
          (λ x on. (lack_both x (joined (txs_all lies.front)) lies.first
          (subst (AllLack x) lies.before (spare x (on_has K s (compact t).inputs x on).0 L).0)).1))
        where
          still : (x : Digest) → (has (compact t).inputs x ≡ true) × (shard_of K x ≡ s) → J (shard_node K s) ≡ newer ++ Lock stamp c es ∷ rest
              → IsEnd (I (shard_node K s)) rest
              → (has_lock rest b ≡ true → ⊥) → status rest x ≡ Unspent
          still x on e h free =
              unspent_until K minting P some old new kept kept' run.adds s b x (lacks x on.0) (newer ++ Lock stamp c es ∷ []) rest
              (e ∙ sym (append_assoc newer (Lock stamp c es ∷ []) rest)) h free
              (subst (λ m. status (I (shard_node K m)) x ≡ Unspent) on.1 (unspent x on.0))
      locked_good other newer rest e u found h = absurd (let z : false ≡ true = u in cc)

      good : IsGood (reply_at (lock_of (J (shard_node K s)) b) (length lies.first))
      good = elim (has_lock (J (shard_node K s)) b) as
          (λ c. has_lock (J (shard_node K s)) b ≡ c → IsGood (reply_at (lock_of (J (shard_node K s)) b) (length lies.first))) [
            | false ↦ λ c. subst (λ ls. IsGood (reply_at ls (length lies.first))) (sym (no_lock (J (shard_node K s)) b c)) tt
            | true ↦ λ c.
                let q = stands (J (shard_node K s)) 2 b c in
                let grows = run.adds.grows (shard_node K s) in
                elim (cut grows.0 (I (shard_node K s)) q.0 q.2 q.1 (sym grows.1 ∙ q.3)) [
                  | inl f ↦ absurd (never_locked K minting P some old new kept kept' b (shard_node K s) its.1
                      (subst (λ M. has_lock M b ≡ true) (sym f.1) (in_journal f.0 q.2 q.1 2 b q.4)))
                  | inr f ↦ locked_good q.1 q.0 q.2 q.3 q.4 q.5 (f.back, f.rest_is)
                ]
          ] refl

    -- and so it is committed
    won : ((x : Digest) → has (compact t).inputs x ≡ true → IsUnspent K I x)
        → outcome_in (J (home_of K L)) (record { batch = b; at = length lies.first }) ≡ Some Won
    won unspent =
        let idle : (slot (J (home_of K b.lane)) b.lane).phase ≡ Idle =
        subst (λ l. (slot (J (home_of K l)) l).phase ≡ Idle) (sym its.0) (run.idle L lane_lt) in
        let done = (all_dones K minting P some new kept' (home_of K b.lane)).idle_done b its.1.1 idle in
        let c = commit_stands (J (home_of K b.lane)) b ((all_phases K minting P some new kept' (home_of K b.lane)).done_prepared b done).1 in
        let os = (standing K minting P some new kept' (home_of K b.lane) 7 b (Commit c.0 b (outcomes_of (J (home_of K b.lane)) b)) c.1).2 in
        ap (λ l. outcome_at (outcomes_of (J (home_of K l)) b) (length lies.first)) (sym its.0)
        ∙ ap (λ o. outcome_at o (length lies.first)) (os ∙ ap (outcomes (λ s. lock_of (J (shard_node K s)) b) K.shards 0) its.2)
        ∙ outcome_of_place (λ s. lock_of (J (shard_node K s)) b) K.shards 0 (length lies.first) (length lies.first) lies.first lies.last (compact t)
        refl (omega arith)
        ∙ ap (λ o. Some o) (all_good (λ s. lock_of (J (shard_node K s)) b) (length lies.first) 0 K.shards (λ s lt. good unspent s))

    placed : (more : List Record) → J (home_of K L) ≡ more ++ I (home_of K L)
        → place_of (sized_onto L more []) (sound_behind K sound before) ≡ Some (record { batch = b; at = length lies.first })
    placed more is =
        let same : more ≡ more_at L = append_cancel_right more (more_at L) (I (home_of K L)) (sym is ∙ (run.adds.grows (home_of K L)).1) in
        let sizes : sized_onto L more [] ≡ map size_told (lies.front ++ (b, piece) ∷ lies.back)
        = ap (λ m. sized_onto L m []) same ∙ sized_told L (more_at L) [] ∙ append-nil (map size_told (told L)) ∙ ap (map size_told) lies.parts in
        ap (λ ss. place_of ss (sound_behind K sound before)) sizes
        ∙ place_found lies.front b piece lies.back (length lies.first) (sound_behind K sound before)
        (omega (arith, length-append lies.first (compact t ∷ lies.last)))
        (sym (length-map (filter sound (share lanes L 0 before)) compact) ∙ ap length lies.before
        ∙ length-append (joined (txs_all lies.front)) lies.first)

  pub confirmed : (more : List Record) → IsFileRun K (sent_to K sound (before ++ t ∷ behind)) I J → J (home_of K L) ≡ more ++ I (home_of K L)
      → ((x : Digest) → has (compact t).inputs x ≡ true → IsUnspent K I x) → IsConfirmed K sound before J more
  confirmed more run is unspent = record {
    place = record { batch = (lies run).batch; at = length (lies run).first };
    stands = placed run more is;
    won = won run unspent;
  }

pub free_law : FreeLaw
free_law K mint submissions sound before t behind I J more some some_lane kept kept' run is is_sound unspent alone =
    subst (λ Y. IsFileRun K (sent_to K sound (before ++ t ∷ behind)) I Y
    → Y (home_of K (lane_behind K before)) ≡ more ++ I (home_of K (lane_behind K before))
    → ((x : Digest) → has (compact t).inputs x ≡ true → IsUnspent K I x) → IsConfirmed K sound before Y more) (λ i n. kept'.history.journals_are n i)
    (subst (λ X. IsFileRun K (sent_to K sound (before ++ t ∷ behind)) X (journals_of kept'.later)
    → journals_of kept'.later (home_of K (lane_behind K before)) ≡ more ++ X (home_of K (lane_behind K before))
    → ((x : Digest) → has (compact t).inputs x ≡ true → IsUnspent K X x)
    → IsConfirmed K sound before (journals_of kept'.later) more) (λ i n. kept.history.journals_are n i)
    (confirmed K (minted mint) (IsProperCompact submissions) some some_lane kept.later kept'.later
    (steady K (minted mint) (IsProperCompact submissions) kept.later kept.kept)
    (steady K (minted mint) (IsProperCompact submissions) kept'.later kept'.kept) sound before t behind is_sound alone more))
    run is unspent
  where
    journals_of : List Row → ℕ → List Record
    journals_of later n = journal n (later ++ first_rows K (minted mint))

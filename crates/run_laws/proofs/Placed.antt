-- The q-th sound submission of a lane is the q-th transaction of its new Prepares.
use Rattle.std.proofs.Common.{◌≡◌, ℕ, zero, suc, ◌-◌, ◌*◌, ◌<◌, ◌≤◌, Bool, true, false, ◌==◌, nat_lt, if◌then◌else◌, List, [], ◌∷◌, ◌++◌, map}
use Rattle.std.proofs.Common.{reverse, length, Some, None, is_some, refl, sym, ap, ◌∙◌, subst, arith, append_assoc, append-nil}
use Rattle.std.proofs.lemmas.List.{reverse-append, reverse-reverse, append_cancel_right, length-append}
use Rattle.cbdc_model.specs.Records.{Shape, Batch, Compact, Record, Row, journal, record_of, txs_in, txs_of, outcomes_of, lock_of, Prepare, Commit}
use Rattle.cbdc_model.specs.Slots.{slot, Idle}
use Rattle.cbdc_model.specs.Ranges.{home_of, shard_node}
use Rattle.cbdc_model.specs.Outcomes.{outcome, outcomes}
use Rattle.cbdc_model.specs.Coins.{FullTx}
use Rattle.cbdc_model.specs.Clean.{IsProperCompact}
use Rattle.cbdc_model.specs.History.{Minted, minted, first_rows}
use Rattle.cbdc_model.specs.World.{AreIdle}
use Rattle.cbdc_model.specs.Waves.{sent_to, prepared, AreFilesRun}
use Rattle.cbdc_model.specs.Places.{sized_onto, place_of, outcome_at}
use Rattle.ledger_laws.proofs.Lookups.{number_is}
use Rattle.ledger_laws.proofs.ByKind.{test_itself}
use Rattle.ledger_laws.proofs.Next.{Steady}
use Rattle.ledger_laws.proofs.Standing.{standing}
use Rattle.ledger_laws.proofs.Recovered.{all_dones, all_phases}
use Rattle.ledger_laws.proofs.Ledger.{steady}
use Rattle.run_laws.proofs.LastRecords.{commit_stands}
use Rattle.run_laws.specs.Placing.{sent_of_all, tx_at, IsTxPlaced, PlaceLaw}
use Rattle.run_laws.proofs.Sharing.{joined, cut_joined, Told, told_in, txs_all, size_told, prepared_told, sized_told, LiesIn, lies_in, place_found}
use Rattle.run_laws.proofs.Told.{AllTold, told_middle, told_reversed, all_told, txs_reversed}
use Rattle.run_laws.proofs.FreeReplies.{outcome_of_place}
use Rattle.run_laws.proofs.WaveRecords.{found_at}

joined-append : (ps qs : List (List Compact)) → joined (ps ++ qs) ≡ joined ps ++ joined qs
joined-append [] qs = refl
joined-append (p ∷ ps) qs = ap (λ l. p ++ l) (joined-append ps qs) ∙ sym (append_assoc p (joined ps) (joined qs))

-- what files prepare on a lane, in all
record Pieces (K : Shape) (sound : FullTx → Bool) (files : List (List FullTx)) (lane : ℕ) (I J : List Record) : Type 0 where
  pieces : List (List Compact)
  all : joined pieces ≡ sent_of_all K sound files lane
  prepares : prepared lane J ≡ reverse pieces ++ prepared lane I

pieces_of : (K : Shape) (sound : FullTx → Bool) (files : List (List FullTx)) (lane : ℕ) (I J : ℕ → List Record) → lane < K.coordinators * K.lanes
    → AreFilesRun K sound files I J
    → Pieces K sound files lane (I (home_of K lane)) (J (home_of K lane))
pieces_of K sound [] lane I J lt h = record { pieces = []; all = refl; prepares = ap (prepared lane) (h (home_of K lane)) }
pieces_of K sound (file ∷ files) lane I J lt h =
    let c = h.1.cut lane lt in
    let r = pieces_of K sound files lane h.0 J lt h.2 in
    record {
      pieces = c.0 ++ r.pieces;
      all = joined-append c.0 r.pieces ∙ ap (λ l. l ++ joined r.pieces) (cut_joined K.batch (sent_to K sound file lane) c.0 c.1)
          ∙ ap (λ l. sent_to K sound file lane ++ l) r.all;
      prepares = r.prepares ∙ ap (λ l. reverse r.pieces ++ l) c.2
          ∙ sym (append_assoc (reverse r.pieces) (reverse c.0) (prepared lane (I (home_of K lane))))
          ∙ ap (λ l. l ++ prepared lane (I (home_of K lane))) (sym (reverse-append c.0 r.pieces));
    }

-- so the new Prepares of the lane have what it got, in order
pub told_joined : (K : Shape) (sound : FullTx → Bool) (files : List (List FullTx)) (lane : ℕ) (I J : ℕ → List Record) (more : List Record)
    → lane < K.coordinators * K.lanes → AreFilesRun K sound files I J
    → J (home_of K lane) ≡ more ++ I (home_of K lane) → joined (txs_all (reverse (told_in lane more))) ≡ sent_of_all K sound files lane
told_joined K sound files lane I J more lt run grown =
    let p = pieces_of K sound files lane I J lt run in
    let now : prepared lane (J (home_of K lane)) ≡ txs_all (told_in lane more) ++ prepared lane (I (home_of K lane)) =
    ap (prepared lane) grown ∙ prepared_told lane more (I (home_of K lane)) in
    let turned : txs_all (told_in lane more) ≡ reverse p.pieces =
    append_cancel_right (txs_all (told_in lane more)) (reverse p.pieces) (prepared lane (I (home_of K lane))) (sym now ∙ p.prepares) in
    ap joined (txs_reversed (told_in lane more) ∙ ap reverse turned ∙ reverse-reverse p.pieces) ∙ p.all

idle_behind : (K : Shape) (sound : FullTx → Bool) (files : List (List FullTx)) (I J : ℕ → List Record) → AreIdle K I → AreFilesRun K sound files I J
    → AreIdle K J
idle_behind K sound [] I J idle h lane lt = ap (λ L. (slot L lane).phase) (h (home_of K lane)) ∙ idle lane lt
idle_behind K sound (file ∷ files) I J idle h lane lt = idle_behind K sound files h.0 J h.1.idle h.2 lane lt

-- a transaction at a place, with those before and behind it
record Around (ts : List Compact) (q : ℕ) (t : Compact) : Type 0 where
  first : List Compact
  last : List Compact
  parts : ts ≡ first ++ t ∷ last
  place : length first ≡ q

around : (ts : List Compact) (q : ℕ) (t : Compact) → tx_at ts q ≡ Some t → Around ts q t
around [] q t e = absurd (let z : None ≡ Some t = e in cc)
around (u ∷ ts) zero t e = record { first = []; last = ts; parts = ap (λ x. x ∷ ts) (some_tx u t e); place = refl }
  where
    some_tx : (u t : Compact) → Some u ≡ Some t → u ≡ t
    some_tx u t e = cc
around (u ∷ ts) (suc q) t e = let r = around ts q t e in
    record { first = u ∷ r.first; last = r.last; parts = ap (λ l. u ∷ l) r.parts; place = ap (λ n. suc n) r.place }

at_middle : (first last : List Compact) (t : Compact) → tx_at (first ++ t ∷ last) (length first) ≡ Some t
at_middle [] last t = refl
at_middle (u ∷ first) last t = at_middle first last t

-- past all there is no place
past_all : (T : List Told) (q : ℕ) → length (joined (txs_all T)) ≤ q → place_of (map size_told T) q ≡ None
past_all [] q le = refl
past_all (t ∷ T) q le =
    ap (λ c. if c then Some (record { batch = t.0; at = q }) else place_of (map size_told T) (q - length t.1))
    (over q (length t.1) (omega (arith, le, length-append t.1 (joined (txs_all T)))))
    ∙ past_all T (q - length t.1) (omega (arith, le, length-append t.1 (joined (txs_all T))))
  where
    over : (m n : ℕ) → n ≤ m → nat_lt m n ≡ false
    over m n le = grind (arith, le)

module _ (K : Shape) (minting : Minted) (P : Compact → Type 0) (some : 0 < K.shards) (old new : List Row) (kept : Steady K minting P old)
    (kept' : Steady K minting P new)
    (sound : FullTx → Bool) (files : List (List FullTx)) (lane : ℕ) (lt : lane < K.coordinators * K.lanes) (more : List Record) where
  abbrev I : ℕ → List Record
  I n = journal n (old ++ first_rows K minting)

  abbrev J : ℕ → List Record
  J n = journal n (new ++ first_rows K minting)

  module _ (idle : AreIdle K I) (run : AreFilesRun K sound files I J) (grown : J (home_of K lane) ≡ more ++ I (home_of K lane)) where
    abbrev told : List Told
    told = reverse (told_in lane more)

    joined_told : joined (txs_all told) ≡ sent_of_all K sound files lane
    joined_told = told_joined K sound files lane I J more lt run grown

    sizes : sized_onto lane more [] ≡ map size_told told
    sizes = sized_told lane more [] ∙ append-nil (map size_told told)

    abbrev Q : Batch → List Compact → Type 0
    Q c txs = (c.lane ≡ lane) × (txs_of (J (home_of K lane)) c ≡ txs) × (is_some (record_of 6 (J (home_of K lane)) c) ≡ true)

    each_told : (newer back : List Record) (stamp : ℕ) (c : Batch) (txs : List Compact) → [] ++ more ≡ newer ++ Prepare stamp c txs ∷ back
        → (c.lane == lane) ≡ true → Q c txs
    each_told newer back stamp c txs e l =
        let is : J (home_of K lane) ≡ newer ++ Prepare stamp c txs ∷ (back ++ I (home_of K lane))
        = grown ∙ ap (λ m. m ++ I (home_of K lane)) e ∙ append_assoc newer (Prepare stamp c txs ∷ back) (I (home_of K lane)) in
        let found : record_of 6 (J (home_of K lane)) c ≡ Some (Prepare stamp c txs)
        = found_at K minting P some old new kept kept' (home_of K lane) 6 c newer (back ++ I (home_of K lane)) (Prepare stamp c txs) is (back, refl)
        (test_itself 6 c) in
        (number_is c.lane lane l, ap txs_in found, ap is_some found)

    pub placed : (q : ℕ) (t : Compact) → tx_at (sent_of_all K sound files lane) q ≡ Some t → IsTxPlaced lane q t more (J (home_of K lane))
    placed q t e =
        let a = around (sent_of_all K sound files lane) q t e in
        let l : LiesIn told a.first t a.last = lies_in told a.first t a.last (joined_told ∙ a.parts) in
        let its : Q l.batch (l.first ++ t ∷ l.last)
        = told_middle Q l.front l.back (l.batch, l.first ++ t ∷ l.last)
        (subst (AllTold Q) l.parts (told_reversed Q (told_in lane more) (all_told Q lane more [] each_told))) in
        let rest : (slot (J (home_of K l.batch.lane)) l.batch.lane).phase ≡ Idle =
        subst (λ m. (slot (J (home_of K m)) m).phase ≡ Idle) (sym its.0) (idle_behind K sound files I J idle run lane lt) in
        let stands : is_some (record_of 6 (J (home_of K l.batch.lane)) l.batch) ≡ true =
        subst (λ m. is_some (record_of 6 (J (home_of K m)) l.batch) ≡ true) (sym its.0) its.2 in
        let done = (all_dones K minting P some new kept' (home_of K l.batch.lane)).idle_done l.batch stands rest in
        let c = commit_stands (J (home_of K l.batch.lane)) l.batch
        ((all_phases K minting P some new kept' (home_of K l.batch.lane)).done_prepared l.batch done).1 in
        let os = (standing K minting P some new kept' (home_of K l.batch.lane) 7 l.batch
        (Commit c.0 l.batch (outcomes_of (J (home_of K l.batch.lane)) l.batch)) c.1).2 in
        record {
          place = record { batch = l.batch; at = length l.first };
          stands = ap (λ ss. place_of ss q) (sizes ∙ ap (map size_told) l.parts)
              ∙ place_found l.front l.batch (l.first ++ t ∷ l.last) l.back (length l.first) q (omega (arith, length-append l.first (t ∷ l.last)))
              (sym a.place ∙ ap length l.before ∙ length-append (joined (txs_all l.front)) l.first);
          lane_is = its.0;
          holds = ap (λ ts. tx_at ts (length l.first)) its.1 ∙ at_middle l.first l.last t;
          outcome = outcome (λ s. lock_of (J (shard_node K s)) l.batch) (length l.first) 0 K.shards;
          decided = ap (λ m. outcome_at (outcomes_of (J (home_of K m)) l.batch) (length l.first)) (sym its.0)
              ∙ ap (λ o. outcome_at o (length l.first)) (os ∙ ap (outcomes (λ s. lock_of (J (shard_node K s)) l.batch) K.shards 0)
              (ap (λ m. txs_of (J (home_of K m)) l.batch) its.0 ∙ its.1))
              ∙ outcome_of_place (λ s. lock_of (J (shard_node K s)) l.batch) K.shards 0 (length l.first) (length l.first) l.first l.last t refl
              (omega arith);
        }

    pub none_past : (q : ℕ) → length (sent_of_all K sound files lane) ≤ q → place_of (sized_onto lane more []) q ≡ None
    none_past q le = ap (λ ss. place_of ss q) sizes ∙ past_all told q (subst (λ ts. length ts ≤ q) (sym joined_told) le)

  pub places : AreIdle K I → AreFilesRun K sound files I J → J (home_of K lane) ≡ more ++ I (home_of K lane)
      → ((q : ℕ) (t : Compact) → tx_at (sent_of_all K sound files lane) q ≡ Some t → IsTxPlaced lane q t more (J (home_of K lane)))
      × ((q : ℕ) → length (sent_of_all K sound files lane) ≤ q → place_of (sized_onto lane more []) q ≡ None)
  places idle run grown = (placed idle run grown, none_past idle run grown)

pub place_law : PlaceLaw
place_law K mint submissions sound files lane I J more some lt kept kept' idle run grown =
    subst (λ Y. AreFilesRun K sound files I Y → Y (home_of K lane) ≡ more ++ I (home_of K lane)
    → ((q : ℕ) (t : Compact) → tx_at (sent_of_all K sound files lane) q ≡ Some t → IsTxPlaced lane q t more (Y (home_of K lane)))
    × ((q : ℕ) → length (sent_of_all K sound files lane) ≤ q → place_of (sized_onto lane more []) q ≡ None)) (λ i n. kept'.history.journals_are n i)
    (subst (λ X. AreIdle K X → AreFilesRun K sound files X (journals_of kept'.later)
    → journals_of kept'.later (home_of K lane) ≡ more ++ X (home_of K lane)
    → ((q : ℕ) (t : Compact) → tx_at (sent_of_all K sound files lane) q ≡ Some t
    → IsTxPlaced lane q t more (journals_of kept'.later (home_of K lane)))
    × ((q : ℕ) → length (sent_of_all K sound files lane) ≤ q → place_of (sized_onto lane more []) q ≡ None)) (λ i n. kept.history.journals_are n i)
    (places K (minted mint) (IsProperCompact submissions) some kept.later kept'.later
    (steady K (minted mint) (IsProperCompact submissions) kept.later kept.kept)
    (steady K (minted mint) (IsProperCompact submissions) kept'.later kept'.kept) sound files lane lt more) idle)
    run grown
  where
    journals_of : List Row → ℕ → List Record
    journals_of later n = journal n (later ++ first_rows K (minted mint))

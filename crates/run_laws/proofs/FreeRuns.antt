-- What a file's wave decided stays decided, at the same place among all.
use Rattle.std.proofs.Common.{◌≡◌, inl, inr, ℕ, ◌+◌, ◌-◌, ◌*◌, ◌<◌, ◌≤◌, true, false, nat_lt, if◌then◌else◌, List, [], ◌∷◌, ◌++◌, map, reverse}
use Rattle.std.proofs.Common.{length, Some, None, is_some, refl, sym, ap, ◌∙◌, subst, arith, append_assoc, append-nil, mod-lt}
use Rattle.std.proofs.lemmas.List.{append_cancel_right, length-append}
use Rattle.cbdc_model.specs.Records.{Shape, Batch, Compact, Record, Row, journal, record_of, outcomes_in, Won}
use Rattle.cbdc_model.specs.Ranges.{home_of}
use Rattle.cbdc_model.specs.Coins.{Output, FullTx}
use Rattle.cbdc_model.specs.Clean.{IsProperCompact}
use Rattle.cbdc_model.specs.History.{Minted, minted, first_rows}
use Rattle.cbdc_model.specs.World.{KeptJournals}
use Rattle.cbdc_model.specs.Lanes.{IsEnd, first_of}
use Rattle.cbdc_model.specs.Places.{PlaceIn, Sized, sized_before, sized_onto, place_of, outcome_at, outcome_in}
use Rattle.ledger_laws.proofs.Next.{Steady}
use Rattle.ledger_laws.proofs.Lookups.{true_false, no_commit}
use Rattle.ledger_laws.proofs.First.{journal_first, all_first}
use Rattle.ledger_laws.proofs.Moves.{none_of}
use Rattle.ledger_laws.proofs.Cuts.{cut}
use Rattle.ledger_laws.proofs.Finds.{stands}
use Rattle.ledger_laws.proofs.Together.{lists_of}
use Rattle.ledger_laws.proofs.Ledger.{steady}
use Rattle.run_laws.proofs.NewRecords.{in_journal}
use Rattle.run_laws.specs.Free.{lane_behind, sound_behind}
use Rattle.run_laws.specs.Placing.{sent_of_all}
use Rattle.run_laws.specs.FreeRuns.{FreeRunLaw}
use Rattle.run_laws.proofs.Sharing.{joined, Told, told_in, txs_all, size_told, sized_told}
use Rattle.run_laws.proofs.Between.{files_grow}
use Rattle.run_laws.proofs.WaveRecords.{found_at}
use Rattle.run_laws.proofs.Placed.{told_joined}
use Rattle.run_laws.proofs.Confirmed.{free_law}

-- a record that is found stays the one that is found
stays_found : (K : Shape) (minting : Minted) (P : Compact → Type 0) (some : 0 < K.shards) (old new : List Row) → Steady K minting P old
    → Steady K minting P new → (n kind : ℕ) (c : Batch)
    → IsEnd (journal n (old ++ first_rows K minting)) (journal n (new ++ first_rows K minting))
    → is_some (record_of kind (journal n (old ++ first_rows K minting)) c) ≡ true
    → record_of kind (journal n (new ++ first_rows K minting)) c ≡ record_of kind (journal n (old ++ first_rows K minting)) c
stays_found K minting P some old new kept kept' n kind c grows h =
    let q = stands (journal n (old ++ first_rows K minting)) kind c h in
    let begins : IsEnd (first_of K minting n) (journal n (old ++ first_rows K minting)) = (lists_of K minting P some old kept).begins n in
    let is : journal n (new ++ first_rows K minting) ≡ (grows.0 ++ q.0) ++ q.1 ∷ q.2 =
    grows.1 ∙ ap (λ L. grows.0 ++ L) q.3 ∙ sym (append_assoc grows.0 q.0 (q.1 ∷ q.2)) in
    elim (cut begins.0 (first_of K minting n) q.0 q.2 q.1 (sym begins.1 ∙ q.3)) [
      | inr f ↦ found_at K minting P some [] new tt kept' n kind c (grows.0 ++ q.0) q.2 q.1 is (f.back, f.rest_is) q.4 ∙ sym q.5
      | inl f ↦ absurd (true_false (is_some (record_of kind (first_of K minting n) c))
          (subst (λ L. is_some (record_of kind L c) ≡ true) (sym f.1) (in_journal f.0 q.2 q.1 kind c q.4))
          (none_of kind (first_of K minting n) (journal_first n (first_rows K minting) (all_first K minting P some)) c))
    ]

-- places among more batches
sized_both : (lane : ℕ) (A B : List Record) (others : List Sized) → sized_onto lane (A ++ B) others ≡ sized_onto lane B (sized_onto lane A others)
sized_both lane [] B others = refl
sized_both lane (r ∷ A) B others = sized_both lane A B (sized_before lane r others)

none_is_some : (p : PlaceIn) → None ≡ Some p → ⊥
none_is_some p e = cc

place_before : (S T : List Sized) (q : ℕ) (p : PlaceIn) → place_of S q ≡ Some p → place_of (S ++ T) q ≡ Some p
place_before [] T q p e = absurd (none_is_some p e)
place_before (z ∷ S) T q p e = elim (nat_lt q z.size)
    as (λ c. (if c then Some (record { batch = z.batch; at = q }) else place_of S (q - z.size)) ≡ Some p
    → (if c then Some (record { batch = z.batch; at = q }) else place_of (S ++ T) (q - z.size)) ≡ Some p) [
      | true ↦ λ h. h
      | false ↦ λ h. place_before S T (q - z.size) p h
    ] e

place_behind : (T : List Told) (S : List Sized) (q m : ℕ) → m ≡ length (joined (txs_all T)) + q → place_of (map size_told T ++ S) m ≡ place_of S q
place_behind [] S q m e = ap (place_of S) (omega (arith, e))
place_behind (t ∷ T) S q m e =
    let l : length (t.1 ++ joined (txs_all T)) ≡ length t.1 + length (joined (txs_all T)) = length-append t.1 (joined (txs_all T)) in
    ap (λ c. if c then Some (record { batch = t.0; at = m }) else place_of (map size_told T ++ S) (m - length t.1))
    (over m (length t.1) (omega (arith, e, l)))
    ∙ place_behind T S q (m - length t.1) (omega (arith, e, l))
  where
    over : (m n : ℕ) → n ≤ m → nat_lt m n ≡ false
    over m n le = grind (arith, le)

-- an outcome stands in a Commit
commit_of : (J : List Record) (p : PlaceIn) → outcome_in J p ≡ Some Won → is_some (record_of 7 J p.batch) ≡ true
commit_of J p e = elim (is_some (record_of 7 J p.batch)) as (λ c. is_some (record_of 7 J p.batch) ≡ c → c ≡ true) [
  | true ↦ λ c. refl
  | false ↦ λ c. absurd (let z : None ≡ Some Won = ap (λ os. outcome_at os p.at) (sym (no_commit J p.batch c)) ∙ e in cc)
] refl

outcome_stays : (K : Shape) (mint : List Output) (submissions : List FullTx) (N X : ℕ → List Record) (n : ℕ) (p : PlaceIn) → 0 < K.shards
    → KeptJournals K mint submissions N → KeptJournals K mint submissions X
    → IsEnd (N n) (X n) → outcome_in (N n) p ≡ Some Won → outcome_in (X n) p ≡ Some Won
outcome_stays K mint submissions N X n p some kept kept' grows won =
    let at : journal n (kept.later ++ first_rows K (minted mint)) ≡ N n = kept.history.journals_are n in
    let at' : journal n (kept'.later ++ first_rows K (minted mint)) ≡ X n = kept'.history.journals_are n in
    let found = stays_found K (minted mint) (IsProperCompact submissions) some kept.later kept'.later
    (steady K (minted mint) (IsProperCompact submissions) kept.later kept.kept)
    (steady K (minted mint) (IsProperCompact submissions) kept'.later kept'.kept) n 7 p.batch
    (grows.0, at' ∙ grows.1 ∙ ap (λ L. grows.0 ++ L) (sym at)) (ap (λ L. is_some (record_of 7 L p.batch)) at ∙ commit_of (N n) p won) in
    ap (λ L. outcome_in L p) (sym at') ∙ ap (λ o. outcome_at (outcomes_in o) p.at) found ∙ ap (λ L. outcome_in L p) at ∙ won

pub free_run_law : FreeRunLaw
free_run_law K mint submissions sound earlier later before t behind R M N X more some some_lane kept kept' kept'' run file run' is is_sound unspent
    alone =
    let lane : ℕ = lane_behind K before in
    let m1 = files_grow K sound earlier R M run (home_of K (lane_behind K before)) in
    let m2 = file.adds.grows (home_of K (lane_behind K before)) in
    let m3 = files_grow K sound later N X run' (home_of K (lane_behind K before)) in
    let f = free_law K mint submissions sound before t behind M N m2.0 some some_lane kept kept' file m2.1 is_sound unspent alone in
    let whole : more ≡ m3.0 ++ (m2.0 ++ m1.0)
    = append_cancel_right more (m3.0 ++ (m2.0 ++ m1.0)) (R (home_of K (lane_behind K before)))
    (sym is ∙ m3.1 ∙ ap (λ L. m3.0 ++ L) (m2.1 ∙ ap (λ L. m2.0 ++ L) m1.1 ∙ sym (append_assoc m2.0 m1.0 (R (home_of K (lane_behind K before)))))
    ∙ sym (append_assoc m3.0 (m2.0 ++ m1.0) (R (home_of K (lane_behind K before))))) in
    let sizes : sized_onto (lane_behind K before) more []
    ≡ map size_told (reverse (told_in (lane_behind K before) m1.0))
    ++ (map size_told (reverse (told_in (lane_behind K before) m2.0)) ++ sized_onto (lane_behind K before) m3.0 [])
    = ap (λ m. sized_onto (lane_behind K before) m []) whole ∙ sized_both (lane_behind K before) m3.0 (m2.0 ++ m1.0) []
    ∙ sized_both (lane_behind K before) m2.0 m1.0 (sized_onto (lane_behind K before) m3.0 [])
    ∙ sized_told (lane_behind K before) m1.0 (sized_onto (lane_behind K before) m2.0 (sized_onto (lane_behind K before) m3.0 []))
    ∙ ap (λ S. map size_told (reverse (told_in (lane_behind K before) m1.0)) ++ S)
    (sized_told (lane_behind K before) m2.0 (sized_onto (lane_behind K before) m3.0 [])) in
    let mine : place_of (map size_told (reverse (told_in (lane_behind K before) m2.0))) (sound_behind K sound before) ≡ Some f.place
    = ap (λ S. place_of S (sound_behind K sound before))
    (sym (sized_told (lane_behind K before) m2.0 [] ∙ append-nil (map size_told (reverse (told_in (lane_behind K before) m2.0))))) ∙ f.stands in
    record {
      place = f.place;
      stands = ap (λ S. place_of S (length (sent_of_all K sound earlier (lane_behind K before)) + sound_behind K sound before)) sizes
          ∙ place_behind (reverse (told_in (lane_behind K before) m1.0))
          (map size_told (reverse (told_in (lane_behind K before) m2.0)) ++ sized_onto (lane_behind K before) m3.0 [])
          (sound_behind K sound before)
          (length (sent_of_all K sound earlier (lane_behind K before)) + sound_behind K sound before)
          (ap (λ ts. length ts + sound_behind K sound before)
          (sym (told_joined K sound earlier (lane_behind K before) R M m1.0 (mod-lt (length before) {m = K.coordinators * K.lanes} some_lane) run
          m1.1)))
          ∙ place_before (map size_told (reverse (told_in (lane_behind K before) m2.0))) (sized_onto (lane_behind K before) m3.0 [])
          (sound_behind K sound before) f.place mine;
      won = outcome_stays K mint submissions N X (home_of K (lane_behind K before)) f.place some kept' kept'' m3 f.won;
    }

-- The turns of sound submissions among those of their lanes.
use Rattle.std.proofs.Common.{◌≡◌, inl, inr, ℕ, zero, suc, ◌+◌, ◌-◌, ◌*◌, ◌%◌, ◌<◌, ◌≤◌, Bool, true, false, ◌==◌, if◌then◌else◌, List, [], ◌∷◌, ◌++◌}
use Rattle.std.proofs.Common.{length, take, drop, map, Some, None, refl, sym, ap, ◌∙◌, subst, arith, append_assoc}
use Rattle.std.specs.Prelude.{slice_get}
use Rattle.std.specs.List.{filter}
use Rattle.std.proofs.lemmas.Bool.{cases_lt}
use Rattle.std.proofs.lemmas.List.{length-append}
use Rattle.std.proofs.lemmas.List.Sums.{sum_by-append, sum_by-cons}
use Rattle.cbdc_model.specs.Records.{Shape, Compact}
use Rattle.cbdc_model.specs.Coins.{FullTx, compact}
use Rattle.cbdc_model.specs.Waves.{share, sent_to}
use Rattle.ledger_laws.proofs.Lookups.{number_is, number_self}
use Rattle.printed_lines.specs.Runs.{lane_at, sent_before, turn}
use Rattle.run_laws.specs.Placing.{sent_of_all, tx_at}
use Rattle.run_laws.proofs.Sharing.{got, got-append, got_here}
use Rattle.submission_laws.proofs.Lists.{split_get, before_get, taken_get, taken_twice, tx_behind, tx_front}

from_zero : (n : ℕ) → 0 + n ≡ n
from_zero n = omega arith

some_tx : (u t : Compact) → Some u ≡ Some t → u ≡ t
some_tx u t e = cc

-- ---- in one file

module _ (sound : FullTx → Bool) (n lane : ℕ) where
  -- a sound submission of the lane parts what the lane gets
  pub parted : (file : List FullTx) (j : ℕ) (t : FullTx) → slice_get file j ≡ Some t → sound t ≡ true → j % n ≡ lane
      → got sound n lane 0 file ≡ got sound n lane 0 (take j file) ++ compact t
      ∷ got sound n lane (suc (0 + length (take j file))) (drop (suc j) file)
  parted file j t e s own =
      let here : ((0 + length (take j file)) % n == lane) ≡ true =
      ap (λ k. k % n == lane) (from_zero (length (take j file)) ∙ before_get file j t e) ∙ ap (λ k. k == lane) own ∙ number_self lane in
      ap (got sound n lane 0) (split_get file j t e) ∙ got-append sound n lane 0 (take j file) (t ∷ drop (suc j) file)
      ∙ ap (λ l. got sound n lane 0 (take j file) ++ l) (got_here sound n lane (0 + length (take j file)) t (drop (suc j) file) s here)

  -- so fewer come before it than to the whole file
  pub fewer : (file : List FullTx) (j : ℕ) (t : FullTx) → slice_get file j ≡ Some t → sound t ≡ true → j % n ≡ lane
      → length (got sound n lane 0 (take j file)) < length (got sound n lane 0 file)
  fewer file j t e s own =
      let l = ap length (parted file j t e s own) in
      let a = length-append (got sound n lane 0 (take j file)) (compact t ∷ got sound n lane (suc (0 + length (take j file))) (drop (suc j) file)) in
      omega (arith, l, a)

  -- and than before a later one
  pub fewer_before : (file : List FullTx) (j h : ℕ) (t : FullTx) → j < h → slice_get file j ≡ Some t → sound t ≡ true → j % n ≡ lane
      → length (got sound n lane 0 (take j file)) < length (got sound n lane 0 (take h file))
  fewer_before file j h t low e s own =
      subst (λ l. length (got sound n lane 0 l) < length (got sound n lane 0 (take h file))) (taken_twice file j h low)
      (fewer (take h file) j t (taken_get file j h t low e) s own)

  -- each that the lane gets is a sound submission of the file
  pub record Comes (file : List FullTx) (k q : ℕ) (c : Compact) : Type 0 where
    pub place : ℕ
    pub tx : FullTx
    pub tx_is : slice_get file place ≡ Some tx
    pub is_sound : sound tx ≡ true
    pub lane_of : (k + place) % n ≡ lane
    pub turn_is : q ≡ length (got sound n lane k (take place file))
    pub is_compact : c ≡ compact tx

  -- behind one that does not go to the lane, and behind one that does
  passed : (u : FullTx) (us : List FullTx) (k q : ℕ) (c : Compact) → ((vs : List FullTx) → got sound n lane k (u ∷ vs) ≡ got sound n lane (suc k) vs)
      → Comes us (suc k) q c → Comes (u ∷ us) k q c
  passed u us k q c skip f = record {
    place = suc f.place;
    tx = f.tx;
    tx_is = f.tx_is;
    is_sound = f.is_sound;
    lane_of = ap (λ m. m % n) (shift k f.place) ∙ f.lane_of;
    turn_is = f.turn_is ∙ ap length (sym (skip (take f.place us)));
    is_compact = f.is_compact;
  }
    where
      shift : (k p : ℕ) → k + suc p ≡ suc k + p
      shift k p = omega arith

  counted : (u : FullTx) (us : List FullTx) (k q : ℕ) (c : Compact)
      → ((vs : List FullTx) → got sound n lane k (u ∷ vs) ≡ compact u ∷ got sound n lane (suc k) vs) → Comes us (suc k) q c
      → Comes (u ∷ us) k (suc q) c
  counted u us k q c more f = record {
    place = suc f.place;
    tx = f.tx;
    tx_is = f.tx_is;
    is_sound = f.is_sound;
    lane_of = ap (λ m. m % n) (shift k f.place) ∙ f.lane_of;
    turn_is = ap suc f.turn_is ∙ ap length (sym (more (take f.place us)));
    is_compact = f.is_compact;
  }
    where
      shift : (k p : ℕ) → k + suc p ≡ suc k + p
      shift k p = omega arith

  first_one : (u : FullTx) (us : List FullTx) (k q : ℕ) (c : Compact) → (k % n == lane) ≡ true → sound u ≡ true
      → ((vs : List FullTx) → got sound n lane k (u ∷ vs) ≡ compact u ∷ got sound n lane (suc k) vs)
      → ((q : ℕ) → tx_at (got sound n lane (suc k) us) q ≡ Some c → Comes us (suc k) q c)
      → tx_at (compact u ∷ got sound n lane (suc k) us) q ≡ Some c → Comes (u ∷ us) k q c
  first_one u us k zero c own s more rest e = record {
    place = 0;
    tx = u;
    tx_is = refl;
    is_sound = s;
    lane_of = ap (λ m. m % n) (nothing_more k) ∙ number_is (k % n) lane own;
    turn_is = refl;
    is_compact = sym (some_tx (compact u) c e);
  }
    where
      nothing_more : (k : ℕ) → k + 0 ≡ k
      nothing_more k = omega arith
  first_one u us k (suc q) c own s more rest e = counted u us k q c more (rest q e)

  -- what a lane gets of a submission and those behind it
  got_by : (u : FullTx) (vs : List FullTx) (k : ℕ) (own s : Bool) → (k % n == lane) ≡ own → sound u ≡ s
      → got sound n lane k (u ∷ vs) ≡ (if own then (if s then compact u ∷ got sound n lane (suc k) vs else got sound n lane (suc k) vs)
      else got sound n lane (suc k) vs)
  got_by u vs k true true e f = got_here sound n lane k u vs f e
  got_by u vs k true false e f =
      ap (λ b. map compact (filter sound (if b then u ∷ share n lane (suc k) vs else share n lane (suc k) vs))) e
      ∙ ap (λ b. map compact (if b then u ∷ filter sound (share n lane (suc k) vs) else filter sound (share n lane (suc k) vs))) f
  got_by u vs k false true e f = ap (λ b. map compact (filter sound (if b then u ∷ share n lane (suc k) vs else share n lane (suc k) vs))) e
  got_by u vs k false false e f = ap (λ b. map compact (filter sound (if b then u ∷ share n lane (suc k) vs else share n lane (suc k) vs))) e

  comes_by : (u : FullTx) (us : List FullTx) (k q : ℕ) (c : Compact) (own s : Bool) → (k % n == lane) ≡ own → sound u ≡ s
      → ((q : ℕ) → tx_at (got sound n lane (suc k) us) q ≡ Some c → Comes us (suc k) q c) → tx_at (got sound n lane k (u ∷ us)) q ≡ Some c
      → Comes (u ∷ us) k q c
  comes_by u us k q c true true e f rest at =
      first_one u us k q c e f (λ vs. got_by u vs k true true e f) rest (sym (ap (λ l. tx_at l q) (got_by u us k true true e f)) ∙ at)
  comes_by u us k q c true false e f rest at = passed u us k q c (λ vs. got_by u vs k true false e f)
      (rest q (sym (ap (λ l. tx_at l q) (got_by u us k true false e f)) ∙ at))
  comes_by u us k q c false true e f rest at = passed u us k q c (λ vs. got_by u vs k false true e f)
      (rest q (sym (ap (λ l. tx_at l q) (got_by u us k false true e f)) ∙ at))
  comes_by u us k q c false false e f rest at = passed u us k q c (λ vs. got_by u vs k false false e f)
      (rest q (sym (ap (λ l. tx_at l q) (got_by u us k false false e f)) ∙ at))

  pub comes : (file : List FullTx) (k q : ℕ) (c : Compact) → tx_at (got sound n lane k file) q ≡ Some c → Comes file k q c
  comes [] k q c e = absurd (let z : None ≡ Some c = e in cc)
  comes (u ∷ us) k q c e = comes_by u us k q c (k % n == lane) (sound u) refl refl (λ q e. comes us (suc k) q c e) e

-- ---- over all files

module _ (K : Shape) (sound : FullTx → Bool) where
  abbrev lanes : ℕ
  lanes = K.coordinators * K.lanes

  pub sent_both : (A B : List (List FullTx)) (lane : ℕ) → sent_of_all K sound (A ++ B) lane ≡ sent_of_all K sound A lane ++ sent_of_all K sound B lane
  sent_both [] B lane = refl
  sent_both (file ∷ A) B lane = ap (λ l. sent_to K sound file lane ++ l) (sent_both A B lane)
      ∙ sym (append_assoc (sent_to K sound file lane) (sent_of_all K sound A lane) (sent_of_all K sound B lane))

  pub sent_many : (files : List (List FullTx)) (lane : ℕ) → length (sent_of_all K sound files lane) ≡ sent_before K sound files lane
  sent_many [] lane = refl
  sent_many (file ∷ files) lane =
      length-append (sent_to K sound file lane) (sent_of_all K sound files lane)
      ∙ ap (λ n. length (sent_to K sound file lane) + n) (sent_many files lane)
      ∙ sym (sum_by-cons (λ f. length (sent_to K sound f lane)) file files)

  sent_parted : (files : List (List FullTx)) (k : ℕ) (file : List FullTx) (lane : ℕ) → slice_get files k ≡ Some file
      → sent_of_all K sound files lane ≡ sent_of_all K sound (take k files) lane
      ++ (sent_to K sound file lane ++ sent_of_all K sound (drop (suc k) files) lane)
  sent_parted files k file lane e = ap (λ fs. sent_of_all K sound fs lane) (split_get files k file e)
      ∙ sent_both (take k files) (file ∷ drop (suc k) files) lane

  -- a sound submission has its turn among all that its lane gets
  pub at_turn : (files : List (List FullTx)) (k : ℕ) (file : List FullTx) (j : ℕ) (t : FullTx) → slice_get files k ≡ Some file
      → slice_get file j ≡ Some t → sound t ≡ true
      → tx_at (sent_of_all K sound files (lane_at K j)) (turn K sound (take k files) file j) ≡ Some (compact t)
  at_turn files k file j t there here s =
      let lane : ℕ = lane_at K j in
      let A = sent_to K sound (take j file) (lane_at K j) in
      let B = got sound (K.coordinators * K.lanes) (lane_at K j) (suc (0 + length (take j file))) (drop (suc j) file) in
      ap (λ l. tx_at l (turn K sound (take k files) file j)) (sent_parted files k file (lane_at K j) there)
      ∙ tx_behind (sent_of_all K sound (take k files) (lane_at K j))
      (sent_to K sound file (lane_at K j) ++ sent_of_all K sound (drop (suc k) files) (lane_at K j)) (length A)
      (turn K sound (take k files) file j)
      (ap (λ n. n + length A) (sym (sent_many (take k files) (lane_at K j))))
      ∙ tx_front (sent_to K sound file (lane_at K j)) (sent_of_all K sound (drop (suc k) files) (lane_at K j)) (length A) (compact t)
      (ap (λ l. tx_at l (length A)) (parted sound (K.coordinators * K.lanes) (lane_at K j) file j t here s refl)
      ∙ tx_behind A (compact t ∷ B) 0 (length A) (omega arith))

  -- where one comes before the other, it has a smaller turn
  less_later : (files : List (List FullTx)) (k i : ℕ) (file : List FullTx) (lane : ℕ) → k < i → slice_get files k ≡ Some file
      → sent_before K sound (take k files) lane + length (sent_to K sound file lane) ≤ sent_before K sound (take i files) lane
  less_later files k i file lane low e =
      let whole = ap (λ fs. sent_before K sound fs lane) (split_get (take i files) k file (taken_get files k i file low e)) in
      let parts = sum_by-append (λ g. length (sent_to K sound g lane)) (take k (take i files)) (file ∷ drop (suc k) (take i files)) in
      let head = sum_by-cons (λ g. length (sent_to K sound g lane)) file (drop (suc k) (take i files)) in
      let front = ap (λ fs. sent_before K sound fs lane) (taken_twice files k i low) in
      omega (arith, whole, parts, head, front)

  abbrev pub Turn : List (List FullTx) → ℕ → List FullTx → ℕ → ℕ → ℕ
  Turn files k file j lane = sent_before K sound (take k files) lane + length (sent_to K sound (take j file) lane)

  earlier_file : (files : List (List FullTx)) (k i : ℕ) (file other : List FullTx) (j h lane : ℕ) (t : FullTx) → k < i
      → slice_get files k ≡ Some file → slice_get file j ≡ Some t → sound t ≡ true → lane_at K j ≡ lane
      → Turn files k file j lane < Turn files i other h lane
  earlier_file files k i file other j h lane t low there here s own =
      let a = fewer sound (K.coordinators * K.lanes) lane file j t here s own in
      let b = less_later files k i file lane low there in
      omega (arith, a, b)

  same_file : (f g : List FullTx) → Some f ≡ Some g → f ≡ g
  same_file f g e = cc

  -- two submissions of a lane with one turn are one
  pub one_turn : (files : List (List FullTx)) (k i : ℕ) (file other : List FullTx) (j h lane : ℕ) (t u : FullTx)
      → slice_get files k ≡ Some file → slice_get file j ≡ Some t → sound t ≡ true → lane_at K j ≡ lane
      → slice_get files i ≡ Some other → slice_get other h ≡ Some u → sound u ≡ true → lane_at K h ≡ lane
      → Turn files k file j lane ≡ Turn files i other h lane → (k ≡ i) × (j ≡ h)
  one_turn files k i file other j h lane t u there here s own there' here' s' own' e = elim (cases_lt k i) [
    | inl low ↦ absurd (let a = earlier_file files k i file other j h lane t low there here s own in omega (arith, a, e))
    | inr up ↦ elim (cases_lt i k) [
      | inl low ↦ absurd (let a = earlier_file files i k other file h j lane u low there' here' s' own' in omega (arith, a, e))
      | inr down ↦
          let same : k ≡ i = omega (arith, up, down) in
          let files_same : file ≡ other = same_file file other (sym there ∙ subst (λ m. slice_get files m ≡ Some other) (sym same) there') in (
            same,
            elim (cases_lt j h) [
              | inl low ↦
                  absurd (
                  let a = fewer_before sound (K.coordinators * K.lanes) lane file j h t low here s own in
                  let b = ap (λ f. length (sent_to K sound (take h f) lane)) files_same in
                  let c = ap (λ m. sent_before K sound (take m files) lane) same in
                  omega (arith, a, b, c, e)
                  )
              | inr over ↦ elim (cases_lt h j) [
                | inl low ↦
                    absurd (
                    let a = fewer_before sound (K.coordinators * K.lanes) lane other h j u low here' s' own' in
                    let b = ap (λ f. length (sent_to K sound (take j f) lane)) files_same in
                    let c = ap (λ m. sent_before K sound (take m files) lane) same in
                    omega (arith, a, b, c, e)
                    )
                | inr under ↦ omega (arith, over, under)
              ]
            ],
          )
    ]
  ]

  -- each that a lane gets is a sound submission at its turn
  pub record Found (files : List (List FullTx)) (lane q : ℕ) (c : Compact) : Type 0 where
    pub number : ℕ
    pub file : List FullTx
    pub file_is : slice_get files number ≡ Some file
    pub place : ℕ
    pub tx : FullTx
    pub tx_is : slice_get file place ≡ Some tx
    pub is_sound : sound tx ≡ true
    pub lane_of : lane_at K place ≡ lane
    pub turn_is : q ≡ Turn files number file place lane
    pub is_compact : c ≡ compact tx

  in_front : (A B : List Compact) (q : ℕ) → q < length A → tx_at (A ++ B) q ≡ tx_at A q
  in_front [] B q low = absurd (omega (arith, low))
  in_front (a ∷ A) B zero low = refl
  in_front (a ∷ A) B (suc q) low = in_front A B q (omega (arith, low))

  pub found : (files : List (List FullTx)) (lane q : ℕ) (c : Compact) → tx_at (sent_of_all K sound files lane) q ≡ Some c → Found files lane q c
  found [] lane q c e = absurd (let z : None ≡ Some c = e in cc)
  found (file ∷ files) lane q c e = elim (cases_lt q (length (sent_to K sound file lane))) [
    | inl low ↦
        let f = comes sound (K.coordinators * K.lanes) lane file 0 q c
        (sym (in_front (sent_to K sound file lane) (sent_of_all K sound files lane) q low) ∙ e) in
        record {
          number = 0;
          file = file;
          file_is = refl;
          place = f.place;
          tx = f.tx;
          tx_is = f.tx_is;
          is_sound = f.is_sound;
          lane_of = ap (λ m. m % (K.coordinators * K.lanes)) (sym (from_zero f.place)) ∙ f.lane_of;
          turn_is = f.turn_is ∙ sym (from_zero (length (sent_to K sound (take f.place file) lane)));
          is_compact = f.is_compact;
        }
    | inr past ↦
        let rest = q - length (sent_to K sound file lane) in
        let is : q ≡ length (sent_to K sound file lane) + (q - length (sent_to K sound file lane)) = omega (arith, past) in
        let f = found files lane (q - length (sent_to K sound file lane)) c
        (sym (tx_behind (sent_to K sound file lane) (sent_of_all K sound files lane) (q - length (sent_to K sound file lane)) q is) ∙ e) in
        record {
          number = suc f.number;
          file = f.file;
          file_is = f.file_is;
          place = f.place;
          tx = f.tx;
          tx_is = f.tx_is;
          is_sound = f.is_sound;
          lane_of = f.lane_of;
          turn_is = is ∙ (let t = f.turn_is in let h = sum_by-cons (λ g. length (sent_to K sound g lane)) file (take f.number files) in
              omega (arith, t, h));
          is_compact = f.is_compact;
        }
  ]

-- The result of each submission of a run, by what its waves tell.
use Rattle.std.proofs.Common.{◌≡◌, ℕ, zero, suc, ◌+◌, ◌*◌, ◌%◌, ◌<◌, ◌≤◌, Bool, true, false, ◌==◌, List, [], ◌∷◌, ◌++◌, map, length, take, drop, Some}
use Rattle.std.proofs.Common.{None, refl, sym, ap, ◌∙◌, subst, arith, append_assoc, append-nil}
use Rattle.std.specs.Prelude.{slice_get, option_map}
use Rattle.std.proofs.lemmas.List.{length-append, take_more, take-append-drop, length-map}
use Rattle.std.specs.List.{filter}
use Rattle.std.specs.Prelude.{if◌then◌else◌}
use Rattle.std.proofs.lemmas.List.Sums.{sum_by-cons}
use Rattle.std.proofs.lemmas.Option.{slice_get_within, get_or_from_slice_get}
use Rattle.cbdc_model.specs.Records.{Shape, Batch, Outcome, Record}
use Rattle.cbdc_model.specs.Coins.{FullTx, tx_id}
use Rattle.cbdc_model.specs.Lanes.{IsEnd}
use Rattle.cbdc_model.specs.Waves.{sent_to}
use Rattle.submissions.specs.Checks.{VerdictsOf, TellsSound, IsSaid, AreChecked}
use Rattle.submissions.specs.declared.Checked.{Checked}
use Rattle.submissions.specs.declared.Judgement.{Judgement}
use Rattle.submissions.specs.declared.Judgement.TheVariants as judged
use Rattle.submissions.proofs.Shares.{sent_more, sent_if}
use Rattle.printed_lines.specs.Decided.{decided_at}
use Rattle.printed_lines.specs.declared.report.Report.{Report}
use Rattle.printed_lines.specs.declared.report.Report.TheVariants as reports
use Rattle.printed_lines.specs.Runs.{IsReport, AreReports, AreAllReports, lane_at, sent_before, turn, report_line, file_lines, files_lines, count_in}
use Rattle.ledger_runs.specs.Telling.{SamePrepared, kept_by}
use Rattle.ledger_runs.specs.declared.lanes.Decided.{Decided}
use Rattle.file_runs.specs.Telling.{TellFiles}
use Rattle.file_runs.specs.declared.waves.Wave.{Wave}
use Rattle.run_lines.specs.Told.{kept_in_lane, told_report, told_line, told_file, told_files, one_where, told_count, told_total}
use Rattle.run_lines.proofs.Decisions.{decided_is, sent_of}

-- ---- what goes to lanes

module _ (K : Shape) (sound : FullTx → Bool) where
  more_sent : (a b : List FullTx) (lane : ℕ) → length (sent_to K sound a lane) ≤ length (sent_to K sound (a ++ b) lane)
  more_sent a [] lane = subst (λ l. length (sent_to K sound a lane) ≤ length (sent_to K sound l lane)) (sym (append-nil a)) (omega arith)
  more_sent a (t ∷ b) lane =
      let one = ap length (sent_more K sound a t lane) in
      let app = length-append (sent_to K sound a lane) (sent_if (length a % (K.coordinators * K.lanes) == lane) (sound t) t) in
      let rest = more_sent (a ++ t ∷ []) b lane in
      let whole = ap (λ l. length (sent_to K sound l lane)) (append_assoc a (t ∷ []) b) in
      omega (arith, one, app, rest, whole)

  -- a sound submission is one of those that its lane gets
  is_sent : (file : List FullTx) (j : ℕ) (t : FullTx) → slice_get file j ≡ Some t → sound t ≡ true
      → length (sent_to K sound (take j file) (lane_at K j)) < length (sent_to K sound file (lane_at K j))
  is_sent file j t at is =
      let low = slice_get_within file j t at in
      let long : length (take j file) ≡ j = length_take j file low in
      let here : ((length (take j file) % (K.coordinators * K.lanes)) == lane_at K j) ≡ true =
      ap (λ n. (n % (K.coordinators * K.lanes)) == lane_at K j) long ∙ same (lane_at K j) in
      let one : length (sent_if ((length (take j file) % (K.coordinators * K.lanes)) == lane_at K j) (sound t) t) ≡ 1 =
      ap (λ b. length (sent_if b (sound t) t)) here ∙ ap (λ b. length (sent_if true b t)) is in
      let added = ap length (sent_more K sound (take j file) t (lane_at K j)) in
      let app = length-append (sent_to K sound (take j file) (lane_at K j))
      (sent_if ((length (take j file) % (K.coordinators * K.lanes)) == lane_at K j) (sound t) t) in
      let parts : (take j file ++ t ∷ []) ++ drop (j + 1) file ≡ file =
      ap (λ l. l ++ drop (j + 1) file) (ap (λ x. take j file ++ x ∷ []) (sym (get_or_from_slice_get file j t t at))
      ∙ sym (take_more file j t low)) ∙ take-append-drop (j + 1) file in
      let rest = more_sent (take j file ++ t ∷ []) (drop (j + 1) file) (lane_at K j) in
      let whole = ap (λ l. length (sent_to K sound l (lane_at K j))) parts in
      omega (arith, one, added, app, rest, whole)
    where
      same : (n : ℕ) → (n == n) ≡ true
      same n = grind arith

      length_take : (n : ℕ) (xs : List FullTx) → n < length xs → length (take n xs) ≡ n
      length_take zero xs lt = refl
      length_take (suc n) [] lt = absurd (omega (arith, lt))
      length_take (suc n) (x ∷ xs) lt = ap suc (length_take n xs (omega (arith, lt)))

-- ---- what lanes keep

get_mapped : {A B : Type 0} (f : A → B) (xs : List A) (i : ℕ) → slice_get (map f xs) i ≡ option_map f (slice_get xs i)
get_mapped f [] i = refl
get_mapped f (x ∷ xs) zero = refl
get_mapped f (x ∷ xs) (suc i) = get_mapped f xs i

abbrev pair : Decided → Batch × Outcome
pair v = (v.batch, v.outcome)

get_there : {A : Type 0} (xs : List A) (i : ℕ) → i < length xs → (x : A) × (slice_get xs i ≡ Some x)
get_there [] i lt = absurd (omega (arith, lt))
get_there (x ∷ xs) zero lt = (x, refl)
get_there (x ∷ xs) (suc i) lt = get_there xs i (omega (arith, lt))

count_one : (test : Report → Bool) (r : Report) (rs : List Report) → length (filter test (r ∷ rs)) ≡ one_where test (Some r) + length (filter test rs)
count_one test r rs = elim (test r) as (λ b. length (if b then r ∷ filter test rs else filter test rs)
    ≡ (if b then 1 else 0) + length (filter test rs)) [
      | true ↦ omega arith
      | false ↦ omega arith
    ]

-- one in front of those from the next place on
cons_each : (P : ℕ → FullTx → Report → Type 0) (from : ℕ) (t : FullTx) (ts : List FullTx) (r : Report) (rs : List Report) → P from t r
    → ((i : ℕ) (u : FullTx) (s : Report) → slice_get ts i ≡ Some u → slice_get rs i ≡ Some s → P (suc from + i) u s)
    → (i : ℕ) (u : FullTx) (s : Report) → slice_get (t ∷ ts) i ≡ Some u → slice_get (r ∷ rs) i ≡ Some s → P (from + i) u s
cons_each P from t ts r rs first rest zero u s at got =
    let one : t ≡ u = some_tx t u at in
    let two : r ≡ s = some_report r s got in
    subst (λ n. P n u s) (omega arith) (subst (λ v. P from v s) one (subst (λ v. P from t v) two first))
  where
    some_tx : (a b : FullTx) → Some a ≡ Some b → a ≡ b
    some_tx a b e = cc

    some_report : (a b : Report) → Some a ≡ Some b → a ≡ b
    some_report a b e = cc
cons_each P from t ts r rs first rest (suc i) u s at got = subst (λ n. P n u s) (omega arith) (rest i u s at got)

module _ (K : Shape) (verdicts : VerdictsOf) (sound : FullTx → Bool) (tells : TellsSound verdicts sound) (some : 0 < K.coordinators * K.lanes)
    (E M X : ℕ → List Record) (grows : (n : ℕ) → IsEnd (E n) (M n)) (same : SamePrepared K E M) (files : List (List FullTx)) (ws : List Wave)
    (told : TellFiles K verdicts files M X ws) where
  sent_is : (fs : List (List FullTx)) (lane : ℕ) → sent_before K sound fs lane ≡ sent_of K verdicts sound tells fs lane
  sent_is [] lane = refl
  sent_is (f ∷ fs) lane = sum_by-cons (λ file. length (sent_to K sound file lane)) f fs
      ∙ ap (λ n. length (sent_to K sound f lane) + n) (sent_is fs lane)

  -- what is told of a submission is its result
  module _ (k : ℕ) (file : List FullTx) (w : Wave) (here : slice_get files k ≡ Some file) (there : slice_get ws k ≡ Some w)
      (checked : AreChecked K verdicts file w.checked.items) (count : length w.lanes.items ≡ K.coordinators * K.lanes) where
    abbrev Told : ℕ → FullTx → Checked → Type 0
    Told j t c = (c.id ≡ tx_id t) × ((r : Report) × (told_report w.lanes.items c.judgement ≡ Some r)
        × IsReport K verdicts sound E X (take k files) file j t r)

    sound_told : (j : ℕ) (t : FullTx) (lane place : ℕ) → slice_get file j ≡ Some t → IsSaid K verdicts file j t (judged.Sound lane place)
        → (r : Report) × (told_report w.lanes.items (judged.Sound lane place) ≡ Some r) × IsReport K verdicts sound E X (take k files) file j t r
    sound_told j t lane place at said =
        let lane_is : lane ≡ lane_at K j = said.1 in
        let low : lane < K.coordinators * K.lanes = subst (λ l. l < K.coordinators * K.lanes) (sym lane_is) (omega (arith, some)) in
        let x = get_there w.lanes.items lane (omega (arith, low, count)) in
        let place_is : place ≡ length (sent_to K sound (take j file) lane) = said.2 sound tells in
        let inside : place < length (sent_to K sound file lane) =
        subst (λ n. n < length (sent_to K sound file lane)) (sym place_is)
        (subst (λ l. length (sent_to K sound (take j file) l) < length (sent_to K sound file l)) (sym lane_is)
        (is_sent K sound file j t at ((tells t).1 said.0))) in
        let d_is = decided_is K verdicts sound tells lane low files k file w x.0 E M X ws place grows same told here there x.1 inside in
        let d = get_there x.0.decided.items place (let l = d_is.1 in let m = length-map x.0.decided.items pair in omega (arith, inside, l, m)) in
        let kept : slice_get (kept_by x.0.decided.items) place ≡ Some (d.0.batch, d.0.outcome) =
        get_mapped pair x.0.decided.items place ∙ ap (option_map pair) d.1 in
        let turn_is : sent_of K verdicts sound tells (take k files) lane + place ≡ turn K sound (take k files) file j =
        ap (λ n. n + place) (sym (sent_is (take k files) lane)) ∙ ap (λ n. sent_before K sound (take k files) lane + n) place_is
        ∙ ap (λ l. sent_before K sound (take k files) l + length (sent_to K sound (take j file) l)) lane_is in
        let decided : decided_at K E X (lane_at K j) (turn K sound (take k files) file j) ≡ Some (d.0.batch, d.0.outcome) =
        ap (λ l. decided_at K E X l (turn K sound (take k files) file j)) (sym lane_is)
        ∙ ap (decided_at K E X lane) (sym turn_is) ∙ d_is.0 ∙ kept in (
          reports.Decided d.0.batch d.0.outcome,
          ap (λ o. option_map (λ v. reports.Decided v.batch v.outcome) (kept_in_lane o place)) x.1
              ∙ ap (option_map (λ v. reports.Decided v.batch v.outcome)) d.1,
          (said.0, decided),
        )

    one_told : (j : ℕ) (t : FullTx) (c : Checked) → slice_get file j ≡ Some t → slice_get w.checked.items j ≡ Some c → Told j t c
    one_told j t c at got = ((checked.each j t c at got).0, go c.judgement (checked.each j t c at got).1)
      where
        go : (judgement : Judgement) → IsSaid K verdicts file j t judgement
            → (r : Report) × (told_report w.lanes.items judgement ≡ Some r) × IsReport K verdicts sound E X (take k files) file j t r
        go (judged.Refused why) said = (reports.Refused why, refl, said)
        go (judged.Sound lane place) said = sound_told j t lane place at said

    -- of those from a place on
    pub record Reported (n from : ℕ) (ts : List FullTx) (cs : List Checked) : Type 0 where
      pub reports_of : List Report
      pub long : length reports_of ≡ length ts
      pub each : (i : ℕ) (t : FullTx) (r : Report) → slice_get ts i ≡ Some t → slice_get reports_of i ≡ Some r
          → IsReport K verdicts sound E X (take k files) file (from + i) t r
      pub lines : told_file n from w.lanes.items cs ≡ file_lines n from ts reports_of
      pub counts : (test : Report → Bool) → length (filter test reports_of) ≡ told_count test w.lanes.items cs

    reported : (n from : ℕ) (ts : List FullTx) (cs : List Checked) → length cs ≡ length ts
        → ((i : ℕ) (t : FullTx) (c : Checked) → slice_get ts i ≡ Some t → slice_get cs i ≡ Some c → Told (from + i) t c) → Reported n from ts cs
    reported n from [] [] long each = record {
      reports_of = [];
      long = refl;
      each = λ i t r at got. absurd (let z : None ≡ Some t = at in cc);
      lines = refl;
      counts = λ test. refl;
    }
    reported n from [] (c ∷ cs) long each = absurd (omega (arith, long))
    reported n from (t ∷ ts) [] long each = absurd (omega (arith, long))
    reported n from (t ∷ ts) (c ∷ cs) long each =
        let first = subst (λ j. Told j t c) (omega arith) (each 0 t c refl refl) in
        let rest = reported n (suc from) ts cs (omega (arith, long))
        (λ i u d at got. subst (λ j. Told j u d) (omega arith) (each (suc i) u d at got)) in
        let r = first.1.0 in
        record {
          reports_of = r ∷ rest.reports_of;
          long = ap suc rest.long;
          each = cons_each (IsReport K verdicts sound E X (take k files) file) from t ts r rest.reports_of first.1.2 rest.each;
          lines = ap (λ o. told_line n from c.id o ++ told_file n (suc from) w.lanes.items cs) first.1.1
              ∙ ap (λ x. report_line n from x r ++ told_file n (suc from) w.lanes.items cs) first.0
              ∙ ap (λ l. report_line n from (tx_id t) r ++ l) rest.lines;
          counts = λ test. count_one test r rest.reports_of ∙ ap (λ m. one_where test (Some r) + m) (rest.counts test)
              ∙ ap (λ o. one_where test o + told_count test w.lanes.items cs) (sym first.1.1);
        }

    pub wave_reports : (n : ℕ) → Reported n 0 file w.checked.items
    wave_reports n = reported n 0 file w.checked.items checked.count (λ i t c at got. subst (λ j. Told j t c) (omega arith) (one_told i t c at got))

  -- ---- all files

  wave_is : (fs : List (List FullTx)) (I J : ℕ → List Record) (vs : List Wave) → TellFiles K verdicts fs I J vs
      → (i : ℕ) (f : List FullTx) (v : Wave) → slice_get fs i ≡ Some f → slice_get vs i ≡ Some v
      → AreChecked K verdicts f v.checked.items × (length v.lanes.items ≡ K.coordinators * K.lanes)
  wave_is [] I J vs t i f v at got = absurd (let z : None ≡ Some f = at in cc)
  wave_is (g ∷ fs) I J vs (N, u, more, is, one, rest) zero f v at got =
      let same_file : g ≡ f = some_file g f at in
      let same_wave : u ≡ v = some_wave u v (sym (ap (λ l. slice_get l 0) is) ∙ got) in (
        subst (λ x. AreChecked K verdicts x v.checked.items) same_file (subst (λ y. AreChecked K verdicts g y.checked.items) same_wave one.checked),
        subst (λ y. length y.lanes.items ≡ K.coordinators * K.lanes) same_wave one.count,
      )
    where
      some_file : (a b : List FullTx) → Some a ≡ Some b → a ≡ b
      some_file a b e = cc

      some_wave : (a b : Wave) → Some a ≡ Some b → a ≡ b
      some_wave a b e = cc
  wave_is (g ∷ fs) I J vs (N, u, more, is, one, rest) (suc i) f v at got =
      wave_is fs N J more rest i f v at (sym (ap (λ l. slice_get l (suc i)) is) ∙ got)

  as_many : (fs : List (List FullTx)) (I J : ℕ → List Record) (vs : List Wave) → TellFiles K verdicts fs I J vs → length vs ≡ length fs
  as_many [] I J vs t = ap length t.0
  as_many (g ∷ fs) I J vs (N, u, more, is, one, rest) = ap length is ∙ ap suc (as_many fs N J more rest)

  -- of the files from one on
  pub record AllReported (k : ℕ) (fs : List (List FullTx)) (vs : List Wave) : Type 0 where
    pub all : List (List Report)
    pub many : length all ≡ length fs
    pub each : (i : ℕ) (f : List FullTx) (rs : List Report) → slice_get fs i ≡ Some f → slice_get all i ≡ Some rs
        → AreReports K verdicts sound E X (take (k + i) files) f rs
    pub lines : told_files (suc k) vs ≡ files_lines (suc k) fs all
    pub counts : (test : Report → Bool) → count_in test all ≡ told_total test vs

  cons_all : (P : ℕ → List FullTx → List Report → Type 0) (from : ℕ) (t : List FullTx) (ts : List (List FullTx)) (r : List Report)
      (rs : List (List Report)) → P from t r
      → ((i : ℕ) (u : List FullTx) (s : List Report) → slice_get ts i ≡ Some u → slice_get rs i ≡ Some s → P (suc from + i) u s)
      → (i : ℕ) (u : List FullTx) (s : List Report) → slice_get (t ∷ ts) i ≡ Some u → slice_get (r ∷ rs) i ≡ Some s → P (from + i) u s
  cons_all P from t ts r rs first rest zero u s at got =
      let one : t ≡ u = some_file t u at in
      let two : r ≡ s = some_reports r s got in
      subst (λ n. P n u s) (omega arith) (subst (λ v. P from v s) one (subst (λ v. P from t v) two first))
    where
      some_file : (a b : List FullTx) → Some a ≡ Some b → a ≡ b
      some_file a b e = cc

      some_reports : (a b : List Report) → Some a ≡ Some b → a ≡ b
      some_reports a b e = cc
  cons_all P from t ts r rs first rest (suc i) u s at got = subst (λ n. P n u s) (omega arith) (rest i u s at got)

  all_from : (k : ℕ) (fs : List (List FullTx)) (vs : List Wave) → length vs ≡ length fs
      → ((i : ℕ) (f : List FullTx) → slice_get fs i ≡ Some f → slice_get files (k + i) ≡ Some f)
      → ((i : ℕ) (v : Wave) → slice_get vs i ≡ Some v → slice_get ws (k + i) ≡ Some v) → AllReported k fs vs
  all_from k [] [] long at got = record {
    all = [];
    many = refl;
    each = λ i f rs h g. absurd (let z : None ≡ Some f = h in cc);
    lines = refl;
    counts = λ test. refl;
  }
  all_from k [] (v ∷ vs) long at got = absurd (omega (arith, long))
  all_from k (f ∷ fs) [] long at got = absurd (omega (arith, long))
  all_from k (f ∷ fs) (v ∷ vs) long at got =
      let here : slice_get files k ≡ Some f = ap (slice_get files) (omega arith) ∙ at 0 f refl in
      let there : slice_get ws k ≡ Some v = ap (slice_get ws) (omega arith) ∙ got 0 v refl in
      let its = wave_is files M X ws told k f v here there in
      let own = wave_reports k f v here there its.0 its.1 (suc k) in
      let rest = all_from (suc k) fs vs (omega (arith, long)) (λ i g h. ap (slice_get files) (omega arith) ∙ at (suc i) g h)
      (λ i u h. ap (slice_get ws) (omega arith) ∙ got (suc i) u h) in
      let mine : AreReports K verdicts sound E X (take k files) f own.reports_of = record {
        count = own.long;
        each = λ j t r h g. subst (λ m. IsReport K verdicts sound E X (take k files) f m t r) (omega arith) (own.each j t r h g);
      } in
      record {
        all = own.reports_of ∷ rest.all;
        many = ap suc rest.many;
        each = cons_all (λ m g rs. AreReports K verdicts sound E X (take m files) g rs) k f fs own.reports_of rest.all mine rest.each;
        lines = ap (λ l. l ++ told_files (suc (suc k)) vs) own.lines ∙ ap (λ l. file_lines (suc k) 0 f own.reports_of ++ l) rest.lines;
        counts = λ test. sum_by-cons (λ rs. length (filter test rs)) own.reports_of rest.all ∙ ap (λ m. m + count_in test rest.all) (own.counts test)
            ∙ ap (λ m. told_count test v.lanes.items v.checked.items + m) (rest.counts test);
      }

  -- the results of all submissions, and their lines
  pub all_reported : (all : List (List Report)) × AreAllReports K verdicts sound E X files all × (told_files 1 ws ≡ files_lines 1 files all)
      × ((test : Report → Bool) → count_in test all ≡ told_total test ws)
  all_reported =
      let r = all_from 0 files ws (as_many files M X ws told) (λ i f h. ap (slice_get files) (omega arith) ∙ h)
      (λ i v h. ap (slice_get ws) (omega arith) ∙ h) in (
        r.all,
        record {
          count = r.many;
          each = λ k f rs h g. subst (λ n. AreReports K verdicts sound E X (take n files) f rs) (omega arith) (r.each k f rs h g);
        },
        r.lines,
        r.counts,
      )

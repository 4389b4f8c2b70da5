-- How many batches a run prepared, and how many submissions it had.
use Rattle.std.proofs.Common.{◌≡◌, ℕ, zero, suc, ◌+◌, ◌*◌, ◌%◌, ◌<◌, ◌≤◌, Bool, true, false, ◌==◌, List, [], ◌∷◌, length, take, get_or, add-one}
use Rattle.std.proofs.Common.{if◌then◌else◌, Option, Some, None, refl, sym, ap, ◌∙◌, subst, arith}
use Rattle.std.specs.Prelude.{slice_get}
use Rattle.std.specs.List.{filter}
use Rattle.std.proofs.lemmas.List.{length-map, length-append, take_all}
use Rattle.std.proofs.lemmas.List.Sums.{sum_by_more, sum_by-cons}
use Rattle.cbdc_model.specs.Records.{Shape, Record}
use Rattle.cbdc_model.specs.Ranges.{home_of}
use Rattle.cbdc_model.specs.Coins.{FullTx, compact}
use Rattle.cbdc_model.specs.Lanes.{IsEnd}
use Rattle.cbdc_model.specs.Waves.{prepared, share, sent_to}
use Rattle.cbdc_model.specs.Places.{sized_onto}
use Rattle.submissions.specs.Checks.{VerdictsOf, TellsSound}
use Rattle.submissions.specs.declared.Checked.{Checked}
use Rattle.input_files.specs.Contents.{all_txs}
use Rattle.ledger_runs.specs.Telling.{SamePrepared}
use Rattle.ledger_runs.specs.declared.lanes.Lane.{Lane}
use Rattle.ledger_runs.proofs.Sizes.{prepared_more, count_is, fewer}
use Rattle.file_runs.specs.Telling.{TellsFile, TellFiles}
use Rattle.file_runs.specs.declared.waves.Wave.{Wave}
use Rattle.printed_lines.specs.declared.report.Report.{Report}
use Rattle.printed_lines.specs.Decided.{batches_below, new_batches}
use Rattle.run_lines.specs.Told.{told_report, one_where, told_count, told_total, batches_in, batches_told}
use Rattle.run_lines.proofs.Decisions.{Came, by_file, added_is}

-- ---- no more than there are transactions

share_few : {A : Type 0} (n lane k : ℕ) (xs : List A) → length (share n lane k xs) ≤ length xs
share_few n lane k [] = omega arith
share_few n lane k (x ∷ xs) = let r = share_few n lane (suc k) xs in
    elim (k % n == lane) as (λ b. length (if b then x ∷ share n lane (suc k) xs else share n lane (suc k) xs) ≤ suc (length xs)) [
      | true ↦ omega (arith, r)
      | false ↦ omega (arith, r)
    ]

filter_few : {A : Type 0} (p : A → Bool) (xs : List A) → length (filter p xs) ≤ length xs
filter_few p [] = omega arith
filter_few p (x ∷ xs) = let r = filter_few p xs in elim (p x) as (λ b. length (if b then x ∷ filter p xs else filter p xs) ≤ suc (length xs)) [
  | true ↦ omega (arith, r)
  | false ↦ omega (arith, r)
]

sent_few : (K : Shape) (sound : FullTx → Bool) (file : List FullTx) (lane : ℕ) → length (sent_to K sound file lane) ≤ length file
sent_few K sound file lane =
    let a = length-map (filter sound (share (K.coordinators * K.lanes) lane 0 file)) compact in
    let b = filter_few sound (share (K.coordinators * K.lanes) lane 0 file) in
    let c = share_few (K.coordinators * K.lanes) lane 0 file in
    omega (arith, a, b, c)

one_few : (test : Report → Bool) (r : Option Report) → one_where test r ≤ 1
one_few test None = omega arith
one_few test (Some r) = elim (test r) as (λ b. (if b then 1 else 0) ≤ 1) [
  | true ↦ omega arith
  | false ↦ omega arith
]

count_few : (test : Report → Bool) (lanes : List Lane) (cs : List Checked) → told_count test lanes cs ≤ length cs
count_few test lanes [] = omega arith
count_few test lanes (c ∷ cs) = let a = one_few test (told_report lanes c.judgement) in let b = count_few test lanes cs in omega (arith, a, b)

pub total_few : (K : Shape) (verdicts : VerdictsOf) (test : Report → Bool) (files : List (List FullTx)) (I J : ℕ → List Record) (ws : List Wave)
    → TellFiles K verdicts files I J ws → told_total test ws ≤ all_txs files
total_few K verdicts test [] I J ws told = subst (λ l. told_total test l ≤ 0) (sym told.0) (omega arith)
total_few K verdicts test (file ∷ files) I J ws (M, w, more, is, one, rest) =
    let a = count_few test w.lanes.items w.checked.items in
    let b = total_few K verdicts test files M J more rest in
    let c = one.checked.count in
    subst (λ l. told_total test l ≤ all_txs (file ∷ files)) (sym is) (omega (arith, a, b, c))

-- ---- how many batches

-- how many Prepares the lanes below n have
abbrev prepares_below : Shape → (ℕ → List Record) → ℕ → ℕ
prepares_below K J zero = 0
prepares_below K J (suc lane) = prepares_below K J lane + length (prepared lane (J (home_of K lane)))

prepares_same : (K : Shape) (I J : ℕ → List Record) (n : ℕ) → ((lane : ℕ) → prepared lane (J (home_of K lane)) ≡ prepared lane (I (home_of K lane)))
    → prepares_below K J n ≡ prepares_below K I n
prepares_same K I J zero same = refl
prepares_same K I J (suc lane) same = let r = prepares_same K I J lane same in let s = ap length (same lane) in omega (arith, r, s)

get_there : {A : Type 0} (xs : List A) (i : ℕ) → i < length xs → (x : A) × (slice_get xs i ≡ Some x) × (get_or xs i x ≡ x)
get_there [] i lt = absurd (omega (arith, lt))
get_there (x ∷ xs) zero lt = (x, refl, refl)
get_there (x ∷ xs) (suc i) lt = get_there xs i (omega (arith, lt))

new_below : (K : Shape) (E X : ℕ → List Record) (grows : (n : ℕ) → IsEnd (E n) (X n)) (n : ℕ)
    → batches_below K E X n + prepares_below K E n ≡ prepares_below K X n
new_below K E X grows zero = refl
new_below K E X grows (suc lane) =
    let r = new_below K E X grows lane in
    let g = grows (home_of K lane) in
    let fresh = ap (λ l. length (prepared lane l)) (added_is (E (home_of K lane)) (X (home_of K lane)) g.0 g.1) in
    let grown = ap (λ l. length (prepared lane l)) g.1 ∙ ap length (prepared_more lane g.0 (E (home_of K lane)))
    ∙ length-append (prepared lane g.0) (prepared lane (E (home_of K lane))) in
    omega (arith, r, fresh, grown)

module _ (K : Shape) (verdicts : VerdictsOf) (sound : FullTx → Bool) (tells : TellsSound verdicts sound) where
  -- the lane's count is that of its new Prepares, and it is not more than the transactions
  one_lane : (file : List FullTx) (I J : ℕ → List Record) (w : Wave) (lane : ℕ) (x : Lane) → length file ≤ 1000000 → lane < K.coordinators * K.lanes
      → TellsFile K verdicts file I J w → slice_get w.lanes.items lane ≡ Some x
      → (x.batches + length (prepared lane (I (home_of K lane))) ≡ length (prepared lane (J (home_of K lane)))) × (x.batches ≤ length file)
  one_lane file I J w lane x few low told at =
      let came : Came K verdicts sound tells lane low I J (length (sent_to K sound file lane)) =
      by_file K verdicts sound tells lane low file I J (told.runs sound tells) in
      let keeps = told.tell lane x at came.more came.grown in
      let many = count_is lane came.more in
      let bound = fewer (J (home_of K lane)) (sized_onto lane came.more []) keeps.each in
      let sent = sent_few K sound file lane in
      let grown = ap (λ l. length (prepared lane l)) came.grown ∙ ap length (prepared_more lane came.more (I (home_of K lane)))
      ∙ length-append (prepared lane came.more) (prepared lane (I (home_of K lane))) in
      let all = came.total_is in
      let own = keeps.count_is in
      (omega (arith, few, many, bound, sent, grown, all, own), omega (arith, few, many, bound, sent, all, own))

  lanes_below : (file : List FullTx) (I J : ℕ → List Record) (w : Wave) → length file ≤ 1000000 → TellsFile K verdicts file I J w → (n : ℕ)
      → n ≤ K.coordinators * K.lanes
      → (batches_in (take n w.lanes.items) + prepares_below K I n ≡ prepares_below K J n) × (batches_in (take n w.lanes.items) ≤ n * length file)
  lanes_below file I J w few told zero le = (refl, omega arith)
  lanes_below file I J w few told (suc n) le =
      let r = lanes_below file I J w few told n (omega (arith, le)) in
      let long = told.count in
      let x = get_there w.lanes.items n (omega (arith, le, long)) in
      let one = one_lane file I J w n x.0 few (omega (arith, le)) told x.1 in
      let next : batches_in (take (suc n) w.lanes.items) ≡ batches_in (take n w.lanes.items) + x.0.batches =
      ap (λ m. batches_in (take m w.lanes.items)) (sym (add-one n)) ∙ sum_by_more (λ y. y.batches) w.lanes.items n x.0 (omega (arith, le, long))
      ∙ ap (λ y. batches_in (take n w.lanes.items) + y.batches) x.2 in
      (omega (arith, r.0, one.0, next), omega (arith, r.1, one.1, next))

  files_below : (files : List (List FullTx)) (I J : ℕ → List Record) (ws : List Wave) → all_txs files ≤ 1000000 → TellFiles K verdicts files I J ws
      → (batches_told ws + prepares_below K I (K.coordinators * K.lanes) ≡ prepares_below K J (K.coordinators * K.lanes))
      × (batches_told ws ≤ (K.coordinators * K.lanes) * all_txs files)
  files_below [] I J ws few told =
      let same = prepares_same K I J (K.coordinators * K.lanes) (λ lane. ap (prepared lane) (told.1 (home_of K lane))) in
      let none = ap batches_told told.0 in
      (omega (arith, same, none), omega (arith, none))
  files_below (file ∷ files) I J ws few (M, w, more, is, one, rest) =
      let n = K.coordinators * K.lanes in
      let r = files_below files M J more (omega (arith, few)) rest in
      let a = lanes_below file I M w (omega (arith, few)) one n (omega arith) in
      let all : batches_in (take n w.lanes.items) ≡ batches_in w.lanes.items =
      ap batches_in (take_all n w.lanes.items (let l = one.count in omega (arith, l))) in
      let parts = ap batches_told is ∙ sum_by-cons (λ v. batches_in v.lanes.items) w more in
      let by : n * all_txs (file ∷ files) ≡ n * length file + n * all_txs files = times_sum n (length file) (all_txs files) in
      (omega (arith, r.0, a.0, all, parts), omega (arith, r.1, a.1, all, parts, by))
    where
      times_sum : (a b c : ℕ) → a * (b + c) ≡ a * b + a * c
      times_sum zero b c = omega arith
      times_sum (suc a) b c = let h = times_sum a b c in omega (arith, h)

  -- the batches that waves tell are the lanes' new Prepares
  pub batches_are : (files : List (List FullTx)) (E M X : ℕ → List Record) (ws : List Wave) → ((n : ℕ) → IsEnd (E n) (X n)) → SamePrepared K E M
      → all_txs files ≤ 1000000 → TellFiles K verdicts files M X ws
      → (batches_told ws ≡ new_batches K E X) × (batches_told ws ≤ (K.coordinators * K.lanes) * all_txs files)
  batches_are files E M X ws grows same few told =
      let r = files_below files M X ws few told in
      let old = prepares_same K E M (K.coordinators * K.lanes) same in
      let new = new_below K E X grows (K.coordinators * K.lanes) in
      (omega (arith, r.0, old, new), r.1)

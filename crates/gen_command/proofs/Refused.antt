-- Of a workload nothing was open before, and no transaction is refused.
use Rattle.std.proofs.Common.{◌≡◌, ◌+◌, ◌*◌, ◌<◌, ℕ, zero, suc, Bool, true, false, if◌then◌else◌, List, [], ◌∷◌, length, Some, refl, ap, ◌∙◌, subst}
use Rattle.std.proofs.Common.{arith}
use Rattle.std.specs.Prelude.{slice_get, is_some, not, All}
use Rattle.std.specs.List.{filter}
use Rattle.std.proofs.lemmas.List.FromFn.{length-map-range_with_len}
use Rattle.std.proofs.lemmas.Option.{slice_get_within, get_or_from_slice_get}
use Rattle.cbdc_model.specs.Records.{Shape, Compact, Record, is_won}
use Rattle.cbdc_model.specs.Coins.{FullTx, genesis_id}
use Rattle.cbdc_model.specs.History.{minted, first_rows}
use Rattle.cbdc_model.specs.Ranges.{home_of}
use Rattle.cbdc_model.specs.Slots.{Phase, slot}
use Rattle.ledger_laws.proofs.First.{nothing, journal_first, all_first}
use Rattle.submissions.specs.SoundTest.{sound_by}
use Rattle.rack_laws.proofs.Opened.{at_place}
use Rattle.printed_lines.specs.declared.report.Report.{Report}
use Rattle.printed_lines.specs.declared.report.Report.TheVariants.{Refused, Decided}
use Rattle.printed_lines.specs.Recoveries.{open_phase, open_below, resumed_count}
use Rattle.printed_lines.specs.Runs.{AreReports, AreAllReports, is_confirmed, is_rejected, is_refused, count_in}
use Rattle.workload.specs.Generator.{mint_of, minted_of, joined_of, splits_of, joins_of, split_of, join_of}
use Rattle.submission_laws.proofs.Sound.{IsGood, two_sum, splits_sound, joins_sound}
use Rattle.gen_command.specs.Generated.{all_good, files_of, made_for}

-- ---- nothing was open

abbrev one_open : Phase → ℕ
one_open p = if is_some (open_phase p) then 1 else 0

module _ (K : Shape) (seed n : ℕ) (some : 0 < K.shards) where
  none_below : (lanes : ℕ) → open_below K (made_for K seed n) lanes ≡ 0
  none_below zero = refl
  none_below (suc lane) =
      let home = home_of K lane in
      let rest = none_below lane in
      let first = nothing (made_for K seed n home)
      (journal_first home (first_rows K (minted (mint_of seed n))) (all_first K (minted (mint_of seed n)) (λ (k : Compact). Unit {0}) some)) in
      let here : one_open (slot (made_for K seed n home) lane).phase ≡ 0 = ap one_open (first.phase lane) in
      omega (arith, rest, here)

  pub none_open : resumed_count K (made_for K seed n) ≡ 0
  none_open = none_below (K.coordinators * K.lanes)

-- ---- none is refused

pub none_in : (test : Report → Bool) (rs : List Report) → ((i : ℕ) (r : Report) → slice_get rs i ≡ Some r → test r ≡ false)
    → length (filter test rs) ≡ 0
none_in test [] none = refl
none_in test (r ∷ rs) none =
    ap (λ b. length (if b then r ∷ filter test rs else filter test rs)) (none 0 r refl) ∙ none_in test rs (λ i q at. none (suc i) q at)

-- each is confirmed, rejected or refused
each_one : (rs : List Report) → length (filter is_confirmed rs) + length (filter is_rejected rs) + length (filter is_refused rs) ≡ length rs
each_one [] = refl
each_one (Refused why ∷ rs) = let rest = each_one rs in omega (arith, rest)
each_one (Decided batch outcome ∷ rs) =
    let rest = each_one rs in
    elim (is_won outcome) as (λ b. length (if b then Decided batch outcome ∷ filter is_confirmed rs else filter is_confirmed rs)
    + length (if not b then Decided batch outcome ∷ filter is_rejected rs else filter is_rejected rs)
    + length (filter is_refused rs) ≡ suc (length rs)) [
      | true ↦ omega (arith, rest)
      | false ↦ omega (arith, rest)
    ]

module _ (K : Shape) (E X : ℕ → List Record) (earlier : List (List FullTx)) (file : List FullTx) (rs : List Report) (good : All IsGood file)
    (are : AreReports K all_good (sound_by all_good) E X earlier file rs) where
  not_refused : (i : ℕ) (r : Report) → slice_get rs i ≡ Some r → is_refused r ≡ false
  not_refused i (Decided batch outcome) at = refl
  not_refused i (Refused why) at =
      let low = slice_get_within rs i (Refused why) at in
      let t = at_place file i (let c = are.count in omega (arith, low, c)) in
      let is = subst IsGood (get_or_from_slice_get file i t.0 t.0 t.1) (good i t.0 (slice_get_within file i t.0 t.1)) in
      absurd (is why (are.each i t.0 (Refused why) t.1 at).applies)

  file_counts : (length (filter is_refused rs) ≡ 0) × (length (filter is_confirmed rs) + length (filter is_rejected rs) ≡ length file)
  file_counts =
      let none = none_in is_refused rs not_refused in
      let all = each_one rs in
      let count = are.count in
      (none, omega (arith, none, all, count))

module _ (K : Shape) (seed n : ℕ) (E X : ℕ → List Record) where
  two_counts : (all : List (List Report)) → AreAllReports K all_good (sound_by all_good) E X (files_of seed n) all
      → (count_in is_refused all ≡ 0) × (count_in is_confirmed all + count_in is_rejected all ≡ n)
  two_counts [] are = absurd (let c = are.count in omega (arith, c))
  two_counts (one ∷ []) are = absurd (let c = are.count in omega (arith, c))
  two_counts (one ∷ two ∷ []) are =
      let a = file_counts K E X [] (splits_of seed n) one (splits_sound seed n) (are.each 0 (splits_of seed n) one refl refl) in
      let b = file_counts K E X (splits_of seed n ∷ []) (joins_of seed n) two (joins_sound seed n) (are.each 1 (joins_of seed n) two refl refl) in
      let refused = two_sum (λ rs. length (filter is_refused rs)) one two in
      let confirmed = two_sum (λ rs. length (filter is_confirmed rs)) one two in
      let rejected = two_sum (λ rs. length (filter is_rejected rs)) one two in
      let first = length-map-range_with_len (split_of seed n (genesis_id (mint_of seed n))) 0 (minted_of n) in
      let second = length-map-range_with_len (join_of seed n (genesis_id (mint_of seed n))) 0 (joined_of n) in
      let a0 = a.0 in
      let a1 = a.1 in
      let b0 = b.0 in
      let b1 = b.1 in
      (omega (arith, refused, a0, b0), omega (arith, confirmed, rejected, a1, b1, first, second))
  two_counts (one ∷ two ∷ (three ∷ more)) are = absurd (let c = are.count in omega (arith, c))

  pub none_refused : (all : List (List Report)) → AreAllReports K all_good (sound_by all_good) E X (files_of seed n) all → count_in is_refused all ≡ 0
  none_refused all are = (two_counts all are).0

  pub all_decided : (all : List (List Report)) → AreAllReports K all_good (sound_by all_good) E X (files_of seed n) all
      → count_in is_confirmed all + count_in is_rejected all ≡ n
  all_decided all are = (two_counts all are).1

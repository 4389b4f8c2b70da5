-- Counts of a run, as far as 64 bits count.
use Rattle.std.proofs.Common.{◌≡◌, ℕ, ◌+◌, ◌<◌, Bool, List, [], ◌∷◌, ◌++◌, length, take, get_or, min, sym, ap, ◌∙◌, arith}
use Rattle.std.proofs.lemmas.List.{take_more}
use Rattle.std.proofs.lemmas.List.Sums.{sum_by_more}
use Rattle.submissions.specs.declared.Checked.{Checked}
use Rattle.ledger_runs.specs.declared.lanes.Lane.{Lane}
use Rattle.file_runs.specs.declared.waves.Wave.{Wave}
use Rattle.printed_lines.specs.declared.report.Report.{Report}
use Rattle.printed_lines.specs.Runs.{is_confirmed, is_rejected, is_refused}
use Rattle.run_lines.specs.declared.report.Counts.{Counts}
use Rattle.line_text.specs.Lines.{summary_text}
use Rattle.line_text.specs.declared.summary.Summary.{Summary}
use Rattle.file_runs.specs.declared.ran.Ran.{Ran}
use Rattle.run_lines.specs.Told.{told_report, one_where, told_count, told_total, batches_in, batches_told, IsCounted, AreCounts, AreNumbers}
use Rattle.run_lines.specs.Told.{numbers_of}

-- two counts as one
pub counted_more : (a b s m n t : ℕ) → IsCounted a m → IsCounted b n → s ≡ min (a + b) 18446744073709551615 → t ≡ m + n → IsCounted s t
counted_more a b s m n t one two is both = λ fits.
    let first = one (omega (arith, fits, both)) in
    let second = two (omega (arith, fits, both)) in
    omega (arith, first, second, is, both, fits)

pub counts_more : (a b s : Counts) (m n t : (Report → Bool) → ℕ) → AreCounts a m → AreCounts b n
    → s.confirmed ≡ min (a.confirmed + b.confirmed) 18446744073709551615 → s.rejected ≡ min (a.rejected + b.rejected) 18446744073709551615
    → s.refused ≡ min (a.refused + b.refused) 18446744073709551615
    → ((test : Report → Bool) → t test ≡ m test + n test) → AreCounts s t
counts_more a b s m n t one two confirmed rejected refused both = (
  counted_more a.confirmed b.confirmed s.confirmed (m is_confirmed) (n is_confirmed) (t is_confirmed) one.0 two.0 confirmed (both is_confirmed),
  counted_more a.rejected b.rejected s.rejected (m is_rejected) (n is_rejected) (t is_rejected) one.1 two.1 rejected (both is_rejected),
  counted_more a.refused b.refused s.refused (m is_refused) (n is_refused) (t is_refused) one.2 two.2 refused (both is_refused),
)

count_append : (test : Report → Bool) (lanes : List Lane) (a b : List Checked)
    → told_count test lanes (a ++ b) ≡ told_count test lanes a + told_count test lanes b
count_append test lanes [] b = omega arith
count_append test lanes (c ∷ a) b = let r = count_append test lanes a b in omega (arith, r)

total_append : (test : Report → Bool) (a b : List Wave) → told_total test (a ++ b) ≡ told_total test a + told_total test b
total_append test [] b = omega arith
total_append test (w ∷ a) b = let r = total_append test a b in omega (arith, r)

-- one submission more, and one file
pub count_next : (test : Report → Bool) (lanes : List Lane) (cs : List Checked) (i : ℕ) (c : Checked) → i < length cs → c ≡ get_or cs i c
    → told_count test lanes (take (i + 1) cs) ≡ told_count test lanes (take i cs) + one_where test (told_report lanes c.judgement)
count_next test lanes cs i c low is =
    let a = count_append test lanes (take i cs) (c ∷ []) in
    ap (told_count test lanes) (take_more cs i c low ∙ ap (λ x. take i cs ++ x ∷ []) (sym is)) ∙ omega (arith, a)

pub total_next : (test : Report → Bool) (ws : List Wave) (i : ℕ) (w : Wave) → i < length ws → w ≡ get_or ws i w
    → told_total test (take (i + 1) ws) ≡ told_total test (take i ws) + told_count test w.lanes.items w.checked.items
total_next test ws i w low is =
    let a = total_append test (take i ws) (w ∷ []) in
    ap (told_total test) (take_more ws i w low ∙ ap (λ x. take i ws ++ x ∷ []) (sym is)) ∙ omega (arith, a)

-- one lane more, and the lanes of one file
pub lane_next : (xs : List Lane) (i : ℕ) (x : Lane) → i < length xs → x ≡ get_or xs i x
    → batches_in (take (i + 1) xs) ≡ batches_in (take i xs) + x.batches
lane_next xs i x low is = sum_by_more (λ y. y.batches) xs i x low ∙ ap (λ y. batches_in (take i xs) + y.batches) (sym is)

pub batches_next : (ws : List Wave) (i : ℕ) (w : Wave) → i < length ws → w ≡ get_or ws i w
    → batches_told (take (i + 1) ws) ≡ batches_told (take i ws) + batches_in w.lanes.items
batches_next ws i w low is = sum_by_more (λ v. batches_in v.lanes.items) ws i w low
    ∙ ap (λ v. batches_told (take i ws) + batches_in v.lanes.items) (sym is)

-- the numbers behind the lines of a run
pub numbers_text : (ran : Ran) (s : Summary) → AreNumbers ran s
    → summary_text s.resumed s.batches s.confirmed s.rejected s.refused s.unspent ≡ numbers_of ran
numbers_text ran s is =
    let ws = ran.waves.items in
    ap (λ n. summary_text n s.batches s.confirmed s.rejected s.refused s.unspent) is.resumed
    ∙ ap (λ n. summary_text (length ran.resumed.items) n s.confirmed s.rejected s.refused s.unspent) is.batches
    ∙ ap (λ n. summary_text (length ran.resumed.items) (batches_told ws) n s.rejected s.refused s.unspent) is.confirmed
    ∙ ap (λ n. summary_text (length ran.resumed.items) (batches_told ws) (told_total is_confirmed ws) n s.refused s.unspent) is.rejected
    ∙ ap (λ n. summary_text (length ran.resumed.items) (batches_told ws) (told_total is_confirmed ws) (told_total is_rejected ws) n s.unspent)
    is.refused
    ∙ ap (summary_text (length ran.resumed.items) (batches_told ws) (told_total is_confirmed ws) (told_total is_rejected ws)
    (told_total is_refused ws)) is.unspent

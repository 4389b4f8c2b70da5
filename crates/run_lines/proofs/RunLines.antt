-- The lines of submissions, by the one that is next.
use Rattle.std.proofs.Common.{◌≡◌, ℕ, suc, ◌+◌, ◌<◌, ◌≤◌, List, [], ◌∷◌, ◌++◌, length, drop, drop-cons, add-one, get_or, sym, ap, ◌∙◌}
use Rattle.std.proofs.Math.ListN.{drop_of_length-le}
use Rattle.submissions.specs.declared.Checked.{Checked}
use Rattle.ledger_runs.specs.declared.lanes.Lane.{Lane}
use Rattle.file_runs.specs.declared.waves.Wave.{Wave}
use Rattle.run_lines.specs.Told.{told_report, told_line, told_file, told_files}

pub next_line : (file i : ℕ) (lanes : List Lane) (cs : List Checked) (c : Checked) → i < length cs → c ≡ get_or cs i c
    → told_file file i lanes (drop i cs) ≡ told_line file i c.id (told_report lanes c.judgement) ++ told_file file (i + 1) lanes (drop (i + 1) cs)
next_line file i lanes cs c low is =
    ap (told_file file i lanes) (drop-cons cs i c low ∙ ap (λ x. x ∷ drop (suc i) cs) (sym is))
    ∙ ap (λ n. told_line file i c.id (told_report lanes c.judgement) ++ told_file file n lanes (drop n cs)) (sym (add-one i))

pub no_line : (file i place : ℕ) (lanes : List Lane) (cs : List Checked) → length cs ≤ i → told_file file place lanes (drop i cs) ≡ []
no_line file i place lanes cs past = ap (told_file file place lanes) (drop_of_length-le cs past)

pub next_file : (i : ℕ) (ws : List Wave) (w : Wave) → i < length ws → w ≡ get_or ws i w
    → told_files (i + 1) (drop i ws) ≡ told_file (i + 1) 0 w.lanes.items w.checked.items ++ told_files ((i + 1) + 1) (drop (i + 1) ws)
next_file i ws w low is =
    ap (told_files (i + 1)) (drop-cons ws i w low ∙ ap (λ x. x ∷ drop (suc i) ws) (sym is))
    ∙ ap (λ n. told_file (i + 1) 0 w.lanes.items w.checked.items ++ told_files n (drop (suc i) ws)) (sym (add-one (i + 1)))
    ∙ ap (λ n. told_file (i + 1) 0 w.lanes.items w.checked.items ++ told_files ((i + 1) + 1) (drop n ws)) (sym (add-one i))

pub no_file : (i n : ℕ) (ws : List Wave) → length ws ≤ i → told_files n (drop i ws) ≡ []
no_file i n ws past = ap (told_files n) (drop_of_length-le ws past)

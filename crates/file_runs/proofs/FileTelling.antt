-- What the waves of files tell, file after file.
use Rattle.std.proofs.Common.{◌≡◌, ℕ, ◌+◌, ◌<◌, List, [], ◌∷◌, ◌++◌, length, take, get_or, refl, sym, ap, subst}
use Rattle.cbdc_model.specs.Records.{Shape, Record}
use Rattle.cbdc_model.specs.Coins.{FullTx}
use Rattle.submissions.specs.Checks.{VerdictsOf}
use Rattle.ledger_runs.specs.Turning.{OfKept}
use Rattle.file_runs.specs.Runs.{joined}
use Rattle.file_runs.specs.Telling.{TellsFile, TellFiles}
use Rattle.file_runs.specs.declared.waves.Wave.{Wave}
use Rattle.file_runs.proofs.Joining.{KeepsFiles, so_far}

tell_more : (K : Shape) (verdicts : VerdictsOf) (files : List (List FullTx)) (file : List FullTx) (I J L : ℕ → List Record) (ws : List Wave)
    (w : Wave)
    → TellFiles K verdicts files I J ws → TellsFile K verdicts file J L w → TellFiles K verdicts (files ++ file ∷ []) I L (ws ++ w ∷ [])
tell_more K verdicts [] file I J L ws w (none, same) tells =
    let all : J ≡ I = λ i n. same n i in
    (L, w, [], ap (λ l. l ++ w ∷ []) none, subst (λ X. TellsFile K verdicts file X L w) all tells, (refl, λ n. refl))
tell_more K verdicts (f ∷ files) file I J L ws w (M, first, more, is, one, rest) tells =
    (M, first, more ++ w ∷ [], ap (λ l. l ++ w ∷ []) is, one, tell_more K verdicts files file M J L more w rest tells)

-- one file more was run
pub told_files : (K H : Shape) (verdicts : VerdictsOf) (files : List (List FullTx)) (i : ℕ) (file : List FullTx) (I J L : ℕ → List Record)
    (ws now : List Wave) (w : Wave)
    → H ≡ K → i < length files → file ≡ get_or files i file → KeepsFiles K (take i files) I J → now ≡ ws ++ w ∷ []
    → OfKept K I (λ _ _. TellFiles K verdicts (take i files) I J ws) → OfKept H J (λ _ _. TellsFile H verdicts file J L w)
    → OfKept K I (λ _ _. TellFiles K verdicts (take (i + 1) files) I L now)
told_files K H verdicts files i file I J L ws now w e low is keeps pushed told one mint submissions kept =
    let last = subst (λ k. OfKept k J (λ _ _. TellsFile k verdicts file J L w)) e one mint (submissions ++ joined (take i files))
    (keeps mint submissions kept).kept in
    subst (λ fs. TellFiles K verdicts fs I L now) (so_far files i file low is)
    (subst (λ l. TellFiles K verdicts (take i files ++ file ∷ []) I L l) (sym pushed)
    (tell_more K verdicts (take i files) file I J L ws w (told mint submissions kept) last))

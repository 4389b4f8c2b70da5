-- The pieces of what files send to a lane, and which one is next.
use Rattle.std.proofs.Common.{◌≡◌, ℕ, ◌+◌, ◌<◌, ◌≤◌, Bool, List, [], ◌∷◌, ◌++◌, length, take, drop, get_or, refl, sym, ap, ◌∙◌, subst, arith}
use Rattle.std.proofs.Common.{length-take}
use Rattle.std.specs.Prelude.{reverse}
use Rattle.std.proofs.lemmas.List.{append_assoc, append-nil, reverse-append, take_all, take-append-drop}
use Rattle.cbdc_model.specs.Records.{Shape, Compact, Record}
use Rattle.cbdc_model.specs.Ranges.{home_of}
use Rattle.cbdc_model.specs.Coins.{FullTx}
use Rattle.cbdc_model.specs.Waves.{IsCut, prepared, sent_to}
use Rattle.submissions.specs.Checks.{VerdictsOf}
use Rattle.ledger_runs.specs.Turning.{IsLaneOf}
use Rattle.ledger_runs.specs.Pieces.{HasPreparedPieces, IsNextOf, IsNextPiece}
use Rattle.ledger_runs.proofs.Preparing.{cut_of}
use Rattle.file_runs.specs.Runs.{HavePreparedFile, HavePreparedFiles, IsSentPiece, AreFilesPieces, IsFilesPiece, HaveBegunFile, HaveBegunFiles}
use Rattle.file_runs.proofs.Joining.{so_far}

-- where something is cut, pieces are of one transaction at least
some_batch : {A : Type 0} (n : ℕ) (xs : List A) (piece : List A) (pieces : List (List A)) → IsCut n xs (piece ∷ pieces) → 0 < n
some_batch n xs piece pieces cut = omega (arith, cut.0, ap length cut.1, length-take n xs)

some_cut : {A : Type 0} (n : ℕ) (xs : List A) (pieces done : List (List A)) (piece : List A) (more : List (List A)) → IsCut n xs pieces
    → pieces ≡ done ++ piece ∷ more → 0 < n
some_cut n xs pieces [] piece more cut is = some_batch n xs piece more (subst (λ ps. IsCut n xs ps) is cut)
some_cut n xs pieces (first ∷ done) piece more cut is = some_batch n xs first (done ++ piece ∷ more) (subst (λ ps. IsCut n xs ps) is cut)

-- one behind the other, the newest first
both_prepared : (K : Shape) (lane : ℕ) (one two : List (List Compact)) (I J L : ℕ → List Record) → HasPreparedPieces K lane one I J
    → HasPreparedPieces K lane two J L → HasPreparedPieces K lane (one ++ two) I L
both_prepared K lane one two I J L a b =
    let P = prepared lane (I (home_of K lane)) in
    b ∙ ap (λ ps. reverse two ++ ps) a ∙ sym (append_assoc (reverse two) (reverse one) P) ∙ ap (λ ps. ps ++ P) (sym (reverse-append one two))

module _ (K : Shape) (sound : FullTx → Bool) (lane : ℕ) where
  -- the pieces of files, and of more files
  both_files : (files more : List (List FullTx)) (ps qs : List (List Compact)) → AreFilesPieces K sound lane files ps
      → AreFilesPieces K sound lane more qs → AreFilesPieces K sound lane (files ++ more) (ps ++ qs)
  both_files [] more ps qs none are = subst (λ l. AreFilesPieces K sound lane more (l ++ qs)) (sym none) are
  both_files (file ∷ files) more ps qs (own, rest, cut, of_rest, is) are =
      (own, rest ++ qs, cut, both_files files more rest qs of_rest are, ap (λ l. l ++ qs) is ∙ append_assoc own rest qs)

  one_file : (file : List FullTx) (pieces : List (List Compact)) → IsCut K.batch (sent_to K sound file lane) pieces
      → AreFilesPieces K sound lane (file ∷ []) pieces
  one_file file pieces cut = (pieces, [], cut, refl, sym (append-nil pieces))

  -- all files have their pieces
  pieces_of : (files : List (List FullTx)) → 0 < K.batch → (pieces : List (List Compact)) × AreFilesPieces K sound lane files pieces
  pieces_of [] some = ([], refl)
  pieces_of (file ∷ files) some =
      let own = cut_of K.batch (sent_to K sound file lane) some in
      let more = pieces_of files some in
      (own.0 ++ more.0, (own.0, more.0, own.1, more.1, refl))

pub none_prepared : (K : Shape) (verdicts : VerdictsOf) (I : ℕ → List Record) → HavePreparedFiles K verdicts [] I I
none_prepared K verdicts I lane inside sound tells = ([], refl, refl)

-- and what one more sends it
pub file_prepared : (K H : Shape) (verdicts : VerdictsOf) (files : List (List FullTx)) (i : ℕ) (file : List FullTx) (I J L : ℕ → List Record) → H ≡ K
    → i < length files → file ≡ get_or files i file
    → HavePreparedFiles K verdicts (take i files) I J → HavePreparedFile H verdicts file J L → HavePreparedFiles K verdicts (take (i + 1) files) I L
file_prepared K H verdicts files i file I J L same low is so one = subst (λ fs. HavePreparedFiles K verdicts fs I L) (so_far files i file low is) more
  where
    more : HavePreparedFiles K verdicts (take i files ++ file ∷ []) I L
    more lane inside sound tells =
        let was = so lane inside sound tells in
        let now = subst (λ k. HavePreparedFile k verdicts file J L) same one lane inside sound tells in (
          was.0 ++ now.0,
          both_files K sound lane (take i files) (file ∷ []) was.0 now.0 was.1 (one_file K sound lane file now.0 now.1),
          both_prepared K lane was.0 now.0 I J L was.2 now.2,
        )

-- the next piece of a file's is the next of all
pub files_piece : (K : Shape) (verdicts : VerdictsOf) (files : List (List FullTx)) (i : ℕ) (file : List FullTx) (I J L : ℕ → List Record) (lane : ℕ)
    (txs : List Compact) → i < length files → file ≡ get_or files i file
    → HavePreparedFiles K verdicts (take i files) I J → IsLaneOf K lane → IsSentPiece K verdicts file J L lane txs
    → IsFilesPiece K verdicts files I L lane txs
files_piece K verdicts files i file I J L lane txs low is so inside piece sound tells = go (piece sound tells)
  where
    was : (pieces : List (List Compact)) × AreFilesPieces K sound lane (take i files) pieces × HasPreparedPieces K lane pieces I J
    was = so lane inside sound tells

    all : (take i files ++ file ∷ []) ++ drop (i + 1) files ≡ files
    all = ap (λ fs. fs ++ drop (i + 1) files) (so_far files i file low is) ∙ take-append-drop (i + 1) files

    go : IsNextPiece K lane (sent_to K sound file lane) J L txs
        → (pieces : List (List Compact)) × AreFilesPieces K sound lane files pieces × IsNextOf K lane pieces I L txs
    go (pieces, cut, (done, more, split, h)) =
        let later : (rest : List (List Compact)) × AreFilesPieces K sound lane (drop (i + 1) files) rest =
        pieces_of K sound lane (drop (i + 1) files) (some_cut K.batch (sent_to K sound file lane) pieces done txs more cut split) in (
          (was.0 ++ pieces) ++ later.0,
          subst (λ fs. AreFilesPieces K sound lane fs ((was.0 ++ pieces) ++ later.0)) all
              (both_files K sound lane (take i files ++ file ∷ []) (drop (i + 1) files) (was.0 ++ pieces) later.0
              (both_files K sound lane (take i files) (file ∷ []) was.0 pieces was.1 (one_file K sound lane file pieces cut)) later.1),
          (was.0 ++ done, more ++ later.0, split_all was.0 pieces done more later.0 split, both_prepared K lane was.0 done I J L was.2 h),
        )
      where
        split_all : (a ps d m b : List (List Compact)) → ps ≡ d ++ txs ∷ m → (a ++ ps) ++ b ≡ (a ++ d) ++ txs ∷ (m ++ b)
        split_all a ps d m b e =
            append_assoc a ps b ∙ ap (λ l. a ++ (l ++ b)) e ∙ ap (λ l. a ++ l) (append_assoc d (txs ∷ m) b) ∙ sym (append_assoc a d (txs ∷ (m ++ b)))

-- ---- whether a lane has stopped or not

-- nothing was done
pub file_unbegun : (K : Shape) (verdicts : VerdictsOf) (file : List FullTx) (I : ℕ → List Record) → 0 < K.batch → HaveBegunFile K verdicts file I I
file_unbegun K verdicts file I some lane inside sound tells = let pieces = cut_of K.batch (sent_to K sound file lane) some in
    ([], pieces.0, pieces.1, refl)

pub files_unbegun : (K : Shape) (verdicts : VerdictsOf) (files : List (List FullTx)) (I : ℕ → List Record) → 0 < K.batch
    → HaveBegunFiles K verdicts files I I
files_unbegun K verdicts files I some lane inside sound tells = let pieces = pieces_of K sound lane files some in ([], pieces.0, pieces.1, refl)

-- what was begun of a file behind others is begun of all
pub files_begun : (K H : Shape) (verdicts : VerdictsOf) (files : List (List FullTx)) (i : ℕ) (file : List FullTx) (I J L : ℕ → List Record) → H ≡ K
    → i < length files → file ≡ get_or files i file
    → HavePreparedFiles K verdicts (take i files) I J → (0 < H.batch → HaveBegunFile H verdicts file J L) → 0 < K.batch
    → HaveBegunFiles K verdicts files I L
files_begun K H verdicts files i file I J L same low is so begun some lane inside sound tells =
    let was = so lane inside sound tells in
    let (done, more, cut, has) = subst (λ k. 0 < k.batch → HaveBegunFile k verdicts file J L) same begun some lane inside sound tells in
    let later = pieces_of K sound lane (drop (i + 1) files) some in
    let all : (take i files ++ file ∷ []) ++ drop (i + 1) files ≡ files =
    ap (λ fs. fs ++ drop (i + 1) files) (so_far files i file low is) ∙ take-append-drop (i + 1) files in
    let pieces : AreFilesPieces K sound lane files ((was.0 ++ (done ++ more)) ++ later.0) =
    subst (λ fs. AreFilesPieces K sound lane fs ((was.0 ++ (done ++ more)) ++ later.0)) all
    (both_files K sound lane (take i files ++ file ∷ []) (drop (i + 1) files) (was.0 ++ (done ++ more)) later.0
    (both_files K sound lane (take i files) (file ∷ []) was.0 (done ++ more) was.1 (one_file K sound lane file (done ++ more) cut)) later.1) in
    let moved : (was.0 ++ (done ++ more)) ++ later.0 ≡ (was.0 ++ done) ++ (more ++ later.0) =
    append_assoc was.0 (done ++ more) later.0 ∙ ap (λ l. was.0 ++ l) (append_assoc done more later.0)
    ∙ sym (append_assoc was.0 done (more ++ later.0)) in
    (was.0 ++ done, more ++ later.0, subst (AreFilesPieces K sound lane files) moved pieces, both_prepared K lane was.0 done I J L was.2 has)

-- what was prepared of all is begun
pub files_all_begun : (K : Shape) (verdicts : VerdictsOf) (files : List (List FullTx)) (i : ℕ) (I J : ℕ → List Record) → length files ≤ i
    → HavePreparedFiles K verdicts (take i files) I J → HaveBegunFiles K verdicts files I J
files_all_begun K verdicts files i I J past so lane inside sound tells =
    let was = so lane inside sound tells in (
      was.0,
      [],
      subst (AreFilesPieces K sound lane files) (sym (append-nil was.0))
          (subst (λ fs. AreFilesPieces K sound lane fs was.0) (take_all i files past) was.1),
      was.2,
    )

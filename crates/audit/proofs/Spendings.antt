-- One more committed form is spent.
use Rattle.std.proofs.Common.{◌≡◌, ◌<◌, ◌≤◌, ◌+◌, ℕ, zero, suc, min, true, false, cond, List, [], ◌∷◌, ◌++◌, length, take, drop, get_or, Option, Some}
use Rattle.std.proofs.Common.{None, refl, sym, ap, ◌∙◌, subst, arith, append_assoc, append-nil, sum_by}
use Rattle.std.proofs.lemmas.List.Sums.{sum_by-cons}
use Rattle.std.proofs.lemmas.List.{take_more, take-append-drop, drop_more, length-take-le}
use Rattle.cbdc_model.specs.Records.{Compact, Outcome, is_won}
use Rattle.cbdc_model.specs.Coins.{Output, FullTx}
use Rattle.cbdc_model.specs.Book.{Book, genesis_book, fold_txs, spend}
use Rattle.cbdc_model.specs.Money.{issued_by, redeemed_by}
use Rattle.cbdc_model.specs.History.{first_with, AreHandedIn}
use Rattle.cbdc_model.specs.Outcomes.{won_txs}
use Rattle.cbdc_types.specs.declared.answer.UnsoundKind.{UnsoundKind}
use Rattle.audit.specs.declared.book.Book.{Book as Kept}
use Rattle.audit.specs.declared.folding.Fold.{Fold}
use Rattle.audit.specs.Spending.{AreSpent, IsFormWrong, IsFirstWrong}
use Rattle.audit.specs.Keeping.{HasBook, HasRest, HasSpent}

handed_more : (handed : List FullTx) (ks : List Compact) (ts : List FullTx) (k : Compact) (t : FullTx) → AreHandedIn handed ks ts
    → first_with handed k ≡ Some t → AreHandedIn handed (ks ++ k ∷ []) (ts ++ t ∷ [])
handed_more handed [] [] k t h f = (f, tt)
handed_more handed [] (u ∷ us) k t h f = absurd h
handed_more handed (j ∷ ks) [] k t h f = absurd h
handed_more handed (j ∷ ks) (u ∷ us) k t h f = (h.0, handed_more handed ks us k t h.1 f)

fold_more : (r : Option Book) (ts us : List FullTx) → fold_txs r (ts ++ us) ≡ fold_txs (fold_txs r ts) us
fold_more None ts us = refl
fold_more (Some b) [] us = refl
fold_more (Some b) (t ∷ ts) us = fold_more (spend b t) ts us

fold_one : (r : Option Book) (t : FullTx) (b c : Book) → r ≡ Some b → spend b t ≡ Some c → fold_txs r (t ∷ []) ≡ Some c
fold_one r t b c e f = ap (λ o. fold_txs o (t ∷ [])) e ∙ ap (λ o. fold_txs o []) f

length_more : {X : Type 0} (xs : List X) (x : X) → length (xs ++ x ∷ []) ≡ length xs + 1
length_more [] x = refl
length_more (y ∷ xs) x = omega (arith, length_more xs x)

sum_more : {X : Type 0} (f : X → ℕ) (xs : List X) (x : X) → sum_by f (xs ++ x ∷ []) ≡ sum_by f xs + f x
sum_more f [] x = let one = sum_by-cons f x [] in omega (arith, one)
sum_more f (y ∷ xs) x = omega (arith, sum_more f xs x, sum_by-cons f y (xs ++ x ∷ []), sum_by-cons f y xs)

pub spent_more : (mint : List Output) (handed : List FullTx) (forms : List Compact) (form : Compact) (t : FullTx) (old new : Fold)
    → HasSpent mint handed forms old
    → first_with handed form ≡ Some t → ((b : Book) → HasBook old.book b → HasRest true new.book (spend b t)) → new.committed ≡ old.committed + 1
    → new.issued ≡ old.issued + issued_by t → new.redeemed ≡ old.redeemed + redeemed_by t → HasSpent mint handed (forms ++ form ∷ []) new
spent_more mint handed forms form t old new h first left count more_issued more_redeemed = by (spend h.left t) refl (left h.left h.keeps)
  where
    by : (r : Option Book) → spend h.left t ≡ r → HasRest true new.book r → HasSpent mint handed (forms ++ form ∷ []) new
    by None e l = absurd l
    by (Some c) e l = record {
      left = c;
      are_spent = record {
        txs = h.are_spent.txs ++ t ∷ [];
        handed_in = handed_more handed forms h.are_spent.txs form t h.are_spent.handed_in first;
        folds = fold_more (Some (genesis_book mint)) h.are_spent.txs (t ∷ [])
            ∙ fold_one (fold_txs (Some (genesis_book mint)) h.are_spent.txs) t h.left c h.are_spent.folds e;
      };
      keeps = l;
      count = omega (arith, count, h.count, length_more forms form);
      issued = omega (arith, more_issued, h.issued, sum_more issued_by h.are_spent.txs t);
      redeemed = omega (arith, more_redeemed, h.redeemed, sum_more redeemed_by h.are_spent.txs t);
    }

-- a book that is not left
pub not_left : (m : Kept) (r : Option Book) → HasRest false m r → r ≡ None
not_left m None h = refl
not_left m (Some b) h = absurd h

-- the committed ones of a batch, one place further
won-append : (ts us : List Compact) (os ps : List Outcome) → length ts ≡ length os → won_txs (ts ++ us) (os ++ ps) ≡ won_txs ts os ++ won_txs us ps
won-append [] us [] ps e = refl
won-append [] us (o ∷ os) ps e = absurd (omega arith)
won-append (t ∷ ts) us [] ps e = absurd (omega arith)
won-append (t ∷ ts) us (o ∷ os) ps e =
    let ih : won_txs (ts ++ us) (os ++ ps) ≡ won_txs ts os ++ won_txs us ps = won-append ts us os ps (omega arith) in
    elim (is_won o) as (λ c. cond c (t ∷ won_txs (ts ++ us) (os ++ ps)) (won_txs (ts ++ us) (os ++ ps))
    ≡ cond c (t ∷ won_txs ts os) (won_txs ts os) ++ won_txs us ps) [
      | true ↦ ap (λ l. t ∷ l) ih
      | false ↦ ih
    ]

same_lengths : (txs : List Compact) (os : List Outcome) (k : ℕ) → k < length txs → k < length os → length (take k txs) ≡ length (take k os)
same_lengths txs os k lt less = length-take-le k txs (omega arith) ∙ sym (length-take-le k os (omega arith))

pub won_more : (txs : List Compact) (os : List Outcome) (k : ℕ) (t : Compact) (o : Outcome) → k < length txs → k < length os → t ≡ get_or txs k t
    → o ≡ get_or os k o
    → won_txs (take (k + 1) txs) (take (k + 1) os) ≡ won_txs (take k txs) (take k os) ++ cond (is_won o) (t ∷ []) []
won_more txs os k t o lt less e f =
    ap (λ l. won_txs l (take (k + 1) os)) (take_more txs k t lt ∙ ap (λ u. take k txs ++ u ∷ []) (sym e))
    ∙ ap (λ l. won_txs (take k txs ++ t ∷ []) l) (take_more os k o less ∙ ap (λ u. take k os ++ u ∷ []) (sym f))
    ∙ won-append (take k txs) (t ∷ []) (take k os) (o ∷ []) (same_lengths txs os k lt less)

won_split : (txs : List Compact) (os : List Outcome) (k : ℕ) (t : Compact) (o : Outcome) → k < length txs → k < length os → t ≡ get_or txs k t
    → o ≡ get_or os k o
    → won_txs txs os ≡ won_txs (take k txs) (take k os)
    ++ cond (is_won o) (t ∷ won_txs (drop (k + 1) txs) (drop (k + 1) os)) (won_txs (drop (k + 1) txs) (drop (k + 1) os))
won_split txs os k t o lt less e f =
    ap (λ l. won_txs l os) (sym (take-append-drop k txs) ∙ ap (λ l. take k txs ++ l) (drop_more txs k t lt ∙ ap (λ u. u ∷ drop (k + 1) txs) (sym e)))
    ∙ ap (λ l. won_txs (take k txs ++ t ∷ drop (k + 1) txs) l)
    (sym (take-append-drop k os) ∙ ap (λ l. take k os ++ l) (drop_more os k o less ∙ ap (λ u. u ∷ drop (k + 1) os) (sym f)))
    ∙ won-append (take k txs) (t ∷ drop (k + 1) txs) (take k os) (o ∷ drop (k + 1) os) (same_lengths txs os k lt less)

-- those past the shorter list don't count
won_take : (txs : List Compact) (os : List Outcome) (k : ℕ) → min (length txs) (length os) ≤ k → won_txs (take k txs) (take k os) ≡ won_txs txs os
won_take [] os zero h = refl
won_take [] os (suc k) h = refl
won_take (t ∷ txs) [] zero h = refl
won_take (t ∷ txs) [] (suc k) h = refl
won_take (t ∷ txs) (o ∷ os) zero h = absurd (omega arith)
won_take (t ∷ txs) (o ∷ os) (suc k) h = ap (λ l. cond (is_won o) (t ∷ l) l) (won_take txs os k (omega arith))

pub won_all : (mint : List Output) (handed : List FullTx) (forms txs : List Compact) (os : List Outcome) (k : ℕ) (fold : Fold)
    → min (length txs) (length os) ≤ k
    → HasSpent mint handed (forms ++ won_txs (take k txs) (take k os)) fold → HasSpent mint handed (forms ++ won_txs txs os) fold
won_all mint handed forms txs os k fold le h = subst (λ l. HasSpent mint handed (forms ++ l) fold) (won_take txs os k le) h

pub won_spent : (mint : List Output) (handed : List FullTx) (forms txs : List Compact) (os : List Outcome) (k : ℕ) (t : Compact) (o : Outcome)
    (fold : Fold) → k < length txs → k < length os
    → t ≡ get_or txs k t → o ≡ get_or os k o → is_won o ≡ true → HasSpent mint handed ((forms ++ won_txs (take k txs) (take k os)) ++ t ∷ []) fold
    → HasSpent mint handed (forms ++ won_txs (take (k + 1) txs) (take (k + 1) os)) fold
won_spent mint handed forms txs os k t o fold lt less e f won h =
    subst (λ l. HasSpent mint handed l fold)
    (append_assoc forms (won_txs (take k txs) (take k os)) (t ∷ [])
    ∙ ap (λ l. forms ++ l) (sym (won_more txs os k t o lt less e f ∙ ap (λ c. won_txs (take k txs) (take k os) ++ cond c (t ∷ []) []) won))) h

pub won_skipped : (mint : List Output) (handed : List FullTx) (forms txs : List Compact) (os : List Outcome) (k : ℕ) (t : Compact) (o : Outcome)
    (fold : Fold) → k < length txs → k < length os
    → t ≡ get_or txs k t → o ≡ get_or os k o → is_won o ≡ false → HasSpent mint handed (forms ++ won_txs (take k txs) (take k os)) fold
    → HasSpent mint handed (forms ++ won_txs (take (k + 1) txs) (take (k + 1) os)) fold
won_skipped mint handed forms txs os k t o fold lt less e f lost h =
    subst (λ l. HasSpent mint handed (forms ++ l) fold)
    (sym (won_more txs os k t o lt less e f ∙ ap (λ c. won_txs (take k txs) (take k os) ++ cond c (t ∷ []) []) lost
    ∙ append-nil (won_txs (take k txs) (take k os)))) h

pub first_wrong : (mint : List Output) (handed : List FullTx) (forms txs : List Compact) (os : List Outcome) (k : ℕ) (t : Compact) (o : Outcome)
    (kind : UnsoundKind) → k < length txs → k < length os
    → t ≡ get_or txs k t → o ≡ get_or os k o → is_won o ≡ true
    → (b : Book) × AreSpent mint handed (forms ++ won_txs (take k txs) (take k os)) b × IsFormWrong handed b t kind
    → IsFirstWrong mint handed forms (won_txs txs os) kind
first_wrong mint handed forms txs os k t o kind lt less e f won w = record {
  earlier = won_txs (take k txs) (take k os);
  form = t;
  later = won_txs (drop (k + 1) txs) (drop (k + 1) os);
  forms_are = won_split txs os k t o lt less e f
      ∙ ap (λ c. won_txs (take k txs) (take k os)
      ++ cond c (t ∷ won_txs (drop (k + 1) txs) (drop (k + 1) os)) (won_txs (drop (k + 1) txs) (drop (k + 1) os))) won;
  book = w.0;
  are_spent = w.1;
  wrong = w.2;
}

-- what stands at a place of a list
pub there : {X : Type 0} (xs : List X) (k : ℕ) → k < length xs → (x : X) × (x ≡ get_or xs k x)
there [] k lt = absurd (omega arith)
there (x ∷ xs) zero lt = (x, refl)
there (x ∷ xs) (suc k) lt = there xs k (omega arith)

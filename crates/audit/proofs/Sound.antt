-- The law of sound histories.
use Rattle.std.proofs.Common.{ℕ, ◌<◌, List, [], ◌∷◌, length, reverse, subst}
use mathlib.Core.List.{reverse_aux}
use Rattle.std.specs.List.{All, AllByRecursion}
use Rattle.std.proofs.lemmas.List.{reverse-reverse}
use Rattle.std.proofs.lemmas.List.Elements.{recursion_from_All}
use Rattle.cbdc_model.specs.Records.{Shape, Compact, Record, Row, journal}
use Rattle.cbdc_model.specs.History.{minted, history_of, committed}
use Rattle.audit.specs.Walks.{AllDone, HasDoneRecord}
use Rattle.audit.specs.Verdicts.{Passes, journals_of}
use Rattle.audit.specs.Laws.{UnspentLaw}
use Rattle.audit.proofs.Unspent.{EachSpends, EachDone, all_steady, unspent_law}

pub spends_of : (ks : List Compact) → AllByRecursion (λ k. 0 < length k.inputs) ks → EachSpends ks
spends_of [] h = tt
spends_of (k ∷ ks) h = (h.0, spends_of ks h.1)

onto : {X : Type 0} (P : X → Type 0) (xs ys : List X) → AllByRecursion P xs → AllByRecursion P ys → AllByRecursion P (reverse_aux xs ys)
onto P [] ys h k = k
onto P (x ∷ xs) ys h k = onto P xs (x ∷ ys) h.1 (h.0, k)

module _ (K : Shape) where
  each_done : (J : ℕ → List Record) (past : List Row) → AllByRecursion (λ row. HasDoneRecord K J row.what) past → EachDone K J past
  each_done J [] h = tt
  each_done J (row ∷ past) h = (h.0, each_done J past h.1)

  pub all_done : (past : List Row) → AllDone K (journals_of (reverse past)) (reverse past) → EachDone K (λ n. journal n past) past
  all_done past done =
      let here : All (λ row. HasDoneRecord K (λ n. journal n past) row.what) (reverse past)
      = subst (λ rows. All (λ row. HasDoneRecord K (λ n. journal n rows) row.what) (reverse past)) (reverse-reverse past) done in
      each_done (λ n. journal n past) past
      (subst (AllByRecursion (λ row. HasDoneRecord K (λ n. journal n past) row.what)) (reverse-reverse past)
      (onto (λ row. HasDoneRecord K (λ n. journal n past) row.what) (reverse past) []
      (recursion_from_All (λ row. HasDoneRecord K (λ n. journal n past) row.what) (reverse past) here) tt))

pub unspent_is_book : UnspentLaw
unspent_is_book K mint handed later totals shards clean after each sound x =
    let pass : Passes K mint handed (history_of K mint later) sound.book =
    subst (λ rows. Passes K mint handed rows sound.book) (reverse-reverse (history_of K mint later)) sound.pass in
    unspent_law K mint handed clean shards later (all_steady K (minted mint) later after pass.caused)
    (all_done K (history_of K mint later) sound.done) sound.book pass.spent
    (spends_of (committed (history_of K mint later)) (recursion_from_All (λ k. 0 < length k.inputs) (committed (history_of K mint later)) each)) x

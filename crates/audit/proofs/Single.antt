-- A history has one verdict.
use Rattle.std.proofs.Common.{◌≡◌, ◌⊎◌, inl, inr, ℕ, List, [], ◌∷◌, ◌++◌, length, reverse, Option, Some, None, refl, sym, ap, ◌∙◌, subst}
use Rattle.std.proofs.Common.{append_assoc}
use Rattle.std.specs.FinMap.{len}
use Rattle.std.proofs.lemmas.List.{reverse-append}
use Rattle.std.proofs.lemmas.List.Elements.{recursion_from_All}
use Rattle.std.specs.List.{AllByRecursion}
use Rattle.cbdc_types.specs.declared.answer.UnsoundKind.{UnsoundKind}
use Rattle.cbdc_types.specs.declared.answer.UnsoundKind.TheVariants.{Cause, Unknown, Unfunded, Unfinished}
use Rattle.cbdc_model.specs.Records.{Shape, Compact, Record, Row, journal}
use Rattle.cbdc_model.specs.Coins.{Output, FullTx}
use Rattle.cbdc_model.specs.Book.{Book, genesis_book, fold_txs, spend, value, money}
use Rattle.cbdc_model.specs.Money.{issued, redeemed}
use Rattle.cbdc_model.specs.History.{committed, newly_won, first_with, AreHandedIn}
use Rattle.ledger_laws.proofs.Recovery.{one_list}
use Rattle.cbdc_types.specs.declared.answer.Totals.{Totals}
use Rattle.audit.specs.declared.verdict.Verdict.TheVariants.{Sound, Unsound}
use Rattle.audit.specs.Walks.{IsRowCaused, HasDoneRecord, AllDone, IsFirstOpen}
use Rattle.audit.specs.Spending.{AreSpent, IsFormWrong, IsFirstWrong}
use Rattle.audit.specs.Verdicts.{Passes, IsRowFault, IsFirstUnsound, IsFirstUnfinished, IsSoundHistory, IsVerdict, journals_of}
use Rattle.audit.proofs.Unspent.{spent_before}
use Rattle.audit.specs.Laws.{OneVerdictLaw}

-- two places of a list
data Places {X : Type 0} (b c : List X) (x y : X) : Type 0 where
  same : b ≡ c → x ≡ y → Places b c x y
  first : (d : List X) → c ≡ b ++ x ∷ d → Places b c x y
  second : (d : List X) → b ≡ c ++ y ∷ d → Places b c x y

heads : {X : Type 0} (x y : X) (xs ys : List X) → x ∷ xs ≡ y ∷ ys → (x ≡ y) × (xs ≡ ys)
heads x y xs ys e = (cc, cc)

places : {X : Type 0} (b c : List X) (x y : X) (d e : List X) → b ++ x ∷ d ≡ c ++ y ∷ e → Places b c x y
places [] [] x y d e s = same refl (heads x y d e s).0
places [] (z ∷ c) x y d e s = first c (λ i. sym (heads x z d (c ++ y ∷ e) s).0 i ∷ c)
places (z ∷ b) [] x y d e s = second b (λ i. (heads z y (b ++ x ∷ d) e s).0 i ∷ b)
places (z ∷ b) (w ∷ c) x y d e s = further (places b c x y d e (heads z w (b ++ x ∷ d) (c ++ y ∷ e) s).1)
  where
    h : z ≡ w
    h = (heads z w (b ++ x ∷ d) (c ++ y ∷ e) s).0

    further : Places b c x y → Places (z ∷ b) (w ∷ c) x y
    further (same p q) = same (λ i. h i ∷ p i) q
    further (first k p) = first k (λ i. sym h i ∷ p i)
    further (second k p) = second k (λ i. h i ∷ p i)

-- what is spent leaves one book
pub one_book : (mint : List Output) (handed : List FullTx) (ks : List Compact) (b c : Book) → AreSpent mint handed ks b → AreSpent mint handed ks c
    → b ≡ c
one_book mint handed ks b c s t =
    let e : s.txs ≡ t.txs = one_list handed ks s.txs t.txs s.handed_in t.handed_in in
    let f : Some b ≡ Some c = sym s.folds ∙ ap (fold_txs (Some (genesis_book mint))) e ∙ t.folds in
    some_same b c f
  where
    some_same : (b c : Book) → Some b ≡ Some c → b ≡ c
    some_same b c e = cc

handed_last : (handed : List FullTx) (ks : List Compact) (k : Compact) (ts : List FullTx) → AreHandedIn handed (ks ++ k ∷ []) ts
    → (us : List FullTx) × (t : FullTx) × (ts ≡ us ++ t ∷ []) × AreHandedIn handed ks us × (first_with handed k ≡ Some t)
handed_last handed [] k [] h = absurd h
handed_last handed [] k (t ∷ []) h = ([], t, refl, tt, h.0)
handed_last handed [] k (t ∷ (u ∷ ts)) h = absurd h.1
handed_last handed (j ∷ ks) k [] h = absurd h
handed_last handed (j ∷ ks) k (t ∷ ts) h =
    let r : (us : List FullTx) × (u : FullTx) × (ts ≡ us ++ u ∷ []) × AreHandedIn handed ks us
    × (first_with handed k ≡ Some u) = handed_last handed ks k ts h.1 in
    (t ∷ r.0, r.1, ap (λ l. t ∷ l) r.2, (h.0, r.3), r.4)

fold_last : (r : Option Book) (us : List FullTx) (t : FullTx) (c : Book) → fold_txs r (us ++ t ∷ []) ≡ Some c
    → (b : Book) × (fold_txs r us ≡ Some b) × (spend b t ≡ Some c)
fold_last None us t c h = absurd (let z : None ≡ Some c = h in cc)
fold_last (Some b) [] t c h = (b, refl, ends (spend b t) h)
  where
    ends : (r : Option Book) → fold_txs r [] ≡ Some c → r ≡ Some c
    ends None e = e
    ends (Some d) e = e
fold_last (Some b) (u ∷ us) t c h = fold_last (spend b u) us t c h

-- nothing is wrong with a form that is spent
not_wrong : (mint : List Output) (handed : List FullTx) (ks : List Compact) (k : Compact) (b c : Book) (kind : UnsoundKind)
    → AreSpent mint handed (ks ++ k ∷ []) c
    → AreSpent mint handed ks b → IsFormWrong handed b k kind → ⊥
not_wrong mint handed ks k b c kind s t w =
    let h : (us : List FullTx) × (t : FullTx) × (s.txs ≡ us ++ t ∷ []) × AreHandedIn handed ks us
    × (first_with handed k ≡ Some t) = handed_last handed ks k s.txs s.handed_in in
    let f : (d : Book) × (fold_txs (Some (genesis_book mint)) h.0 ≡ Some d) × (spend d h.1 ≡ Some c)
    = fold_last (Some (genesis_book mint)) h.0 h.1 c (ap (fold_txs (Some (genesis_book mint))) (sym h.2) ∙ s.folds) in
    let e : f.0 ≡ b = one_book mint handed ks f.0 b (record { txs = h.0; handed_in = h.3; folds = f.1 }) t in
    by kind h.1 h.4 (ap (λ d. spend d h.1) (sym e) ∙ f.2) w
  where
    by : (kind : UnsoundKind) (t : FullTx) → first_with handed k ≡ Some t → spend b t ≡ Some c → IsFormWrong handed b k kind → ⊥
    by Cause t g e w = w
    by (Unknown id) t g e w = let z : None ≡ Some t = sym w.1 ∙ g in cc
    by (Unfunded id) t g e w =
        let u : w.1.0 ≡ t = (let z : Some w.1.0 ≡ Some t = sym w.1.1 ∙ g in cc) in
        let z : None ≡ Some c = sym w.1.2 ∙ ap (spend b) u ∙ e in cc
    by Unfinished t g e w = w

front_spent : (mint : List Output) (handed : List FullTx) (spent earlier : List Compact) (form : Compact) (later : List Compact) (c : Book)
    → AreSpent mint handed (spent ++ (earlier ++ form ∷ later)) c
    → (d : Book) × AreSpent mint handed ((spent ++ earlier) ++ form ∷ []) d
front_spent mint handed spent earlier form later c s =
    spent_before mint handed ((spent ++ earlier) ++ form ∷ []) later c (subst (λ l. AreSpent mint handed l c) (regroup spent earlier form later) s)
  where
    regroup : (a b : List Compact) (f : Compact) (d : List Compact) → a ++ (b ++ f ∷ d) ≡ ((a ++ b) ++ f ∷ []) ++ d
    regroup a b f d = sym (append_assoc a b (f ∷ d)) ∙ sym (append_assoc (a ++ b) (f ∷ []) d)

-- not all of the forms with which something is wrong can be spent
wrong_not_spent : (mint : List Output) (handed : List FullTx) (spent forms : List Compact) (kind : UnsoundKind) (c : Book)
    → IsFirstWrong mint handed spent forms kind → AreSpent mint handed (spent ++ forms) c → ⊥
wrong_not_spent mint handed spent forms kind c w s =
    let f : (d : Book) × AreSpent mint handed ((spent ++ w.earlier) ++ w.form ∷ []) d
    = front_spent mint handed spent w.earlier w.form w.later c (subst (λ l. AreSpent mint handed (spent ++ l) c) w.forms_are s) in
    not_wrong mint handed (spent ++ w.earlier) w.form w.book f.0 kind f.1 w.are_spent w.wrong

-- the first wrong form is one
module _ (mint : List Output) (handed : List FullTx) (spent forms : List Compact) where
  earlier_spent : (kind other : UnsoundKind) (v : IsFirstWrong mint handed spent forms kind) (w : IsFirstWrong mint handed spent forms other)
      (d : List Compact) → w.earlier ≡ v.earlier ++ v.form ∷ d → ⊥
  earlier_spent kind other v w d e =
      let f : (c : Book) × AreSpent mint handed ((spent ++ v.earlier) ++ v.form ∷ []) c
      = front_spent mint handed spent v.earlier v.form d w.book (subst (λ l. AreSpent mint handed (spent ++ l) w.book) e w.are_spent) in
      not_wrong mint handed (spent ++ v.earlier) v.form v.book f.0 kind f.1 v.are_spent v.wrong

  same_kinds : (b c : Book) (k l : Compact) (kind other : UnsoundKind) → k ≡ l → IsFormWrong handed b k kind → IsFormWrong handed c l other → b ≡ c
      → kind ≡ other
  same_kinds b c k l Cause other e v w f = absurd v
  same_kinds b c k l Unfinished other e v w f = absurd v
  same_kinds b c k l (Unknown id) Cause e v w f = absurd w
  same_kinds b c k l (Unknown id) Unfinished e v w f = absurd w
  same_kinds b c k l (Unknown id) (Unknown id') e v w f = ap (λ x. Unknown x) (v.0 ∙ ap (λ k. k.id) e ∙ sym w.0)
  same_kinds b c k l (Unknown id) (Unfunded id') e v w f = absurd (let z : None ≡ Some w.1.0 = sym v.1 ∙ ap (first_with handed) e ∙ w.1.1 in cc)
  same_kinds b c k l (Unfunded id) Cause e v w f = absurd w
  same_kinds b c k l (Unfunded id) Unfinished e v w f = absurd w
  same_kinds b c k l (Unfunded id) (Unknown id') e v w f = absurd (let z : Some v.1.0 ≡ None = sym v.1.1 ∙ ap (first_with handed) e ∙ w.1 in cc)
  same_kinds b c k l (Unfunded id) (Unfunded id') e v w f = ap (λ x. Unfunded x) (v.0 ∙ ap (λ k. k.id) e ∙ sym w.0)

  one_wrong : (kind other : UnsoundKind) → IsFirstWrong mint handed spent forms kind → IsFirstWrong mint handed spent forms other → kind ≡ other
  one_wrong kind other v w = elim (places v.earlier w.earlier v.form w.form v.later w.later (sym v.forms_are ∙ w.forms_are)) [
    | same p q ↦ same_kinds v.book w.book v.form w.form kind other q v.wrong w.wrong
        (one_book mint handed (spent ++ w.earlier) v.book w.book (subst (λ l. AreSpent mint handed (spent ++ l) v.book) p v.are_spent) w.are_spent)
    | first d p ↦ absurd (earlier_spent kind other v w d p)
    | second d p ↦ absurd (earlier_spent other kind w v d p)
  ]

-- a history that passes has no fault before its end
module _ (K : Shape) (mint : List Output) (handed : List FullTx) where
  passes_front : (newer : List Row) (row : Row) (past : List Row) (b : Book) → Passes K mint handed (newer ++ row ∷ past) b
      → (c : Book) × IsRowCaused K past row × AreSpent mint handed (committed (row ∷ past)) c
  passes_front [] row past b p = (b, p.caused.0, p.spent)
  passes_front (new ∷ newer) row past b p =
      let s : (c : Book) × AreSpent mint handed (committed (newer ++ row ∷ past)) c
      = spent_before mint handed (committed (newer ++ row ∷ past)) (newly_won new.what (journal new.node (newer ++ row ∷ past))) b p.spent in
      passes_front newer row past s.0 (record { caused = p.caused.1; spent = s.1 })

  no_fault : (past : List Row) (row : Row) (kind : UnsoundKind) (c : Book) → IsRowCaused K past row → AreSpent mint handed (committed (row ∷ past)) c
      → IsRowFault K mint handed past row kind → ⊥
  no_fault past row Cause c caused s f = f caused
  no_fault past row (Unknown id) c caused s f = wrong_not_spent mint handed (committed past) (newly_won row.what (journal row.node past))
      (Unknown id) c f.1 s
  no_fault past row (Unfunded id) c caused s f = wrong_not_spent mint handed (committed past) (newly_won row.what (journal row.node past))
      (Unfunded id) c f.1 s
  no_fault past row Unfinished c caused s f = f

  turned : (before after : List Row) (row : Row) → reverse (before ++ row ∷ after) ≡ reverse after ++ row ∷ reverse before
  turned before after row = reverse-append before (row ∷ after) ∙ ap (λ l. l ++ reverse before) (reverse-append (row ∷ []) after)
      ∙ append_assoc (reverse after) (row ∷ []) (reverse before)

  no_earlier : (before after : List Row) (row : Row) (kind : UnsoundKind) (b : Book) → Passes K mint handed (reverse (before ++ row ∷ after)) b
      → IsRowFault K mint handed (reverse before) row kind → ⊥
  no_earlier before after row kind b p f =
      let s = passes_front (reverse after) row (reverse before) b (subst (λ rows. Passes K mint handed rows b) (turned before after row) p) in
      no_fault (reverse before) row kind s.0 s.1 s.2 f

  one_kind : (past : List Row) (row : Row) (kind other : UnsoundKind) → IsRowFault K mint handed past row kind
      → IsRowFault K mint handed past row other → kind ≡ other
  one_kind past row Cause Cause f g = refl
  one_kind past row Cause (Unknown id) f g = absurd (f g.0)
  one_kind past row Cause (Unfunded id) f g = absurd (f g.0)
  one_kind past row Cause Unfinished f g = absurd g
  one_kind past row (Unknown id) Cause f g = absurd (g f.0)
  one_kind past row (Unknown id) (Unknown id') f g =
      one_wrong mint handed (committed past) (newly_won row.what (journal row.node past)) (Unknown id) (Unknown id') f.1 g.1
  one_kind past row (Unknown id) (Unfunded id') f g =
      one_wrong mint handed (committed past) (newly_won row.what (journal row.node past)) (Unknown id) (Unfunded id') f.1 g.1
  one_kind past row (Unknown id) Unfinished f g = absurd g
  one_kind past row (Unfunded id) Cause f g = absurd (g f.0)
  one_kind past row (Unfunded id) (Unknown id') f g =
      one_wrong mint handed (committed past) (newly_won row.what (journal row.node past)) (Unfunded id) (Unknown id') f.1 g.1
  one_kind past row (Unfunded id) (Unfunded id') f g =
      one_wrong mint handed (committed past) (newly_won row.what (journal row.node past)) (Unfunded id) (Unfunded id') f.1 g.1
  one_kind past row (Unfunded id) Unfinished f g = absurd g
  one_kind past row Unfinished other f g = absurd f

  module _ (rows : List Row) where
    pub fault_not_passed : (place : ℕ) (kind : UnsoundKind) (b : Book) → IsFirstUnsound K mint handed rows place kind
        → Passes K mint handed (reverse rows) b → ⊥
    fault_not_passed place kind b f p = no_earlier f.before f.after f.row kind b (subst (λ l. Passes K mint handed (reverse l) b) f.rows_are p)
        f.fault

    faults_same : (p q : ℕ) (kind other : UnsoundKind) → IsFirstUnsound K mint handed rows p kind → IsFirstUnsound K mint handed rows q other
        → (p ≡ q) × (kind ≡ other)
    faults_same p q kind other f g = elim (places f.before g.before f.row g.row f.after g.after (sym f.rows_are ∙ g.rows_are)) [
      | same s t ↦ (
        sym f.stands ∙ ap length s ∙ g.stands,
        one_kind (reverse g.before) g.row kind other
            (subst (λ r. IsRowFault K mint handed (reverse g.before) r kind) t
            (subst (λ l. IsRowFault K mint handed (reverse l) f.row kind) s f.fault)) g.fault,
      )
      | first d s ↦ absurd (no_earlier f.before d f.row kind g.book (subst (λ l. Passes K mint handed (reverse l) g.book) s g.pass) f.fault)
      | second d s ↦ absurd (no_earlier g.before d g.row other f.book (subst (λ l. Passes K mint handed (reverse l) f.book) s f.pass) g.fault)
    ]

    done_here : (J : ℕ → List Record) (before after : List Row) (row : Row) → AllByRecursion (λ r. HasDoneRecord K J r.what) (before ++ row ∷ after)
        → HasDoneRecord K J row.what
    done_here J [] after row h = h.0
    done_here J (r ∷ before) after row h = done_here J before after row h.1

    not_open : (J : ℕ → List Record) (before after : List Row) (row : Row) (all : List Row) → all ≡ before ++ row ∷ after → AllDone K J all
        → (HasDoneRecord K J row.what → ⊥) → ⊥
    not_open J before after row all e done unfinished =
        unfinished (done_here J before after row (subst (AllByRecursion (λ r. HasDoneRecord K J r.what)) e
        (recursion_from_All (λ r. HasDoneRecord K J r.what) all done)))

    opens_same : (J : ℕ → List Record) (p q : ℕ) → IsFirstOpen K J rows p → IsFirstOpen K J rows q → p ≡ q
    opens_same J p q f g = elim (places f.before g.before f.row g.row f.after g.after (sym f.rows_are ∙ g.rows_are)) [
      | same s t ↦ sym f.stands ∙ ap length s ∙ g.stands
      | first d s ↦ absurd (not_open J f.before d f.row g.before s g.done f.unfinished)
      | second d s ↦ absurd (not_open J g.before d g.row f.before s f.done g.unfinished)
    ]

    totals_same : (v w : Totals) → IsSoundHistory K mint handed rows v → IsSoundHistory K mint handed rows w → v ≡ w
    totals_same v w s t =
        let e : s.book ≡ t.book = one_book mint handed (committed (reverse rows)) s.book t.book s.pass.spent t.pass.spent in
        let coins : v.coins ≡ w.coins = s.coins ∙ ap len e ∙ sym t.coins in
        let value : v.value ≡ w.value = s.value ∙ ap value e ∙ sym t.value in
        let minted : v.minted ≡ w.minted = s.minted ∙ sym t.minted in
        let count : v.committed ≡ w.committed = s.committed ∙ sym t.committed in
        let txs : s.pass.spent.txs ≡ t.pass.spent.txs =
        one_list handed (committed (reverse rows)) s.pass.spent.txs t.pass.spent.txs s.pass.spent.handed_in t.pass.spent.handed_in in
        let coins_money : v.money ≡ w.money = s.money ∙ ap money e ∙ sym t.money in
        let all_issued : v.issued ≡ w.issued = s.issued ∙ ap issued txs ∙ sym t.issued in
        let all_redeemed : v.redeemed ≡ w.redeemed = s.redeemed ∙ ap redeemed txs ∙ sym t.redeemed in
        λ i. record {
          coins = coins i;
          value = value i;
          minted = minted i;
          committed = count i;
          money = coins_money i;
          issued = all_issued i;
          redeemed = all_redeemed i;
        }

pub one_verdict : OneVerdictLaw
one_verdict K mint handed rows (Sound v) (Sound w) s t = ap (λ x. Sound x) (totals_same K mint handed rows v w s t)
one_verdict K mint handed rows (Sound v) (Unsound q Cause) s t = absurd (fault_not_passed K mint handed rows q Cause s.book t s.pass)
one_verdict K mint handed rows (Sound v) (Unsound q (Unknown id)) s t = absurd (fault_not_passed K mint handed rows q (Unknown id) s.book t s.pass)
one_verdict K mint handed rows (Sound v) (Unsound q (Unfunded id)) s t = absurd (fault_not_passed K mint handed rows q (Unfunded id) s.book t s.pass)
one_verdict K mint handed rows (Sound v) (Unsound q Unfinished) s t =
    absurd (not_open K mint handed rows (journals_of rows) t.first.before t.first.after t.first.row rows t.first.rows_are s.done t.first.unfinished)
one_verdict K mint handed rows (Unsound p kind) (Sound w) s t = by kind s
  where
    by : (kind : UnsoundKind) → IsVerdict K mint handed rows (Unsound p kind) → Unsound p kind ≡ Sound w
    by Cause s = absurd (fault_not_passed K mint handed rows p Cause t.book s t.pass)
    by (Unknown id) s = absurd (fault_not_passed K mint handed rows p (Unknown id) t.book s t.pass)
    by (Unfunded id) s = absurd (fault_not_passed K mint handed rows p (Unfunded id) t.book s t.pass)
    by Unfinished s = absurd (not_open K mint handed rows (journals_of rows) s.first.before s.first.after s.first.row rows s.first.rows_are t.done
        s.first.unfinished)
one_verdict K mint handed rows (Unsound p kind) (Unsound q other) s t = by kind other s t
  where
    both : (kind other : UnsoundKind) → IsFirstUnsound K mint handed rows p kind → IsFirstUnsound K mint handed rows q other
        → Unsound p kind ≡ Unsound q other
    both kind other f g = let e = faults_same K mint handed rows p q kind other f g in λ i. Unsound (e.0 i) (e.1 i)

    fault_in : (kind : UnsoundKind) (n : ℕ) → IsVerdict K mint handed rows (Unsound n kind)
        → IsFirstUnsound K mint handed rows n kind ⊎ ((kind ≡ Unfinished) × IsFirstUnfinished K mint handed rows n)
    fault_in Cause n s = inl s
    fault_in (Unknown id) n s = inl s
    fault_in (Unfunded id) n s = inl s
    fault_in Unfinished n s = inr (refl, s)

    by : (kind other : UnsoundKind) → IsVerdict K mint handed rows (Unsound p kind) → IsVerdict K mint handed rows (Unsound q other)
        → Unsound p kind ≡ Unsound q other
    by kind other s t = elim (fault_in kind p s) [
      | inl f ↦ elim (fault_in other q t) [
        | inl g ↦ both kind other f g
        | inr g ↦ absurd (fault_not_passed K mint handed rows p kind g.1.book f g.1.pass)
      ]
      | inr f ↦ elim (fault_in other q t) [
        | inl g ↦ absurd (fault_not_passed K mint handed rows q other f.1.book g f.1.pass)
        | inr g ↦
            let e : p ≡ q = opens_same K mint handed rows (journals_of rows) p q f.1.first g.1.first in
            let k : kind ≡ other = f.0 ∙ sym g.0 in
            λ i. Unsound (e i) (k i)
      ]
    ]

-- The steps of a walk over a history.
use Rattle.std.proofs.Common.{◌≡◌, ◌<◌, ◌+◌, ℕ, List, [], ◌∷◌, ◌++◌, length, take, drop, reverse, get_or, sym, ap, ◌∙◌, subst, arith}
use Rattle.std.proofs.lemmas.List.{map_more, map-append, take-append-drop, drop_more, length-map, length-take-le, reverse-append}
use Rattle.std.proofs.lemmas.List.Elements.{All-push, All-same}
use Rattle.cbdc_model.specs.Records.{Shape, Record, Row, journal}
use Rattle.cbdc_model.specs.Coins.{Output, FullTx}
use Rattle.cbdc_model.specs.Book.{Book}
use Rattle.cbdc_model.specs.History.{committed, newly_won}
use Rattle.cbdc_types.specs.declared.answer.UnsoundKind.{UnsoundKind}
use Rattle.cbdc_types.specs.declared.answer.UnsoundKind.TheVariants.{Cause, Unknown, Unfunded, Unfinished}
use Rattle.audit.specs.declared.folding.Fold.{Fold}
use Rattle.audit.specs.declared.verdict.Verdict.TheVariants.{Unsound}
use Rattle.audit.specs.Spending.{IsFirstWrong}
use Rattle.audit.specs.Verdicts.{Passes, IsRowFault, IsFirstUnsound, IsVerdict}
use Rattle.audit.specs.declared.parts.PartVerdict.TheVariants.{Unsound as Unsound_part}
use Rattle.audit.specs.Parts.{IsPartVerdict}
use Rattle.audit.specs.Keeping.{HasSpent}
use Rattle.cbdc_model.specs.Causes.{IsCaused}
use Rattle.audit.specs.declared.place.Place.{Place}
use Rattle.audit.specs.Rows.{row_at, rows_at, record_at, newest_first}
use Rattle.audit.specs.declared.known.Known.{Known}
use Rattle.audit.specs.Knowing.{Knows}
use Rattle.audit.specs.Walks.{IsRowCaused, AllCaused, IsFirstUncaused, HasDoneRecord, AllDone, IsFirstOpen}

-- one more row is the newest
pub one_more : (all : List (List Record)) (h : List Place) (k : ℕ) (d : Place) → k < length h
    → newest_first all (take (k + 1) h) ≡ row_at all (get_or h k d) ∷ newest_first all (take k h)
one_more all h k d lt =
    ap reverse (map_more (row_at all) h k d lt) ∙ reverse-append (rows_at all (take k h)) (row_at all (get_or h k d) ∷ [])

row_is : (all : List (List Record)) (p : Place) (r : Record) → r ≡ record_at all p → row_at all p ≡ record { node = p.node; what = r }
row_is all p r e = ap (λ x. let row : Row = record { node = p.node; what = x } in row) (sym e)

pub next_row : (all : List (List Record)) (h : List Place) (k : ℕ) (p d : Place) (r : Record) → k < length h → p ≡ get_or h k d → r ≡ record_at all p
    → newest_first all (take (k + 1) h) ≡ record { node = p.node; what = r } ∷ newest_first all (take k h)
next_row all h k p d r lt ep er =
    one_more all h k d lt ∙ ap (λ q. row_at all q ∷ newest_first all (take k h)) (sym ep)
    ∙ ap (λ row. row ∷ newest_first all (take k h)) (row_is all p r er)

pub known_next : (K : Shape) (all : List (List Record)) (h : List Place) (k : ℕ) (p d : Place) (r : Record) (m : Known) → k < length h
    → p ≡ get_or h k d → r ≡ record_at all p
    → Knows all m (λ n. journal n (record { node = p.node; what = r } ∷ newest_first all (take k h)))
    → IsCaused K (λ n. journal n (newest_first all (take k h))) p.node r → AllCaused K (newest_first all (take k h))
    → Knows all m (λ n. journal n (newest_first all (take (k + 1) h))) × AllCaused K (newest_first all (take (k + 1) h))
known_next K all h k p d r m lt ep er knows caused rest =
    let e : newest_first all (take (k + 1) h) ≡ record { node = p.node; what = r } ∷ newest_first all (take k h) =
    next_row all h k p d r lt ep er in (
      subst (λ rows. Knows all m (λ n. journal n rows)) (sym e) knows,
      subst (AllCaused K) (sym e) (caused, rest),
    )

-- the rows before a place, the row there, and the rows behind it
pub split_rows : (all : List (List Record)) (h : List Place) (k : ℕ) (p d : Place) (r : Record) → k < length h → p ≡ get_or h k d
    → r ≡ record_at all p
    → rows_at all h ≡ rows_at all (take k h) ++ record { node = p.node; what = r } ∷ rows_at all (drop (k + 1) h)
split_rows all h k p d r lt ep er =
    ap (rows_at all) (sym (take-append-drop k h) ∙ ap (λ l. take k h ++ l) (drop_more h k d lt))
    ∙ map-append (row_at all) (take k h) (get_or h k d ∷ drop (k + 1) h)
    ∙ ap (λ row. rows_at all (take k h) ++ row ∷ rows_at all (drop (k + 1) h)) (ap (row_at all) (sym ep) ∙ row_is all p r er)

before_length : (all : List (List Record)) (h : List Place) (k : ℕ) → k < length h → length (rows_at all (take k h)) ≡ k
before_length all h k lt = length-map (take k h) (row_at all) ∙ length-take-le k h (omega arith)

pub first_uncaused : (K : Shape) (all : List (List Record)) (h : List Place) (k : ℕ) (p d : Place) (r : Record) → k < length h → p ≡ get_or h k d
    → r ≡ record_at all p
    → AllCaused K (newest_first all (take k h)) → (IsCaused K (λ n. journal n (newest_first all (take k h))) p.node r → ⊥)
    → IsFirstUncaused K (rows_at all h) k
first_uncaused K all h k p d r lt ep er rest uncaused = record {
  before = rows_at all (take k h);
  row = record { node = p.node; what = r };
  after = rows_at all (drop (k + 1) h);
  rows_are = split_rows all h k p d r lt ep er;
  stands = before_length all h k lt;
  caused = rest;
  uncaused = uncaused;
}

pub first_open_at : (K : Shape) (J : ℕ → List Record) (all : List (List Record)) (h : List Place) (k : ℕ) (p d : Place) (r : Record) → k < length h
    → p ≡ get_or h k d → r ≡ record_at all p
    → AllDone K J (rows_at all (take k h)) → (HasDoneRecord K J r → ⊥) → IsFirstOpen K J (rows_at all h) k
first_open_at K J all h k p d r lt ep er rest unfinished = record {
  before = rows_at all (take k h);
  row = record { node = p.node; what = r };
  after = rows_at all (drop (k + 1) h);
  rows_are = split_rows all h k p d r lt ep er;
  stands = before_length all h k lt;
  done = rest;
  unfinished = unfinished;
}

pub done_more : (K : Shape) (J : ℕ → List Record) (all : List (List Record)) (h : List Place) (k : ℕ) (p d : Place) (r : Record) → k < length h
    → p ≡ get_or h k d → r ≡ record_at all p
    → AllDone K J (rows_at all (take k h)) → HasDoneRecord K J r → AllDone K J (rows_at all (take (k + 1) h))
done_more K J all h k p d r lt ep er rest here =
    let P : Row → Type 0 = λ row. HasDoneRecord K J row.what in
    All-same P (rows_at all (take (k + 1) h)) (rows_at all (take k h) ++ row_at all (get_or h k d) ∷ []) (map_more (row_at all) h k d lt)
    (All-push P (rows_at all (take k h)) (row_at all (get_or h k d)) rest
    (subst (λ q. HasDoneRecord K J (record_at all q)) ep (subst (HasDoneRecord K J) er here)))

-- the row at a place is the first with which something is wrong
pub first_fault : (K : Shape) (mint : List Output) (handed : List FullTx) (all : List (List Record)) (h : List Place) (k : ℕ) (p d : Place)
    (r : Record) (kind : UnsoundKind) (b : Book) → k < length h → p ≡ get_or h k d
    → r ≡ record_at all p → Passes K mint handed (newest_first all (take k h)) b
    → IsRowFault K mint handed (newest_first all (take k h)) (record { node = p.node; what = r }) kind
    → IsFirstUnsound K mint handed (rows_at all h) k kind
first_fault K mint handed all h k p d r kind b lt ep er pass fault = record {
  before = rows_at all (take k h);
  row = record { node = p.node; what = r };
  after = rows_at all (drop (k + 1) h);
  rows_are = split_rows all h k p d r lt ep er;
  stands = before_length all h k lt;
  book = b;
  pass = pass;
  fault = fault;
}

pub fault_of : (K : Shape) (mint : List Output) (handed : List FullTx) (past : List Row) (row : Row) (kind : UnsoundKind) → IsRowCaused K past row
    → IsFirstWrong mint handed (committed past) (newly_won row.what (journal row.node past)) kind → IsRowFault K mint handed past row kind
fault_of K mint handed past row Cause caused w = absurd w.wrong
fault_of K mint handed past row (Unknown id) caused w = (caused, w)
fault_of K mint handed past row (Unfunded id) caused w = (caused, w)
fault_of K mint handed past row Unfinished caused w = absurd w.wrong

pub passes_of : (K : Shape) (mint : List Output) (handed : List FullTx) (past : List Row) (fold : Fold) → AllCaused K past
    → (s : HasSpent mint handed (committed past) fold) → Passes K mint handed past s.left
passes_of K mint handed past fold caused s = record { caused = caused; spent = s.are_spent }

pub spent_next : (mint : List Output) (handed : List FullTx) (all : List (List Record)) (h : List Place) (k : ℕ) (p d : Place) (r : Record)
    (fold : Fold) → k < length h → p ≡ get_or h k d → r ≡ record_at all p
    → HasSpent mint handed (committed (newest_first all (take k h)) ++ newly_won r (journal p.node (newest_first all (take k h)))) fold
    → HasSpent mint handed (committed (newest_first all (take (k + 1) h))) fold
spent_next mint handed all h k p d r fold lt ep er s =
    subst (λ rows. HasSpent mint handed (committed rows) fold) (sym (next_row all h k p d r lt ep er)) s

-- what is wrong at a place is the verdict
pub verdict_of : (K : Shape) (mint : List Output) (handed : List FullTx) (rows : List Row) (place : ℕ) (kind : UnsoundKind)
    → IsFirstUnsound K mint handed rows place kind → IsVerdict K mint handed rows (Unsound place kind)
verdict_of K mint handed rows place Cause f = f
verdict_of K mint handed rows place (Unknown id) f = f
verdict_of K mint handed rows place (Unfunded id) f = f
verdict_of K mint handed rows place Unfinished f = absurd f.fault

pub part_verdict_of : (K : Shape) (mint : List Output) (handed : List FullTx) (rows : List Row) (place : ℕ) (kind : UnsoundKind)
    → IsFirstUnsound K mint handed rows place kind → IsPartVerdict K mint handed rows (Unsound_part place kind)
part_verdict_of K mint handed rows place Cause f = f
part_verdict_of K mint handed rows place (Unknown id) f = f
part_verdict_of K mint handed rows place (Unfunded id) f = f
part_verdict_of K mint handed rows place Unfinished f = absurd f.fault

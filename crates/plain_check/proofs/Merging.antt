-- Journals that have a history have the one that is made of them by putting row after row in its place.
use Rattle.std.proofs.Common.{◌≡◌, inl, inr, ℕ, zero, suc, ◌+◌, ◌<◌, ◌≤◌, true, false, ◌&&◌, ◌||◌, ◌==◌, nat_lt, if◌then◌else◌, List, [], ◌∷◌, ◌++◌}
use Rattle.std.proofs.Common.{refl, sym, ap, ◌∙◌, subst, arith}
use Rattle.cbdc_model.specs.History.{Minted, goes_above, IsOrdered, first_rows}
use Rattle.cbdc_model.specs.Records.{Shape, Record, Row, journal, stamp_of}
use Rattle.cbdc_model.specs.World.{first_record, IsHistory}
use Rattle.ledger_laws.proofs.Members.{In}
use Rattle.ledger_laws.proofs.Rows.{at, away, at_node, head_at, head_away}
use Rattle.ledger_laws.proofs.Worlds.{insert_row}
use Rattle.ledger_laws.proofs.Merge.{AllBelow, Rising, insert_away, insert_at, insert_ordered}
use Rattle.ledger_laws.proofs.OneHistory.{above_all}
use Rattle.ledger_laws.proofs.HistoryLaws.{journal-append, one_history_law}
use Rattle.ledger_laws.proofs.FirstJournals.{first_is}
use Rattle.plain_check.specs.Merging.{put_row, put_records, behind_first, later_below}

put_is : (row : Row) (rows : List Row) → put_row row rows ≡ insert_row row rows
put_is row [] = refl
put_is row (head ∷ later) =
    elim (goes_above row head) as (λ c. (if c then row ∷ (head ∷ later) else head ∷ put_row row later)
    ≡ (if c then row ∷ (head ∷ later) else head ∷ insert_row row later)) [
      | true ↦ refl
      | false ↦ ap (λ l. head ∷ l) (put_is row later)
    ]

-- the journals and the order behind one row more
row_away : (row : Row) (rows : List Row) (m : ℕ) → (row.node == m) ≡ false → journal m (put_row row rows) ≡ journal m rows
row_away row rows m e = ap (journal m) (put_is row rows) ∙ insert_away row rows m e

row_at : (row : Row) (rows : List Row) → AllBelow (journal row.node rows) (stamp_of row.what)
    → journal row.node (put_row row rows) ≡ row.what ∷ journal row.node rows
row_at row rows h = ap (journal row.node) (put_is row rows) ∙ insert_at row rows h

row_ordered : (row : Row) (rows : List Row) → AllBelow (journal row.node rows) (stamp_of row.what) → IsOrdered rows → IsOrdered (put_row row rows)
row_ordered row rows h o = subst IsOrdered (sym (put_is row rows)) (insert_ordered row rows h o)

-- and behind a journal's rows
records_away : (n : ℕ) (J : List Record) (rows : List Row) (m : ℕ) → (n == m) ≡ false → journal m (put_records n J rows) ≡ journal m rows
records_away n [] rows m e = refl
records_away n (r ∷ J) rows m e = row_away (record { node = n; what = r }) (put_records n J rows) m e ∙ records_away n J rows m e

record Own (n : ℕ) (J : List Record) (rows : List Row) : Type 0 where
  journal_is : journal n (put_records n J rows) ≡ J
  ordered : IsOrdered rows → IsOrdered (put_records n J rows)

own : (n : ℕ) (J : List Record) (rows : List Row) → journal n rows ≡ [] → Rising J → Own n J rows
own n [] rows e h = record { journal_is = e; ordered = λ o. o }
own n (r ∷ J) rows e h =
    let f : Own n J rows = own n J rows e h.1 in
    let b : AllBelow (journal n (put_records n J rows)) (stamp_of r) = subst (λ L. AllBelow L (stamp_of r)) (sym f.journal_is) h.0 in
    record {
      journal_is = row_at (record { node = n; what = r }) (put_records n J rows) b ∙ ap (λ L. r ∷ L) f.journal_is;
      ordered = λ o. row_ordered (record { node = n; what = r }) (put_records n J rows) b (f.ordered o);
    }

record Merges (J : ℕ → List Record) (N : ℕ) : Type 0 where
  ordered : IsOrdered (later_below J N)
  inside : (m : ℕ) → m < N → journal m (later_below J N) ≡ behind_first (J m)
  beyond : (m : ℕ) → N ≤ m → journal m (later_below J N) ≡ []

merges : (J : ℕ → List Record) (N : ℕ) → ((n : ℕ) → Rising (behind_first (J n))) → Merges J N
merges J zero rising = record { ordered = tt; inside = λ m lt. absurd (omega arith); beyond = λ m le. refl }
merges J (suc n) rising =
    let below : Merges J n = merges J n rising in
    let here : Own n (behind_first (J n)) (later_below J n) = own n (behind_first (J n)) (later_below J n) (below.beyond n (omega arith)) (rising n)
    in
    record {
      ordered = here.ordered below.ordered;
      inside = λ m lt. elim (at_node n m) [
        | at a ↦ subst (λ k. journal k (later_below J (suc n)) ≡ behind_first (J k)) a here.journal_is
        | away a ↦ records_away n (behind_first (J n)) (later_below J n) m a ∙ below.inside m (smaller n m a lt)
      ];
      beyond = λ m le. records_away n (behind_first (J n)) (later_below J n) m (larger n m le) ∙ below.beyond m (omega arith);
    }
  where
    smaller : (n m : ℕ) → (n == m) ≡ false → m < suc n → m < n
    smaller n m e lt = grind arith

    larger : (n m : ℕ) → suc n ≤ m → (n == m) ≡ false
    larger n m le = grind arith

-- in ordered rows each node's stamps fall
same_node : (p q u v : ℕ) → (nat_lt q p || ((q == p) && nat_lt v u)) ≡ true → u ≡ v → q < p
same_node p q u v h e = grind arith

all_below : (a : Row) (rows : List Row) (n : ℕ) → ((r : Row) → In r rows → goes_above a r ≡ true) → a.node ≡ n
    → AllBelow (journal n rows) (stamp_of a.what)
all_below a [] n h e = tt
all_below a (b ∷ rows) n h e =
    let rest : AllBelow (journal n rows) (stamp_of a.what) = all_below a rows n (λ r i. h r (inr i)) e in
    elim (at_node b.node n) [
      | at s ↦ subst (λ J. AllBelow J (stamp_of a.what)) (sym (head_at b rows n s))
          (same_node (stamp_of a.what) (stamp_of b.what) a.node b.node (h b (inl refl)) (e ∙ sym s), rest)
      | away s ↦ subst (λ J. AllBelow J (stamp_of a.what)) (sym (head_away b rows n s)) rest
    ]

ordered_rising : (rows : List Row) (n : ℕ) → IsOrdered rows → Rising (journal n rows)
ordered_rising [] n o = tt
ordered_rising (a ∷ rows) n o =
    let rest : Rising (journal n rows) = ordered_rising rows n o.1 in
    elim (at_node a.node n) [
      | at s ↦ subst Rising (sym (head_at a rows n s)) (all_below a rows n (above_all a rows o.0 o.1) s, rest)
      | away s ↦ subst Rising (sym (head_away a rows n s)) rest
    ]

pub behind_last : (xs : List Record) (r : Record) → behind_first (xs ++ r ∷ []) ≡ xs
behind_last [] r = refl
behind_last (x ∷ []) r = refl
behind_last (x ∷ (y ∷ xs)) r = ap (λ l. x ∷ l) (behind_last (y ∷ xs) r)

none_left : (xs ys : List Record) → xs ++ ys ≡ [] → xs ≡ []
none_left [] ys e = refl
none_left (x ∷ xs) ys e = absurd (no_cons x (xs ++ ys) e)
  where
    no_cons : (r : Record) (J : List Record) → r ∷ J ≡ [] → ⊥
    no_cons r J e = cc

module _ (K : Shape) (m : Minted) (J : ℕ → List Record) (later : List Row) (history : IsHistory K m J later)
    (none : (n : ℕ) → K.coordinators + K.shards ≤ n → J n ≡ []) where
  parts : (n : ℕ) → journal n later ++ journal n (first_rows K m) ≡ J n
  parts n = sym (journal-append n later (first_rows K m)) ∙ history.journals_are n

  behind_is : (n : ℕ) → behind_first (J n) ≡ journal n later
  behind_is n = elim (nat_lt n (K.coordinators + K.shards))
      as (λ c. nat_lt n (K.coordinators + K.shards) ≡ c → behind_first (J n) ≡ journal n later) [
        | true ↦ λ e. let lt : n < K.coordinators + K.shards = grind (arith, e) in
            ap behind_first (sym (parts n) ∙ ap (λ l. journal n later ++ l) (first_is K m n lt)) ∙ behind_last (journal n later) (first_record K m n)
        | false ↦ λ e. let le : K.coordinators + K.shards ≤ n = grind (arith, e) in
            ap behind_first (none n le) ∙ sym (none_left (journal n later) (journal n (first_rows K m)) (parts n ∙ none n le))
      ] refl

  made : Merges J (K.coordinators + K.shards)
  made = merges J (K.coordinators + K.shards) (λ n. subst Rising (sym (behind_is n)) (ordered_rising later n history.ordered))

  made_is : (n : ℕ) → journal n (later_below J (K.coordinators + K.shards)) ≡ journal n later
  made_is n = elim (nat_lt n (K.coordinators + K.shards)) as
      (λ c. nat_lt n (K.coordinators + K.shards) ≡ c → journal n (later_below J (K.coordinators + K.shards)) ≡ journal n later) [
        | true ↦ λ e. let lt : n < K.coordinators + K.shards = grind (arith, e) in made.inside n lt ∙ behind_is n
        | false ↦ λ e. let le : K.coordinators + K.shards ≤ n = grind (arith, e) in
            made.beyond n le ∙ sym (none_left (journal n later) (journal n (first_rows K m)) (parts n ∙ none n le))
      ] refl

  -- what is made of the journals is their history
  pub made_history : IsHistory K m J (later_below J (K.coordinators + K.shards))
  made_history = record {
    ordered = made.ordered;
    journals_are = λ n. journal-append n (later_below J (K.coordinators + K.shards)) (first_rows K m)
        ∙ ap (λ l. l ++ journal n (first_rows K m)) (made_is n) ∙ parts n;
  }

  -- and the one that they have
  pub made_later : later ≡ later_below J (K.coordinators + K.shards)
  made_later = one_history_law K m J later (later_below J (K.coordinators + K.shards)) history made_history

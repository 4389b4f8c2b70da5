-- The records and the rows up to a stamp.
use Rattle.std.proofs.Common.{◌≡◌, ℕ, zero, suc, Bool, true, false, ◌&&◌, ◌||◌, ◌==◌, nat_lt, if◌then◌else◌, List, [], ◌∷◌, ◌++◌, reverse, refl, sym}
use Rattle.std.proofs.Common.{ap, ◌∙◌, subst, arith}
use mathlib.Core.List.{reverse_aux}
use Rattle.cbdc_model.specs.Records.{Shape, Record, Row, journal, stamp_of, Genesis, Start}
use Rattle.cbdc_model.specs.Ranges.{shard_node, on_shard}
use Rattle.cbdc_model.specs.History.{Minted, header_of, starts, geneses, first_rows, IsOrdered}
use Rattle.cut_audit.specs.Cuts.{up_to, rows_up_to}

-- a function of either of two
into : {X Y : Type 0} (f : X → Y) (c : Bool) (x y : X) → f (if c then x else y) ≡ (if c then f x else f y)
into f true x y = refl
into f false x y = refl

-- ---- journals of rows

either : (c d : Bool) (r : Record) (p q : List Record) → p ≡ q
    → (if c then p else (if d then r ∷ p else p)) ≡ (if d then (if c then q else r ∷ q) else q)
either true true r p q e = e
either true false r p q e = e
either false true r p q e = ap (λ l. r ∷ l) e
either false false r p q e = e

pub journal_up_to : (s n : ℕ) (rows : List Row) → journal n (rows_up_to s rows) ≡ up_to s (journal n rows)
journal_up_to s n [] = refl
journal_up_to s n (row ∷ rows) =
    into (journal n) (nat_lt s (stamp_of row.what)) (rows_up_to s rows) (row ∷ rows_up_to s rows)
    ∙ either (nat_lt s (stamp_of row.what)) (row.node == n) row.what (journal n (rows_up_to s rows)) (up_to s (journal n rows))
    (journal_up_to s n rows)
    ∙ sym (into (up_to s) (row.node == n) (row.what ∷ journal n rows) (journal n rows))

pub up_to-append : (s : ℕ) (I J : List Record) → up_to s (I ++ J) ≡ up_to s I ++ up_to s J
up_to-append s [] J = refl
up_to-append s (r ∷ I) J = elim (nat_lt s (stamp_of r)) as
    (λ c. (if c then up_to s (I ++ J) else r ∷ up_to s (I ++ J)) ≡ (if c then up_to s I else r ∷ up_to s I) ++ up_to s J) [
      | true ↦ up_to-append s I J
      | false ↦ ap (λ l. r ∷ l) (up_to-append s I J)
    ]

pub rows_up_to-append : (s : ℕ) (I J : List Row) → rows_up_to s (I ++ J) ≡ rows_up_to s I ++ rows_up_to s J
rows_up_to-append s [] J = refl
rows_up_to-append s (row ∷ I) J = elim (nat_lt s (stamp_of row.what)) as
    (λ c. (if c then rows_up_to s (I ++ J) else row ∷ rows_up_to s (I ++ J))
    ≡ (if c then rows_up_to s I else row ∷ rows_up_to s I) ++ rows_up_to s J) [
      | true ↦ rows_up_to-append s I J
      | false ↦ ap (λ l. row ∷ l) (rows_up_to-append s I J)
    ]

-- ---- rows the other way round

onto : (s : ℕ) (rows later : List Row) → rows_up_to s (reverse_aux rows later) ≡ reverse_aux (rows_up_to s rows) (rows_up_to s later)
onto s [] later = refl
onto s (row ∷ rows) later =
    onto s rows (row ∷ later)
    ∙ elim (nat_lt s (stamp_of row.what)) as (λ c. reverse_aux (rows_up_to s rows) (if c then rows_up_to s later else row ∷ rows_up_to s later)
    ≡ reverse_aux (if c then rows_up_to s rows else row ∷ rows_up_to s rows) (rows_up_to s later)) [ true ↦ refl | false ↦ refl ]

pub rows_up_to-reverse : (s : ℕ) (rows : List Row) → rows_up_to s (reverse rows) ≡ reverse (rows_up_to s rows)
rows_up_to-reverse s rows = onto s rows []

-- ---- rows in order

low_numbers : (s p q u v : ℕ) → (nat_lt q p || ((q == p) && nat_lt v u)) ≡ true → nat_lt s p ≡ false → nat_lt s q ≡ false
low_numbers s p q u v h e = grind arith

-- where a row is up to the stamp, so are all behind it
all_low : (s : ℕ) (row : Row) (later : List Row) → IsOrdered (row ∷ later) → nat_lt s (stamp_of row.what) ≡ false
    → rows_up_to s (row ∷ later) ≡ row ∷ later
all_low s row [] o e = ap (λ (c : Bool). if c then [] else row ∷ []) e
all_low s row (next ∷ later) o e =
    ap (λ (c : Bool). if c then rows_up_to s (next ∷ later) else row ∷ rows_up_to s (next ∷ later)) e
    ∙ ap (λ l. row ∷ l) (all_low s next later o.1 (low_numbers s (stamp_of row.what) (stamp_of next.what) row.node next.node o.0 e))

-- those up to the stamp stand behind all others
pub split : (s : ℕ) (rows : List Row) → IsOrdered rows → (newer : List Row) × (rows ≡ newer ++ rows_up_to s rows)
split s [] o = ([], refl)
split s (row ∷ rows) o = elim (nat_lt s (stamp_of row.what)) as
    (λ c. nat_lt s (stamp_of row.what) ≡ c → (newer : List Row) × (row ∷ rows ≡ newer ++ rows_up_to s (row ∷ rows))) [
      | true ↦ λ e.
          let r = split s rows o.1 in
          let same : rows_up_to s (row ∷ rows) ≡ rows_up_to s rows = ap (λ (c : Bool). if c then rows_up_to s rows else row ∷ rows_up_to s rows) e in
          (row ∷ r.0, ap (λ l. row ∷ l) (r.1 ∙ ap (λ l. r.0 ++ l) (sym same)))
      | false ↦ λ e. ([], sym (all_low s row rows o e))
    ] refl

ordered_end : (newer older : List Row) → IsOrdered (newer ++ older) → IsOrdered older
ordered_end [] older o = o
ordered_end (row ∷ newer) older o = ordered_end newer older o.1

pub ordered_up_to : (s : ℕ) (rows : List Row) → IsOrdered rows → IsOrdered (rows_up_to s rows)
ordered_up_to s rows o = let k = split s rows o in ordered_end k.0 (rows_up_to s rows) (subst IsOrdered k.1 o)

-- ---- the first rows

none_below : (s : ℕ) → nat_lt s 0 ≡ false
none_below s = grind arith

module _ (s : ℕ) (K : Shape) (m : Minted) where
  kept : (row : Row) (rows : List Row) → stamp_of row.what ≡ 0 → rows_up_to s rows ≡ rows → rows_up_to s (row ∷ rows) ≡ row ∷ rows
  kept row rows zero_stamp e =
      ap (λ (t : ℕ). if nat_lt s t then rows_up_to s rows else row ∷ rows_up_to s rows) zero_stamp
      ∙ ap (λ (c : Bool). if c then rows_up_to s rows else row ∷ rows_up_to s rows) (none_below s) ∙ ap (λ l. row ∷ l) e

  starts_low : (n : ℕ) → rows_up_to s (starts K m n) ≡ starts K m n
  starts_low zero = refl
  starts_low (suc n) = kept (record { node = n; what = Start (header_of K m.id n) }) (starts K m n) refl (starts_low n)

  geneses_low : (n : ℕ) → rows_up_to s (geneses K m n ++ starts K m K.coordinators) ≡ geneses K m n ++ starts K m K.coordinators
  geneses_low zero = starts_low K.coordinators
  geneses_low (suc n) =
      kept (record { node = shard_node K n; what = Genesis (header_of K m.id (shard_node K n)) (on_shard K n m.hashes) })
      (geneses K m n ++ starts K m K.coordinators) refl (geneses_low n)

  pub first_low : rows_up_to s (first_rows K m) ≡ first_rows K m
  first_low = geneses_low K.shards

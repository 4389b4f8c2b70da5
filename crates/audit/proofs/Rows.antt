-- Rows and the journals that they have.
use Rattle.std.proofs.Common.{◌≡◌, ◌+◌, ◌<◌, ℕ, true, false, not, ◌&&◌, ◌||◌, ◌==◌, nat_lt, List, [], ◌∷◌, reverse, if◌then◌else◌, refl, sym, ap, ◌∙◌}
use Rattle.std.proofs.Common.{arith}
use mathlib.Core.List.{reverse_aux}
use Rattle.std.proofs.lemmas.List.Elements.{All-head}
use Rattle.cbdc_model.specs.Records.{Record, Row, journal, stamp_of}
use Rattle.cbdc_model.specs.History.{IsAbove, IsOrdered}
pub use Rattle.ledger_laws.proofs.Rows.{AtNode, at, away, at_node, head_at, head_away}
pub use Rattle.ledger_laws.proofs.HistoryLaws.{journal-append}
use Rattle.audit.specs.Rows.{Rises, journal_in}
use Rattle.audit.specs.Merges.{RiseAll, journals_below, rows_of_node}

-- the rows of one node
pub own_at : (node n : ℕ) (records : List Record) → node ≡ n → journal n (rows_of_node node records) ≡ records
own_at node n [] e = refl
own_at node n (r ∷ records) e = head_at (record { node = node; what = r }) (rows_of_node node records) n e ∙ ap (λ J. r ∷ J) (own_at node n records e)

pub own_away : (node n : ℕ) (records : List Record) → (node == n) ≡ false → journal n (rows_of_node node records) ≡ []
own_away node n [] e = refl
own_away node n (r ∷ records) e = head_away (record { node = node; what = r }) (rows_of_node node records) n e ∙ own_away node n records e

pub own_journals : (all : List (List Record)) (node n : ℕ)
    → journal n (rows_of_node node (journal_in all node)) ≡ journals_below all node (node + 1) n
own_journals all node n = elim (at_node node n) [
  | at e ↦ own_at node n (journal_in all node) e ∙ ap (journal_in all) e ∙ sym (within (journal_in all n) node n e)
  | away e ↦ own_away node n (journal_in all node) e ∙ sym (outside (journal_in all n) node n e)
]
  where
    within : (J : List Record) (node n : ℕ) → node ≡ n → (if not (nat_lt n node) && nat_lt n (node + 1) then J else []) ≡ J
    within J node n e = grind arith

    outside : (J : List Record) (node n : ℕ) → (node == n) ≡ false → (if not (nat_lt n node) && nat_lt n (node + 1) then J else []) ≡ []
    outside J node n e = grind arith

goes : (p q u : ℕ) → q < p → (nat_lt q p || ((q == p) && nat_lt u u)) ≡ true
goes p q u lt = grind arith

pub own_rises : (node : ℕ) (records : List Record) → Rises records → RiseAll (rows_of_node node records)
own_rises node [] h = tt
own_rises node (r ∷ []) h = (tt, tt)
own_rises node (r ∷ (q ∷ records)) h =
    (goes (stamp_of q) (stamp_of r) node (All-head (λ p. stamp_of r < stamp_of p) q records h.0), own_rises node (q ∷ records) h.1)

-- rows that rise are in order, the newest first
Joins : List Row → List Row → Type 0
Joins [] later = Unit {0}
Joins (row ∷ rows) later = IsAbove row later

onto : (rows later : List Row) → RiseAll rows → Joins rows later → IsOrdered later → IsOrdered (reverse_aux rows later)
unfolding Joins
onto [] later h j o = o
onto (row ∷ []) later h j o = (j, o)
onto (row ∷ (next ∷ rows)) later h j o = onto (next ∷ rows) (row ∷ later) h.1 h.0 (j, o)

ends : (rows : List Row) → Joins rows []
unfolding Joins
ends [] = tt
ends (row ∷ rows) = tt

pub ordered_from : (rows : List Row) → RiseAll rows → IsOrdered (reverse rows)
ordered_from rows h = onto rows [] h (ends rows) tt

-- The history of the journals that are lent.
use Rattle.std.proofs.Common.{◌≡◌, ◌+◌, ◌++◌, [], ℕ, List, length, map, reverse, Option, Some, None, Result, Ok, Err, sym, ◌∙◌, ap, subst}
use Rattle.std.specs.Prelude.{All, IfOk, MatchOption}
use Rattle.std.specs.Borrow.{Bor}
use Rattle.std.proofs.lemmas.List.{length-append, length-map, append-nil}
use Rattle.std.proofs.lemmas.List.Elements.{All-nil}
use Rattle.cbdc_model.specs.Records.{Shape, Record, journal}
use Rattle.cbdc_model.specs.After.{IsJournal}
use Rattle.cbdc_model.specs.History.{IsOrdered}
use Rattle.audit.specs.declared.place.Place.{Place}
use Rattle.audit.specs.Rows.{read, journal_in, rows_at, newest_first, Rises}
use Rattle.audit.specs.Walks.{AllCaused, IsFirstUncaused}
use Rattle.node_journal.specs.Nodes.{NodeOf}
use Rattle.rack_ledgers.specs.Ledgers.{ByPlace}
use Rattle.rack_ledgers.specs.Caused.{listed_journals, AreMerged, AreCaused, HasUncaused}
use Rattle.rack_ledgers.proofs.Rising.{each_rises, lent_rise}

module _ {D : Type 0} (logs : List (NodeOf D)) (shards : List (NodeOf D)) where
  -- all that is lent
  pub lent_all : (start mid all slice : List (Bor (List Record))) (lent_logs : List (NodeOf D)) (lent_shards : List (NodeOf D)) → start ≡ []
      → lent_logs ≡ logs → lent_shards ≡ shards
      → read mid ≡ read start ++ map (λ l. reverse l.journal) lent_logs → read all ≡ read mid ++ map (λ s. reverse s.journal) lent_shards
      → slice ≡ all → read slice ≡ listed_journals logs shards
  lent_all start mid all slice lent_logs lent_shards none are_logs are_shards first second same =
      ap read same ∙ second
      ∙ ap (λ (l : List (List Record)). l ++ map (λ (s : NodeOf D). reverse s.journal) lent_shards)
      (first ∙ ap (λ (l : List (Bor (List Record))). read l ++ map (λ (x : NodeOf D). reverse x.journal) lent_logs) none
      ∙ ap (map (λ (x : NodeOf D). reverse x.journal)) are_logs)
      ∙ ap (λ (l : List (NodeOf D)). map (λ (x : NodeOf D). reverse x.journal) logs ++ map (λ (s : NodeOf D). reverse s.journal) l) are_shards

  pub lent_count : (slice : List (Bor (List Record))) → read slice ≡ listed_journals logs shards → length slice ≡ length logs + length shards
  lent_count slice same =
      sym (length-map slice (λ (j : Bor (List Record)). j.now)) ∙ ap length same
      ∙ length-append (map (λ (l : NodeOf D). reverse l.journal) logs) (map (λ (s : NodeOf D). reverse s.journal) shards)
      ∙ ap (λ (k : ℕ). k + length (map (λ (s : NodeOf D). reverse s.journal) shards)) (length-map logs (λ (l : NodeOf D). reverse l.journal))
      ∙ ap (λ (k : ℕ). length logs + k) (length-map shards (λ (s : NodeOf D). reverse s.journal))

  pub all_rise : ByPlace (λ n l. IsJournal l.header l.journal) logs → ByPlace (λ n s. IsJournal s.header s.journal) shards
      → All Rises (listed_journals logs shards)
  all_rise logs_are shards_are =
      lent_rise (λ (l : NodeOf D). l.header) (λ (l : NodeOf D). l.journal) logs (map (λ (s : NodeOf D). reverse s.journal) shards) logs_are
      (subst (All Rises) (append-nil (map (λ (s : NodeOf D). reverse s.journal) shards))
      (lent_rise (λ (s : NodeOf D). s.header) (λ (s : NodeOf D). s.journal) shards [] shards_are (All-nil Rises)))

pub are_merged : (all js : List (List Record)) (h : List Place) → all ≡ js → All Rises js → ((n : ℕ) → journal n (rows_at all h) ≡ journal_in all n)
    → ((n : ℕ) → journal n (newest_first all h) ≡ reverse (journal_in all n))
    → (((n : ℕ) → Rises (journal_in all n)) → IsOrdered (newest_first all h)) → AreMerged js (rows_at all h)
are_merged all js h same rise own newest ordered = record {
  journals = λ n. own n ∙ ap (λ (a : List (List Record)). journal_in a n) same;
  history = record {
    ordered = ordered (λ n. subst (λ (a : List (List Record)). Rises (journal_in a n)) (sym same) (each_rises js rise n));
    journals_are = λ n. newest n ∙ ap (λ (a : List (List Record)). reverse (journal_in a n)) same;
  };
}

-- what the walk says of it
pub walked : {E : Type 0} (K : Shape) (all js : List (List Record)) (h : List Place) → AreMerged js (rows_at all h) → (r : Result (Option ℕ) E)
    → IfOk r (λ first. MatchOption first (AllCaused K (newest_first all h)) (IsFirstUncaused K (rows_at all h)))
    → IfOk r (λ first. MatchOption first (AreCaused K js) (HasUncaused K js))
walked K all js h merged (Ok None) is = record { rows = rows_at all h; merged = merged; caused = is }
walked K all js h merged (Ok (Some place)) is = record { rows = rows_at all h; merged = merged; first = is }
walked K all js h merged (Err e) is = tt

-- Stamps rise along each of the journals of a ledger's nodes.
use Rattle.std.proofs.Common.{◌++◌, ◌∷◌, [], ℕ, zero, suc, List, map, reverse, refl, sym, subst}
use Rattle.std.specs.Prelude.{All, slice_index_or}
use Rattle.std.proofs.lemmas.List.{reverse-reverse}
use Rattle.std.proofs.lemmas.List.Elements.{All-cons, All-head, All-tail}
use Rattle.cbdc_model.specs.Records.{Header, Record}
use Rattle.cbdc_model.specs.After.{IsJournal}
use Rattle.audit.specs.Rows.{Rises}
use Rattle.audit.proofs.Journals.{journal_rises}
use Rattle.rack_ledgers.specs.Ledgers.{ByPlace}

pub each_rises : (all : List (List Record)) → All Rises all → (n : ℕ) → Rises (slice_index_or all n [])
each_rises [] rise n = tt
each_rises (j ∷ all) rise zero = All-head Rises j all rise
each_rises (j ∷ all) rise (suc n) = each_rises all (All-tail Rises j all rise) n

module _ {N : Type 0} (header : N → Header) (journal : N → List Record) where
  pub lent_rise : (nodes : List N) (rest : List (List Record)) → ByPlace (λ n x. IsJournal (header x) (journal x)) nodes → All Rises rest
      → All Rises (map (λ x. reverse (journal x)) nodes ++ rest)
  lent_rise [] rest are rise = rise
  lent_rise (x ∷ nodes) rest are rise =
      let here : IsJournal (header x) (reverse (reverse (journal x))) =
      subst (λ (J : List Record). IsJournal (header x) J) (sym (reverse-reverse (journal x))) (are zero x refl) in
      All-cons Rises (reverse (journal x)) (map (λ y. reverse (journal y)) nodes ++ rest) (journal_rises (header x) (reverse (journal x)) here)
      (lent_rise nodes rest (λ n y is. are (suc n) y is) rise)

-- What `cut` gives of lists that were taken of a kept ledger is a moment of it.
use Rattle.std.proofs.Common.{◌≡◌, ℕ, ◌<◌, ◌≤◌, List, length, reverse, sym, subst}
use Rattle.std.proofs.lemmas.List.{reverse-reverse}
use Rattle.cbdc_model.specs.Records.{Record, Row, journal, last_stamp}
use Rattle.cbdc_model.specs.Ranges.{node_count}
use Rattle.cbdc_model.specs.History.{IsOrdered}
use Rattle.audit.specs.Rows.{Rises, journal_in}
use Rattle.cut_audit.specs.Cuts.{up_to, IsLeastLast, IsCutOf}
use Rattle.cut_audit.specs.Laws.{IsMoment}
use Rattle.cut_audit.proofs.Keeping.{the_fronts_law, the_cut_law, the_part_law}

pub moment : (all : List (List Record)) (s : ℕ) (rows : List Row) → IsLeastLast all s
    → ((n : ℕ) → journal n rows ≡ up_to s (reverse (journal_in all n)))
    → (((n : ℕ) → Rises (journal_in all n)) → IsOrdered rows) → IsMoment all rows
moment all s rows least lists ordered = λ K mint txs X shards size kept fronts.
    let L : ℕ → List Record = λ n. reverse (journal_in all n) in
    let rises : (n : ℕ) → Rises (journal_in all n) =
    λ n. subst Rises (reverse-reverse (journal_in all n)) (the_fronts_law K mint txs X L kept fronts n) in
    let low : (n : ℕ) → n < node_count K → s ≤ last_stamp (L n) = λ n lt. least.below n (subst (λ m. n < m) (sym size) lt) in
    let c : IsCutOf L s rows = record { ordered = ordered rises; lists_are = lists } in
    record {
      kept = the_cut_law K mint txs X L s rows shards kept fronts low c;
      sound = λ clean. the_part_law K mint txs X L s rows shards clean kept fronts low c;
    }

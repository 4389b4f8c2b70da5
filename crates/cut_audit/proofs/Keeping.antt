-- The cut of lists that were taken of kept journals is kept.
use Rattle.std.proofs.Common.{◌≡◌, inl, inr, ℕ, ◌+◌, ◌<◌, ◌≤◌, List, [], ◌∷◌, ◌++◌, refl, sym, ap, ◌∙◌, subst}
use Rattle.std.proofs.lemmas.Bool.{cases_lt}
use Rattle.cbdc_model.specs.Records.{Shape, Record, Row, journal, last_stamp}
use Rattle.cbdc_model.specs.Coins.{Output, FullTx}
use Rattle.cbdc_model.specs.Clean.{Clean, IsProperCompact}
use Rattle.cbdc_model.specs.History.{minted, first_rows, history_of, IsKept}
use Rattle.cbdc_model.specs.Lanes.{IsEnd}
use Rattle.cbdc_model.specs.Ranges.{node_count}
use Rattle.cbdc_model.specs.World.{KeptJournals}
use Rattle.ledger_laws.proofs.HistoryLaws.{reach_law, cut_law}
use Rattle.ledger_laws.proofs.Rows.{journal-append}
use Rattle.audit.specs.Laws.{AllAfter}
use Rattle.audit.proofs.Ordered.{ordered_rows}
use Rattle.audit.proofs.KeptParts.{kept_part}
use Rattle.cut_audit.specs.Cuts.{up_to, rows_up_to, AreFronts, IsCutOf, IsKeptCut}
use Rattle.cut_audit.specs.Laws.{FrontsLaw, CutLaw, PartLaw, IsSoundCut}
use Rattle.cut_audit.proofs.UpTo.{journal_up_to, up_to-append, split, ordered_up_to, first_low}
use Rattle.cut_audit.proofs.Falling.{Falls, falls, falls_end, falls_rise, nothing_beyond, not_in_cut}

afters : (K : Shape) (mint : List Output) (txs : List FullTx) (later : List Row) → IsKept K mint txs later → AllAfter K (minted mint) later
afters K mint txs [] kept = tt
afters K mint txs (row ∷ later) kept = (kept.0, afters K mint txs later kept.3)

nil_end : (more L : List Record) → [] ≡ more ++ L → L ≡ []
nil_end [] L e = sym e
nil_end (r ∷ more) L e = absurd (let z : [] ≡ r ∷ (more ++ L) = e in cc)

module _ (K : Shape) (mint : List Output) (txs : List FullTx) (X L : ℕ → List Record) (s : ℕ) (rows : List Row) (kept : KeptJournals K mint txs X)
    (fronts : AreFronts K X L)
    (low : (n : ℕ) → n < node_count K → s ≤ last_stamp (L n)) (c : IsCutOf L s rows) where
  abbrev first : List Row
  first = first_rows K (minted mint)

  abbrev older : List Row
  older = rows_up_to s kept.later

  older_kept : IsKept K mint txs older
  older_kept = let k = split s kept.later kept.history.ordered in cut_law K mint txs k.0 older (subst (IsKept K mint txs) k.1 kept.kept)

  -- the records of a journal up to the stamp are those of the rows up to it
  of_journal : (n : ℕ) → journal n (older ++ first) ≡ up_to s (X n)
  of_journal n =
      journal-append n older first ∙ ap (λ J. J ++ journal n first) (journal_up_to s n kept.later)
      ∙ ap (λ J. up_to s (journal n kept.later) ++ J) (ap (journal n) (sym (first_low s K (minted mint))) ∙ journal_up_to s n first)
      ∙ sym (up_to-append s (journal n kept.later) (journal n first))
      ∙ ap (up_to s) (sym (journal-append n kept.later first) ∙ kept.history.journals_are n)

  -- and those of the list that was taken of it
  of_list : (n : ℕ) → up_to s (X n) ≡ up_to s (L n)
  of_list n =
      let e : IsEnd (L n) (X n) = fronts.ends n in
      elim (cases_lt n (K.coordinators + K.shards)) [
        | inl lt ↦
            let f : Falls (X n) = subst Falls (kept.history.journals_are n) (falls K (minted mint) (IsProperCompact txs) kept.later kept.kept n) in
            ap (up_to s) e.1 ∙ not_in_cut s e.0 (L n) (subst Falls e.1 f) (fronts.some n lt) (low n lt)
        | inr le ↦
            let none : X n ≡ [] = sym (kept.history.journals_are n) ∙ nothing_beyond K (minted mint) (IsProperCompact txs) kept.later kept.kept n le
            in
            ap (up_to s) (none ∙ sym (nil_end e.0 (L n) (sym none ∙ e.1)))
      ]

  rows_are : rows ≡ history_of K mint older
  rows_are =
      ordered_rows K mint (λ n. journal n (history_of K mint older)) older rows (afters K mint txs older older_kept)
      (record { ordered = ordered_up_to s kept.later kept.history.ordered; journals_are = λ n. refl }) c.ordered
      (λ n. c.lists_are n ∙ sym (of_list n) ∙ sym (of_journal n))

  pub older_is : (shards : 0 < K.shards) → IsKeptCut K mint txs (history_of K mint older)
  older_is shards = record {
    later = older;
    rows_are = refl;
    ordered = ordered_up_to s kept.later kept.history.ordered;
    kept = older_kept;
    reached = reach_law K mint txs older shards older_kept;
  }

  pub is_kept : (shards : 0 < K.shards) → IsKeptCut K mint txs rows
  is_kept shards = subst (IsKeptCut K mint txs) (sym rows_are) (older_is shards)

  pub is_sound : (shards : 0 < K.shards) → Clean mint txs → IsSoundCut K mint txs rows
  is_sound shards clean =
      let p = kept_part K mint txs older shards clean older_kept in
      subst (IsSoundCut K mint txs) (sym rows_are) (record { kept = older_is shards; folds = p.0; verdict = p.1 })

pub the_fronts_law : FrontsLaw
the_fronts_law K mint txs X L kept fronts n =
    let e : IsEnd (L n) (X n) = fronts.ends n in
    let f : Falls (X n) = subst Falls (kept.history.journals_are n) (falls K (minted mint) (IsProperCompact txs) kept.later kept.kept n) in
    falls_rise (L n) (falls_end e.0 (L n) (subst Falls e.1 f))

pub the_cut_law : CutLaw
the_cut_law K mint txs X L s rows shards kept fronts low c = is_kept K mint txs X L s rows kept fronts low c shards

pub the_part_law : PartLaw
the_part_law K mint txs X L s rows shards clean kept fronts low c = is_sound K mint txs X L s rows kept fronts low c shards clean

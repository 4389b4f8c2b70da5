-- Every kept history is that of a run.
use Rattle.std.proofs.Common.{◌≡◌, inl, inr, ℕ, ◌+◌, ◌<◌, true, false, ◌==◌, List, [], ◌∷◌, ◌++◌, length, Some, None, is_some, length-set, refl, sym}
use Rattle.std.proofs.Common.{ap, ◌∙◌, subst, arith}
use Rattle.std.proofs.lemmas.List.FromFn.{length-map-range_with_len}
use Rattle.cbdc_model.specs.Causes.{IsCaused}
use Rattle.cbdc_model.specs.History.{header_of, first_rows, Minted}
use Rattle.cbdc_model.specs.Records.{Shape, Compact, Record, Row, journal}
use Rattle.cbdc_model.specs.World.{World, Node, Event, Begin, End, node_at, journals, flushed, IsQuiet, effect, Run, init, first_node}
use Rattle.ledger_laws.proofs.Next.{Next, Steady}
use Rattle.ledger_laws.proofs.ByKind.{at_a_node}
use Rattle.ledger_laws.specs.Reach.{events_of, Reached}
use Rattle.cbdc_model.specs.Grammar.{IsInGrammar}
use Rattle.cbdc_model.specs.After.{After}
use Rattle.ledger_laws.proofs.Ledger.{after_of}
use Rattle.ledger_laws.proofs.Rows.{at, away, at_node, head_at, head_away}
use Rattle.ledger_laws.proofs.Worlds.{set_same, set_other}
use Rattle.ledger_laws.proofs.FirstWorld.{init_at, init_beyond, init_journals, in_or_beyond}

pub run-append : (K : Shape) (minting : Minted) (u v w : World) (es fs : List Event) → Run K minting u es v → Run K minting v fs w
    → Run K minting u (es ++ fs) w
run-append K minting u v w [] fs same run = subst (λ a. Run K minting a fs w) same run
run-append K minting u v w (e ∷ es) fs run more = (run.0, run.1, run-append K minting run.0 v w es fs run.2 more)

module _ (K : Shape) (minting : Minted) (P : Compact → Type 0) (shards : 0 < K.shards) where
  -- one record begins and ends
  module _ (w : World) (n : ℕ) (q : Record) (lt : n < length w) where
    abbrev pub flying : Node
    flying = record { journal = journals w n; up = true; flight = Some q }

    abbrev pub begun : World
    begun = effect w (Begin n q)

    abbrev pub ended : World
    ended = effect begun (End n)

    begun_length : length begun ≡ length w
    begun_length = length-set {A = Node} w n flying

    in_begun : n < length begun
    in_begun = omega (arith, begun_length)

    begun_at : node_at begun n ≡ flying
    begun_at = set_same K minting P shards w n flying lt

    pub ended_at : node_at ended n ≡ record { journal = q ∷ journals w n; up = true; flight = None }
    ended_at = set_same K minting P shards begun n _ in_begun
        ∙ (λ i. record { journal = flushed (begun_at i).flight (begun_at i).journal; up = true; flight = None })

    pub ended_away : (m : ℕ) → (n == m) ≡ false → node_at ended m ≡ node_at w m
    ended_away m e = set_other K minting P shards begun n m _ e ∙ set_other K minting P shards w n m flying e

    pub ended_length : length ended ≡ length w
    ended_length = length-set {A = Node} begun n (record { journal = flushed (node_at begun n).flight (journals begun n); up = true; flight = None })
        ∙ begun_length

    pub written : IsQuiet w n → After (header_of K minting.id n) (journals w n) q → IsCaused K (journals w) n q
        → Run K minting w (Begin n q ∷ End n ∷ []) ended
    written quiet next caused = (
      begun,
      inl ((quiet, next, caused), refl),
      (ended, inl ((in_begun, ap (λ v. v.up) begun_at, ap (λ v. is_some v.flight) begun_at), refl), refl),
    )

  pub reach : (later : List Row) → Steady K minting P later → Reached K minting later
  reach [] kept = record {
    world = init K minting;
    run = refl;
    size = length-map-range_with_len (first_node K minting) 0 (K.coordinators + K.shards);
    journals_are = λ n. sym (init_journals K minting P n);
    up = λ n lt. ap (λ v. v.up) (init_at K minting P n
        (let l : length (init K minting) ≡ K.coordinators + K.shards = length-map-range_with_len (first_node K minting) 0 (K.coordinators + K.shards)
        in omega arith));
    quiet = λ n. elim (in_or_beyond K minting P n (K.coordinators + K.shards)) [
      | inl lt ↦ ap (λ v. v.flight) (init_at K minting P n lt)
      | inr le ↦ ap (λ v. v.flight) (init_beyond K minting P n le)
    ];
  }
  reach (row ∷ later) kept = next_row row later kept.0 kept.1 kept.4 (reach later kept.3)
    where
      next_row : (row : Row) (later : List Row) → Next K row.node (journal row.node (later ++ first_rows K minting)) row.what
          → IsCaused K (λ n. journal n (later ++ first_rows K minting)) row.node row.what → IsInGrammar (header_of K minting.id row.node) row.what
          → Reached K minting later → Reached K minting (row ∷ later)
      next_row row later next caused grammar r =
          let lt : row.node < length r.world = (let l : row.node < K.coordinators + K.shards =
          at_a_node K row.node (journal row.node (later ++ first_rows K minting)) row.what next in omega (arith, r.size)) in
          record {
            world = ended r.world row.node row.what lt;
            run = run-append K minting (init K minting) r.world (ended r.world row.node row.what lt) (events_of later)
                (Begin row.node row.what ∷ End row.node ∷ []) r.run
                (written r.world row.node row.what lt (lt, r.up row.node lt, r.quiet row.node)
                (subst (λ J. After (header_of K minting.id row.node) J row.what) (sym (r.journals_are row.node))
                (after_of K minting.id row.node (journal row.node (later ++ first_rows K minting)) row.what next grammar))
                (subst (λ J. IsCaused K J row.node row.what) (λ i n. sym (r.journals_are n) i) caused));
            size = ended_length r.world row.node row.what lt ∙ r.size;
            journals_are = λ m. elim (at_node row.node m) [
              | at e ↦ subst (λ k. journals (ended r.world row.node row.what lt) k ≡ journal k (row ∷ (later ++ first_rows K minting))) e
                  (ap (λ v. v.journal) (ended_at r.world row.node row.what lt) ∙ ap (λ J. row.what ∷ J) (r.journals_are row.node)
                  ∙ sym (head_at row (later ++ first_rows K minting) row.node refl))
              | away e ↦ ap (λ v. v.journal) (ended_away r.world row.node row.what lt m e) ∙ r.journals_are m
                  ∙ sym (head_away row (later ++ first_rows K minting) m e)
            ];
            up = λ m l. elim (at_node row.node m) [
              | at e ↦ subst (λ k. (node_at (ended r.world row.node row.what lt) k).up ≡ true) e
                  (ap (λ v. v.up) (ended_at r.world row.node row.what lt))
              | away e ↦ ap (λ v. v.up) (ended_away r.world row.node row.what lt m e)
                  ∙ r.up m (let k : length (ended r.world row.node row.what lt) ≡ length r.world = ended_length r.world row.node row.what lt in
                  omega arith)
            ];
            quiet = λ m. elim (at_node row.node m) [
              | at e ↦ subst (λ k. (node_at (ended r.world row.node row.what lt) k).flight ≡ None) e
                  (ap (λ v. v.flight) (ended_at r.world row.node row.what lt))
              | away e ↦ ap (λ v. v.flight) (ended_away r.world row.node row.what lt m e) ∙ r.quiet m
            ];
          }

-- The first node that can't be opened.
use Rattle.std.proofs.Common.{◌≡◌, ◌≤◌, ◌+◌, ◌∷◌, [], ℕ, List, length, Option, Some, None, inl, inr, refl, sym, ◌∙◌, subst, arith}
use Rattle.outside.specs.Images.{Tells}
use Rattle.outside.specs.declared.disk.Disk.{Ghosts}
use Rattle.cbdc_types.specs.Limits.{IsWithinLimits}
use Rattle.cbdc_types.specs.declared.answer.Answer.{Answer}
use Rattle.cbdc_types.specs.declared.answer.Answer.TheVariants as answers
use Rattle.cbdc_model.specs.Records.{Digest, Header}
use Rattle.node_journal.specs.Nodes.{NodeOf}
use Rattle.coord_log.specs.Opening.{IsCoord}
use Rattle.shard_node.specs.Opening.{IsShardHeader}
use Rattle.rack_ledgers.specs.Places.{EachFrom, IsOpening}
use Rattle.rack_ledgers.specs.Racked.{OfTold, FailsFirst}
use Rattle.rack_ledgers.specs.Refused.{IsNoNode, IsNodeRefusal}
use Rattle.rack_ledgers.proofs.Range.{opening_later}
use Rattle.rack_ledgers.specs.Ledgers.{ByPlace, IsNodeAt, IsNodeRefused, IsMintOf, IsOtherMint, LacksLog, LacksShard, IsUnopenedBy}
use Rattle.rack_ledgers.proofs.Opened.{OpensNode, led_whole, nodes_at}

-- memory may always run out
pub memory_refused : {D : Type 0} (device : Ghosts D) (held : ℕ → Option D) (before now : ℕ → ℕ) (Is : Header → Type 0) (ledger : Option Header)
    (place : ℕ) (e : Answer)
    → e ≡ answers.Memory → IsNodeRefused device held before now Is ledger place e
memory_refused device held before now Is ledger place e is =
    subst (λ (a : Answer). IsNodeRefused device held before now Is ledger place a) (sym is)
    (record { kind = tt; fault = tt; cause = λ was told c reads. tt })

-- the answer where another mint began the ledger is a refusal
pub other_mint_kind : (id : Option Digest) (h : Header) (e : Answer) → IsOtherMint id h e → IsNodeRefusal e
other_mint_kind None h e is = absurd is
other_mint_kind (Some id) h e is = subst IsNodeRefusal (sym is.1) tt

module _ {D : Type 0} (device : Ghosts D) where
  -- the answers that there may be
  pub unopened_kind : (held : ℕ → Option D) (before now : ℕ → ℕ) (id : Option Digest) (e : Answer) → IsUnopenedBy device held before now id e
      → IsNodeRefusal e
  unopened_kind held before now id e (inl (inl first)) = first.kind
  unopened_kind held before now id e (inl (inr (inl other))) = other_mint_kind id other.lead.header e other.other
  unopened_kind held before now id e (inl (inr (inr lacks))) = lacks.refused.kind
  unopened_kind held before now id e (inr lacks) = lacks.refused.kind

  -- why a node is refused, by what is still told of its disk
  pub refused_later : (held mid : ℕ → Option D) (before between now after : ℕ → ℕ) (Is : Header → Type 0) (ledger : Option Header) (node place : ℕ)
      (e : Answer) → node ≡ place
      → mid node ≡ held node → before node ≤ between node → now node ≤ after node
      → (IsNodeRefusal e × IsOpening node (between node) (now node) e)
      × OfTold (mid node) (λ was. Tells (device.content was) (λ c. IsNoNode Is node ledger (device.limit was) c e))
      → IsNodeRefused device held before after Is ledger place e
  refused_later held mid before between now after Is ledger node place e same kept later longer fails =
      subst (λ (k : ℕ). IsNodeRefused device held before after Is ledger k e) same
      (record {
        kind = fails.0.0;
        fault = opening_later node (before node) (between node) (now node) (after node) e later longer fails.0.1;
        cause = λ was told. fails.1 was (kept ∙ told);
      })

  pub lacks_log : (held mid : ℕ → Option D) (before between now after : ℕ → ℕ) (h : Header) (lead : NodeOf D) (id : Option Digest) (from end : ℕ)
      (e : Answer) → from ≡ 1 → end ≡ h.shape.coordinators
      → ((n : ℕ) → 1 ≤ n → mid n ≡ held n) → ((n : ℕ) → before n ≤ between n) → ((n : ℕ) → now n ≤ after n) → h.node ≡ 0 → IsWithinLimits h.shape
      → IsMintOf id h → IsNodeAt device held IsCoord h 0 lead
      → FailsFirst
      (OpensNode device IsCoord mid between h)
      (λ n a. (IsNodeRefusal a × IsOpening n (between n) (now n) a)
      × OfTold (mid n) (λ was. Tells (device.content was) (λ c. IsNoNode IsCoord n (Some h) (device.limit was) c a)))
      from end e
      → LacksLog device held before after id e
  lacks_log held mid before between now after h lead id from end e start stop kept later longer first limits minted at_lead f =
      let place : f.node ≡ length (lead ∷ f.before) = omega (arith, f.places, start) in
      record {
        header = h;
        logs = lead ∷ f.before;
        first = first;
        limits = limits;
        minted = minted;
        some = omega arith;
        inside = omega (arith, f.inside, f.places, start, stop);
        logs_at = led_whole device IsCoord held mid between h lead (lead ∷ []) (lead ∷ f.before) refl kept at_lead
            (record {
              more = f.before;
              parts = refl;
              each = subst (λ (k : ℕ). EachFrom (OpensNode device IsCoord mid between h) k f.before) start f.opened;
            });
        refused = refused_later held mid before between now after IsCoord (Some h) f.node (length (lead ∷ f.before)) e place
            (kept f.node (omega (arith, place))) (later f.node) (longer f.node) f.fails;
      }

  pub lacks_shard : (held mid : ℕ → Option D) (before between now after : ℕ → ℕ) (h : Header) (logs : List (NodeOf D)) (id : Option Digest)
      (from end : ℕ) (e : Answer) → from ≡ h.shape.coordinators → end ≡ h.shape.coordinators + h.shape.shards
      → ((n : ℕ) → h.shape.coordinators ≤ n → mid n ≡ held n) → ((n : ℕ) → before n ≤ between n) → ((n : ℕ) → now n ≤ after n) → h.node ≡ 0
      → IsWithinLimits h.shape → IsMintOf id h → length logs ≡ h.shape.coordinators
      → ByPlace (IsNodeAt device held IsCoord h) logs
      → FailsFirst
      (OpensNode device IsShardHeader mid between h)
      (λ n a. (IsNodeRefusal a × IsOpening n (between n) (now n) a)
      × OfTold (mid n) (λ was. Tells (device.content was) (λ c. IsNoNode IsShardHeader n (Some h) (device.limit was) c a)))
      from end e
      → LacksShard device held before after id e
  lacks_shard held mid before between now after h logs id from end e start stop kept later longer first limits minted all logs_at f =
      let place : f.node ≡ h.shape.coordinators + length f.before = omega (arith, f.places, start) in
      record {
        header = h;
        logs = logs;
        shards = f.before;
        first = first;
        limits = limits;
        minted = minted;
        coordinators = all;
        inside = omega (arith, f.inside, f.places, start, stop);
        logs_at = logs_at;
        shards_at = nodes_at device IsShardHeader held mid between h h.shape.coordinators f.before kept
            (subst (λ (k : ℕ). EachFrom (OpensNode device IsShardHeader mid between h) k f.before) start f.opened);
        refused = refused_later held mid before between now after IsShardHeader (Some h) f.node (h.shape.coordinators + length f.before) e place
            (kept f.node (omega (arith, place))) (later f.node) (longer f.node) f.fails;
      }

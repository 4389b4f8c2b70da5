use Rattle.std.proofs.Common.{ℕ, List, ◌++◌, ◌∷◌, [], sym, ◌∙◌, ap}
use Rattle.cbdc_model.specs.Ranges.{on_shard}
use Rattle.ledger_init.proofs.Dealt.{taken_one}
use Rattle.ledger_init.proofs.dealing.hashes_on.Goals as goal

pub hashes-preserved : goal.hashes-preserved
hashes-preserved c =
    c.in_ok-keep.ensures ∙ ap (λ (l : List (List ℕ)). l ++ on_shard c.args.shape.now c.args.shard (c.hash-item.result ∷ [])) c.hashes.invariant
    ∙ sym (taken_one c.args.shape.now c.args.shard c.args.hashes.now c.hashes.hash-index c.hash-item.result c.hashes-test.true c.hash-item.is)

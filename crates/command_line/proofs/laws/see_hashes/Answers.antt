use Rattle.std.proofs.Common.{◌≡◌, ℕ, List, length, take, subst, sym, arith}
use Rattle.std.proofs.lemmas.List.{take_all}
use Rattle.std.proofs.lemmas.List.Elements.{All-more, All-same}
use Rattle.command_line.proofs.laws.see_hashes.Goals as goal

pub hashes-preserved : goal.hashes-preserved
hashes-preserved c =
    All-more (λ (h : List ℕ). length h ≡ 32) c.args.hashes.now c.hashes.hash-index c.hash-item.result c.hashes-test.true c.hashes.invariant
    (subst (λ (h : List ℕ). length h ≡ 32) c.hash-item.is c.see_hash.ensures)

pub returns : goal.returns
returns c =
    All-same (λ (h : List ℕ). length h ≡ 32) c.args.hashes.now (take c.hashes.hash-index c.args.hashes.now)
    (sym (take_all c.hashes.hash-index c.args.hashes.now (omega (arith, c.hashes-test.false))))
    c.hashes.invariant

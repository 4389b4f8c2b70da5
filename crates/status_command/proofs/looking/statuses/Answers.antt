use Rattle.std.proofs.Common.{◌≡◌, ◌∙◌, ◌++◌, ◌∷◌, [], map, ap, subst, arith}
use Rattle.std.proofs.lemmas.List.{take_all}
use Rattle.status_command.specs.Texts.{status_among}
use Rattle.status_command.proofs.Items.{map_more}
use Rattle.status_command.proofs.looking.statuses.Goals as goal

pub hashes-preserved : goal.hashes-preserved
hashes-preserved g c =
    let known : c.status_of.result ≡ status_among c.args.nodes.now.header.shape c.args.nodes.now.shards.items c.hash-item.result =
    c.status_of.ensures ∙ ap (λ l. status_among c.args.nodes.now.header.shape l c.hash-item.result) c.deref.ensures.value in
    map_more (status_among c.args.nodes.now.header.shape c.args.nodes.now.shards.items) c.args.hashes.now c.hashes.hash-index c.hash-item.result
    c.hashes.all.items c.push.new.self.items c.hashes-test.true c.hash-item.is
    (subst (λ s. c.push.new.self.items ≡ c.hashes.all.items ++ (s ∷ [])) known c.in_ok-push.ensures.items) c.hashes.invariant

pub returns : goal.returns
returns g c = c.hashes.invariant ∙ ap (map (status_among c.args.nodes.now.header.shape c.args.nodes.now.shards.items))
    (take_all c.hashes.hash-index c.args.hashes.now (omega arith))

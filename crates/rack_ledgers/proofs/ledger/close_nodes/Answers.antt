use Rattle.std.proofs.Common.{◌≡◌, ◌≤◌, le_trans, ◌∙◌, ◌+◌, ℕ, length, sym, subst, arith, inl, inr}
use Rattle.std.proofs.lemmas.Bool.{cases_lt}
use Rattle.node_journal.specs.Nodes.{NodeOf}
use Rattle.rack_ledgers.specs.Places.{EachFrom, MayReturn}
use Rattle.rack_ledgers.specs.Racked.{OfTold}
use Rattle.rack_ledgers.proofs.Each.{each_weaker}
use Rattle.rack_ledgers.proofs.Places.{at_place, by_place}
use Rattle.rack_ledgers.proofs.ledger.close_nodes.Goals as goal

pub close_all-requires-clause-out : goal.close_all-requires-clause-out
close_all-requires-clause-out g c =
    let first : c.len-first.result ≡ length c.args.nodes.logs.items = omega (arith, c.len-first.ensures, c.args.nodes.logs.ok) in
    let P = MayReturn (λ x. g.R.Disk.Disk.count x.disk) (g.R.Rack.can_put c.args.rack.now) in
    subst (λ (k : ℕ). EachFrom P k c.args.nodes.shards.items) (sym first) c.requires.shards

pub close_all-requires-2-clause-out : goal.close_all-requires-2-clause-out
close_all-requires-2-clause-out g c =
    let P = MayReturn (λ x. g.R.Disk.Disk.count x.disk) (g.R.Rack.can_put c.args.rack.now) in
    let Q = MayReturn (λ x. g.R.Disk.Disk.count x.disk) (g.R.Rack.can_put c.close_all.new.rack) in
    each_weaker P Q 0 c.args.nodes.logs.items
    (λ k d ge lt may m le. c.close_all.ensures.others.puts k m (inl (omega (arith, lt, c.len-first.ensures, c.args.nodes.logs.ok))) (may m le))
    c.requires.logs

pub returns-clause-closed_logs : goal.returns-clause-closed_logs
returns-clause-closed_logs g c =
    by_place (λ k x. OfTold (g.R.Rack.held c.close_all-2.new.rack k) (λ d. d ≡ x.disk)) c.args.nodes.logs.items c.close_all-2.ensures.closed

pub returns-clause-closed_shards : goal.returns-clause-closed_shards
returns-clause-closed_shards g c n s is now told =
    let first : c.len-first.result ≡ length c.args.nodes.logs.items = omega (arith, c.len-first.ensures, c.args.nodes.logs.ok) in
    let Q : ℕ → NodeOf g.row.R-Disk.Denot → Type 0 = λ k x. OfTold (g.R.Rack.held c.close_all.new.rack k) (λ d. d ≡ x.disk) in
    at_place Q (length c.args.nodes.logs.items) c.args.nodes.shards.items
    (subst (λ (k : ℕ). EachFrom Q k c.args.nodes.shards.items) first c.close_all.ensures.closed) n s is now
    (sym (c.close_all-2.ensures.others.held (length c.args.nodes.logs.items + n) (inr (omega arith))) ∙ told)

pub returns-clause-others_held : goal.returns-clause-others_held
returns-clause-others_held g c n past =
    c.close_all-2.ensures.others.held n (inr (omega (arith, past)))
    ∙ c.close_all.ensures.others.held n (inr (omega (arith, past, c.len-first.ensures, c.args.nodes.logs.ok)))

pub returns-clause-back : goal.returns-clause-back
returns-clause-back g c n =
    elim (cases_lt n (length c.args.nodes.logs.items)) [
      | inl small ↦ c.close_all-2.ensures.back n (omega arith) (omega (arith, small))
      | inr large ↦ elim (cases_lt n (length c.args.nodes.logs.items + length c.args.nodes.shards.items)) [
        | inl inside ↦ c.close_all-2.ensures.others.takes n (inr (omega (arith, large)))
            (c.close_all.ensures.back n (omega (arith, large, c.len-first.ensures, c.args.nodes.logs.ok))
            (omega (arith, inside, c.len-first.ensures, c.args.nodes.logs.ok)))
        | inr past ↦ c.close_all-2.ensures.others.takes n (inr (omega (arith, large)))
            (c.close_all.ensures.others.takes n (inr (omega (arith, past, c.len-first.ensures, c.args.nodes.logs.ok))) (c.requires.others n past))
      ]
    ]

pub returns-clause-later : goal.returns-clause-later
returns-clause-later g c = λ n. le_trans (c.close_all.ensures.others.later n) (c.close_all-2.ensures.others.later n)

pub returns-clause-counted_logs : goal.returns-clause-counted_logs
returns-clause-counted_logs g c =
    by_place (λ k x. g.R.Disk.Disk.count x.disk ≤ g.R.Rack.count c.close_all-2.new.rack k) c.args.nodes.logs.items c.close_all-2.ensures.counted

pub returns-clause-counted_shards : goal.returns-clause-counted_shards
returns-clause-counted_shards g c n s is =
    let first : c.len-first.result ≡ length c.args.nodes.logs.items = omega (arith, c.len-first.ensures, c.args.nodes.logs.ok) in
    let Q : ℕ → NodeOf g.row.R-Disk.Denot → Type 0 = λ k x. g.R.Disk.Disk.count x.disk ≤ g.R.Rack.count c.close_all.new.rack k in
    le_trans (at_place Q (length c.args.nodes.logs.items) c.args.nodes.shards.items
    (subst (λ (k : ℕ). EachFrom Q k c.args.nodes.shards.items) first c.close_all.ensures.counted) n s is)
    (c.close_all-2.ensures.others.later (length c.args.nodes.logs.items + n))

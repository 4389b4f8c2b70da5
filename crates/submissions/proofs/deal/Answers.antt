use Rattle.std.proofs.Common.{rules, ◌≡◌, ◌∷◌, [], ◌++◌, ◌<◌, ◌%◌, ◌+◌, ◌*◌, length, length-append, sym, ap, ◌∙◌, subst, arith}
use Rattle.std.proofs.lemmas.List.{take_all}
use Rattle.std.proofs.lemmas.Iterator.Adapters.{YieldsList-from_vec}
use Rattle.std.proofs.lemmas.Iterator.Consumers.{YieldsList-end, YieldsList-turn}
use Rattle.std.proofs.lemmas.Slice.Zip.{AllZip-long}
use Rattle.submissions.specs.Checks.{IsRuled, AreSent}
use Rattle.submissions.proofs.Placing.{goes_on, placed_by, placed_from, ruled_at}
use Rattle.submissions.proofs.deal.Goals as goal

pub submissions-preserved : goal.submissions-preserved
submissions-preserved c =
    let K = c.args.shape.now in
    let all = c.args.ruled.items in
    let so = c.submissions.invariant in
    let one = c.in-Some.one in
    let lane = c.submissions.lane in
    let i = length c.submissions.yielded in
    let road = YieldsList-from_vec {s = c.into_iter-one-iterator.result} all (search rules) (search rules) in
    let at = YieldsList-turn road c.submissions.yielded _ c.submissions.yielded_by _ c.next.new.self one c.in-Some.is c.next.ensures.steps in
    let dealt = c.in_ok-place_one.ensures.dealt in
    let within : lane < length c.submissions.lanes.items = omega (arith, so.within, so.same) in
    let more : length (c.submissions.yielded ++ one ∷ []) ≡ i + 1 = length-append c.submissions.yielded (one ∷ []) in
    record {
      same = dealt.count ∙ so.same;
      count = so.count;
      lane = c.next_lane-lane.ensures.next i (so.lane ∙ ap (λ n. i % n) (sym so.count)) ∙ ap (λ n. (i + 1) % n) so.count
          ∙ ap (λ m. m % (K.coordinators * K.lanes)) (sym more);
      within = omega (arith, c.next_lane-lane.ensures.below, so.count);
      sound = λ verdicts txs ruled.
          let its = ruled_at verdicts txs all i one ruled at.0 at.1 in
          placed_from verdicts txs its.0 lane _ _ c.in_ok-place_one.field-0 (i, its.1, sym its.2) within (so.sound verdicts txs ruled)
          (placed_by verdicts its.0 one lane _ _ c.in_ok-place_one.field-0 its.3 dealt);
      placed = λ verdicts txs ruled.
          let its = ruled_at verdicts txs all i one ruled at.0 at.1 in
          let went = goes_on K verdicts txs i its.0 lane _ _ c.submissions.checked.items c.in_ok-place_one.field-0 its.1 its.2 so.lane within
          (so.placed verdicts txs ruled) (placed_by verdicts its.0 one lane _ _ c.in_ok-place_one.field-0 its.3 dealt) in
          rw (more, c.in_ok-push.ensures.items) went;
    }

pub returns : goal.returns
returns c = λ verdicts txs ruled.
    let K = c.args.shape.now in
    let so = c.submissions.invariant in
    let road = YieldsList-from_vec {s = c.into_iter-one-iterator.result} c.args.ruled.items (search rules) (search rules) in
    let at = YieldsList-end road c.submissions.yielded _ c.submissions.yielded_by _ c.next.new.self c.in-None.is c.next.ensures.steps in
    let placed = so.placed verdicts txs ruled in
    let count : length c.submissions.yielded ≡ length txs = at.1 ∙ AllZip-long (IsRuled verdicts) txs c.args.ruled.items ruled in
    record {
      lanes = so.same;
      sent = subst (λ f. AreSent K verdicts f c.submissions.lanes.items) (take_all (length c.submissions.yielded) txs (omega (arith, count)))
          placed.sent;
      sound = so.sound verdicts txs ruled;
      checked = record { count = placed.count ∙ count; each = placed.each };
    }

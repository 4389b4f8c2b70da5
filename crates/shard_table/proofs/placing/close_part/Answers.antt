use Rattle.std.proofs.Common.{◌≡◌, ◌≢◌, ℕ, ◌<◌, length, None, Some, set, arith, sym, ap, subst, ◌∙◌}
use Rattle.std.proofs.lemmas.List.{length-set}
use Rattle.shard_table.specs.Slots.{home_slot, slot_at, Passed}
use Rattle.shard_table.proofs.Places.{open_move, open_keep, open_end, moved_kept, moved_count, shift_move, shift_keep}
use Rattle.shard_table.proofs.placing.close_part.Goals as goal
use Rattle.shard_table.proofs.placing.close_part.Goals.{then-is_passed, else-is_passed}

pub returns-in_default-clause-closed : goal.returns-in_default-clause-closed
returns-in_default-clause-closed g c =
    let i = c.loop-at.invariant in
    λ none. open_end c.loop-at.slots (length c.args.slots.now) c.loop-at.free c.loop-at.at i.opened (sym i.len) (omega arith)
    (λ e. i.apart c.loop-at.at (omega arith) (omega arith) (sym e))
    (sym c.at.ensures ∙ c.in_default.is)

pub loop-at-preserved : goal.loop-at-preserved
loop-at-preserved g c =
    let i = c.loop-at.invariant in
    let s = c.loop-at.slots in
    let at = c.loop-at.at in
    let free = c.loop-at.free in
    let e = c.in-Some.kept in
    let fits : at < length s = omega (arith, i.len) in
    let within : free < length s = omega (arith, i.len, i.opened.within) in
    let apart : free ≢ at = λ q. i.apart at (omega arith) (omega arith) (sym q) in
    let is : slot_at s at ≡ Some e = sym c.at.ensures ∙ c.in-Some.is in
    let home : c.home.result ≡ home_slot (length c.args.slots.now) e.hash =
    c.home.ensures.value ∙ ap (λ (n : ℕ). home_slot n e.hash) c.len-homes.ensures in
    elim c.if-is_passed.branch [
      | then-is_passed w ↦
          let passed : Passed (home_slot (length c.args.slots.now) e.hash) at free =
          subst (λ (h : ℕ). Passed h at free) home (c.is_passed.ensures.yes w.if-is_passed.true) in
          rw (w.slots-is, w.free-is, w.put-then-is_passed.ensures, w.put.ensures)
          (record {
            len = length-set (set s at None) free (Some e) ∙ length-set s at None ∙ i.len;
            apart = λ m a b. omega arith;
            opened = open_move s (length c.args.slots.now) free at e i.opened (sym i.len) (omega arith) apart is passed;
            shifted = shift_move c.args.slots.now s c.args.gap c.args.from at free e i.shifted (omega arith) within;
            kept = λ x. moved_kept s (length c.args.slots.now) free at e i.opened.placed apart within fits i.opened.empty is x ∙ i.kept x;
            count = moved_count s free at e apart within fits i.opened.empty is ∙ i.count;
          })
      | else-is_passed w ↦
          rw (w.slots-is, w.free-is)
          (record {
            len = i.len;
            apart = λ m a b. i.apart m (omega arith) b;
            opened = open_keep s (length c.args.slots.now) free at e i.opened apart is
                (λ p. c.is_passed.ensures.no w.if-is_passed.false (subst (λ (h : ℕ). Passed h at free) (sym home) p));
            shifted = shift_keep c.args.slots.now s c.args.gap c.args.from at free e i.shifted is;
            kept = i.kept;
            count = i.count;
          })
    ]

use Rattle.std.proofs.Common.{◌≡◌, ℕ, ◌+◌, List, length, take, None, Some, if◌then◌else◌, arith, refl, sym, ◌∙◌, ap, subst, add-one}
use Rattle.cbdc_model.specs.Records.{same_digest}
use Rattle.shard_table.specs.Entries.{lookup}
use Rattle.shard_table.specs.Slots.{slot_at, gather, IsSound}
use Rattle.shard_table.proofs.Prefixes.{vacant_gather, vacant_sound, more_some, more_none, prefix_absent, prefix_count, put_last, one_more}
use Rattle.shard_table.proofs.slots.fill_all.Goals as goal
use Rattle.shard_table.proofs.slots.fill_all.Goals.{in-Some, in_default}

pub loop-at-init : goal.loop-at-init
loop-at-init g c =
    let n = length c.args.wider.now in
    record {
      len = refl;
      sound = subst (λ (s : List _). IsSound s n) (sym c.requires.free) (vacant_sound n n);
      kept = λ x. ap (λ (s : List _). lookup (gather s) x) c.requires.free ∙ ap (λ (es : List _). lookup es x) (vacant_gather n);
      count = ap (λ (s : List _). length (gather s)) c.requires.free ∙ ap length (vacant_gather n);
    }

pub fill-requires-clause-room : goal.fill-requires-clause-room
fill-requires-clause-room g c =
    let is : slot_at c.args.slots.now c.loop-at.at ≡ Some c.in-Some.kept = sym c.at.ensures ∙ c.in-Some.is in
    let few = prefix_count c.args.slots.now c.loop-at.at c.in-Some.kept is in
    let n = c.loop-at.invariant.count in
    let m = c.loop-at.invariant.len in
    let room = c.requires.room in
    omega (arith, few, n, m, room)

pub fill-requires-clause-absent : goal.fill-requires-clause-absent
fill-requires-clause-absent g c =
    let is : slot_at c.args.slots.now c.loop-at.at ≡ Some c.in-Some.kept = sym c.at.ensures ∙ c.in-Some.is in
    c.loop-at.invariant.kept c.in-Some.kept.hash ∙ prefix_absent c.args.slots.now c.loop-at.at c.in-Some.kept c.requires.once is

pub loop-at-preserved : goal.loop-at-preserved
loop-at-preserved g c =
    let i = c.loop-at.invariant in
    elim c.match-at.branch [
      | in-Some w ↦
          let is : slot_at c.args.slots.now c.loop-at.at ≡ Some w.in-Some.kept = sym c.at.ensures ∙ w.in-Some.is in
          let absent = prefix_absent c.args.slots.now c.loop-at.at w.in-Some.kept c.requires.once is in
          let fill = w.fill.ensures in
          rw (w.wider-is, add-one)
          (record {
            len = fill.len ∙ i.len;
            sound = rw (← i.len) fill.sound;
            kept = λ x. fill.kept x
                ∙ ap (λ (o : _). if same_digest w.in-Some.kept.hash x then Some w.in-Some.kept.value else o) (i.kept x)
                ∙ sym (put_last (gather (take c.loop-at.at c.args.slots.now)) w.in-Some.kept x absent)
                ∙ ap (λ (es : List _). lookup es x) (sym (more_some c.args.slots.now c.loop-at.at w.in-Some.kept is));
            count = fill.count ∙ ap (λ (n : ℕ). n + 1) i.count
                ∙ one_more (gather (take c.loop-at.at c.args.slots.now)) w.in-Some.kept
                ∙ ap length (sym (more_some c.args.slots.now c.loop-at.at w.in-Some.kept is));
          })
      | in_default w ↦
          let is : slot_at c.args.slots.now c.loop-at.at ≡ None = sym c.at.ensures ∙ w.in_default.is in
          let same = more_none c.args.slots.now c.loop-at.at is in
          rw (w.wider-is, add-one)
          (record {
            len = i.len;
            sound = i.sound;
            kept = λ x. i.kept x ∙ ap (λ (es : List _). lookup es x) (sym same);
            count = i.count ∙ ap length (sym same);
          })
    ]

use Rattle.std.proofs.Common.{◌≡◌, ℕ, true, false, ◌||◌, ◌+◌, ◌++◌, [], List, drop, if◌then◌else◌, sym, ap, ◌∙◌, add-one, arith}
use Rattle.std.proofs.lemmas.List.{append-nil, drop_all}
use Rattle.cbdc_model.specs.Records.{Digest, is_held}
use Rattle.cbdc_model.specs.Status.{has}
use Rattle.cbdc_model.specs.Replies.{reply_to}
use Rattle.shard_table.proofs.Prefixes.{one_more}
use Rattle.shard_core.proofs.Claims.{one_reply, claims_more}
use Rattle.shard_core.proofs.replying.replies_to.Goals as goal
use Rattle.shard_core.proofs.replying.replies_to.Goals.{then-is_held+in_ok-claim, else-is_held}

pub loop-entry-init : goal.loop-entry-init
loop-entry-init c = record {
  len = rw c.in_ok-replies.ensures.items;
  replies = λ J a. ([], (λ y. ap (λ (hs : List Digest). has hs y) c.in_ok-claimed.ensures), rw c.in_ok-replies.ensures.items);
}

pub loop-entry-preserved : goal.loop-entry-preserved
loop-entry-preserved c = record {
  len = let n = c.loop-entry.invariant.len in rw c.in_ok-push.ensures.items
      (sym (one_more c.loop-entry.replies.items c.reply_to-reply.result) ∙ ap (λ (k : ℕ). k + 1) n);
  replies = λ J a.
      let p = c.loop-entry.invariant.replies J a in
      let e = c.entry-item.result in
      let reply : c.reply_to-reply.result ≡ reply_to J c.args.batch.now p.0 e.inputs =
      c.reply_to-reply.ensures J p.0 a p.1 ∙ ap (λ (xs : List Digest). reply_to J c.args.batch.now p.0 xs) c.as_slice-inputs.ensures in
      let step = one_reply J c.args.batch.now p.0 c.loop-entry.replies.items _ e c.args.entries.now c.loop-entry.entry-index c.reply_to-reply.result
      c.loop-entry-test.true c.entry-item.is reply p.2 in
      rw (add-one, c.in_ok-push.ensures.items) (
        (if is_held c.reply_to-reply.result then e.inputs ++ p.0 else p.0),
        elim c.if-is_held.branch [
          | then-is_held+in_ok-claim w ↦
              let held : is_held c.reply_to-reply.result ≡ true = sym c.is_held.ensures ∙ w.if-is_held.true in
              let h = w.in_ok-claim in
              rw (held, w.claimed-is) (claims_more e.inputs p.0 c.loop-entry.claimed w.claim.new.self p.1
              (λ y. w.in_ok-claim.ensures y ∙ ap (λ (xs : List Digest). has xs y || has c.loop-entry.claimed y) c.as_slice-inputs.ensures))
          | else-is_held w ↦
              let free : is_held c.reply_to-reply.result ≡ false = sym c.is_held.ensures ∙ w.if-is_held.false in
              rw (free, w.claimed-is) p.1
        ],
        step,
      );
}

pub returns-clause-replies : goal.returns-clause-replies
returns-clause-replies c = λ J a.
    let so_far = c.loop-entry.invariant.replies J a in
    let done : drop c.loop-entry.entry-index c.args.entries.now ≡ [] = drop_all c.loop-entry.entry-index c.args.entries.now (omega arith) in
    sym (append-nil c.loop-entry.replies.items) ∙ (rw done at so_far.2)

use Rattle.std.proofs.Common.{◌≡◌, ◌+◌, ◌++◌, ◌∷◌, [], length, take, ◌∙◌, sym, ap, subst, arith}
use Rattle.std.specs.Prelude.{All}
use Rattle.std.proofs.lemmas.List.Elements.{All-append, All-cons, All-nil}
use Rattle.requests.specs.declared.FileWord.{FileWord}
use Rattle.input_files.specs.Limits.{IsShort}
use Rattle.input_files.specs.Contents.{AreRead, all_txs}
use Rattle.input_files.proofs.Reading.{first_not_read, files_go_on, all_more}
use Rattle.input_files.proofs.all_clients_in.Goals as goal

abbrev no_word : FileWord
no_word = record { name = record { ref_ptr = (0, 0); now = [] }; place = 0 }

pub returns-in-Err-clause-fault : goal.returns-in-Err-clause-fault
returns-in-Err-clause-fault g c =
    let so = c.files.invariant in
    first_not_read (g.I.Inbox.file c.args.inbox.now) (g.I.Inbox.file c.files.inbox) (g.I.Inbox.count c.args.inbox.now)
    (g.I.Inbox.count c.files.inbox) (g.I.Inbox.count c.clients_in.new.inbox)
    c.args.files.now c.files.file-index no_word c.files.all.items c.files.before c.in-Err.fault c.files-test.true so.read so.later so.same so.before
    c.in-Err.ensures.fault

pub returns-in-Err-push-clause-fault : goal.returns-in-Err-push-clause-fault
returns-in-Err-push-clause-fault g c =
    let so = c.files.invariant in
    first_not_read (g.I.Inbox.file c.args.inbox.now) (g.I.Inbox.file c.files.inbox) (g.I.Inbox.count c.args.inbox.now)
    (g.I.Inbox.count c.files.inbox) (g.I.Inbox.count c.clients_in.new.inbox)
    c.args.files.now c.files.file-index no_word c.files.all.items c.files.before _ c.files-test.true so.read so.later so.same so.before tt

pub files-preserved : goal.files-preserved
files-preserved g c =
    let so = c.files.invariant in
    let told = g.I.Inbox.file c.args.inbox.now in
    let items : c.push.new.self.items ≡ c.files.all.items ++ c.in-Ok.txs ∷ [] = c.in-Ok-push.ensures.items in
    let fits : c.saturating_add-before.result ≡ c.files.before + length c.in-Ok.txs =
    omega (arith, c.saturating_add-before.ensures, c.len.ensures, so.few, c.in-Ok.ensures.few) in
    record {
      before = fits ∙ ap (λ n. n + length c.in-Ok.txs) so.before ∙ sym (all_more c.files.all.items c.in-Ok.txs) ∙ ap (λ l. all_txs l) (sym items);
      few = omega (arith, fits, so.few, c.in-Ok.ensures.few);
      read = subst (λ l. AreRead told 0 (take (c.files.file-index + 1) c.args.files.now) l) (sym items)
          (files_go_on told (g.I.Inbox.file c.files.inbox) c.args.files.now c.files.file-index no_word c.files.all.items c.files.before c.in-Ok.txs
          c.files-test.true so.read so.same so.before c.in-Ok.ensures.read);
      short = subst (λ l. All (λ txs. All IsShort txs) l) (sym items)
          (All-append (λ txs. All IsShort txs) c.files.all.items (c.in-Ok.txs ∷ []) so.short
          (All-cons (λ txs. All IsShort txs) c.in-Ok.txs [] c.in-Ok.ensures.short (All-nil (λ txs. All IsShort txs))));
      same = λ name. c.in-Ok.ensures.same name ∙ so.same name;
      later = λ name. omega (arith, so.later name, c.in-Ok.ensures.later name);
    }

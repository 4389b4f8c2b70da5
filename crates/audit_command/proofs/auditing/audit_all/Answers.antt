use Rattle.command_answers.proofs.Refusals.{not_refused, refusal_fault}
use Rattle.std.proofs.Common.{◌∙◌, List, inl, inr, subst, refl}
use Rattle.cbdc_model.specs.Coins.{Output, FullTx, genesis_id}
use Rattle.input_files.specs.Contents.{mint_of_file}
use Rattle.file_runs.specs.Runs.{joined}
use Rattle.rack_ledgers.specs.Audited.{IsAudited, HistoryHasRoom, HistoryIsHeld}
use Rattle.rack_ledgers.specs.Racked.{disks_in}
use Rattle.rack_ledgers.proofs.Told.{back_same}
use Rattle.audit_command.specs.Audits.{WhyUnopened}
use Rattle.command_answers.proofs.Answers.{first_fault, not_read_fault, one_later}
use Rattle.command_answers.proofs.Results.{if_err_by}
use Rattle.audit_command.proofs.Audits.{if_ok_and, are_read_same, first_later}
use Rattle.audit_command.proofs.auditing.audit_all.Goals as goal

pub returns-in-Err-clause-why : goal.returns-in-Err-clause-why
returns-in-Err-clause-why g c = inl c.in-Err.ensures.fault

pub returns-in-Err-all_clients_in-clause-why : goal.returns-in-Err-all_clients_in-clause-why
returns-in-Err-all_clients_in-clause-why g c =
    inr (
      c.in-Ok.mint,
      c.in-Ok.ensures.read,
      inl (first_later (g.I.Inbox.file c.mint_in.new.inbox) (g.I.Inbox.file c.args.inbox.now) c.mint_in.ensures.same
          (g.I.Inbox.count c.args.inbox.now) (g.I.Inbox.count c.mint_in.new.inbox) (g.I.Inbox.count c.all_clients_in.new.inbox)
          c.args.clients.now c.in-Err-all_clients_in.fault c.mint_in.ensures.later c.in-Err-all_clients_in.ensures.fault),
    )

pub returns-in-Err-all_clients_in-clause-fault : goal.returns-in-Err-all_clients_in-clause-fault
returns-in-Err-all_clients_in-clause-fault g c =
    first_fault (g.I.Inbox.file c.mint_in.new.inbox) (g.I.Inbox.count c.mint_in.new.inbox) (g.I.Inbox.count c.all_clients_in.new.inbox)
    c.args.clients.now _ _ (λ place one. inr one)
    (λ place one. inr (one_later (g.I.Inbox.count c.args.inbox.now) (g.I.Inbox.count c.mint_in.new.inbox)
    (g.I.Inbox.count c.all_clients_in.new.inbox) c.args.clients.now place c.mint_in.ensures.later one))
    c.in-Err-all_clients_in.fault c.in-Err-all_clients_in.ensures.fault

pub returns-in-Err-clause-fault : goal.returns-in-Err-clause-fault
returns-in-Err-clause-fault g c =
    not_read_fault c.args.mint.now.place (g.I.Inbox.file c.args.inbox.now c.args.mint.now.name.now) mint_of_file
    (g.I.Inbox.count c.args.inbox.now c.args.mint.now.name.now) (g.I.Inbox.count c.mint_in.new.inbox c.args.mint.now.name.now) _ _
    (λ file at. inl at) (λ file at rose. inl (at, rose)) c.in-Err.fault c.in-Err.ensures.fault

pub returns-in-Err-clause-held : goal.returns-in-Err-clause-held
returns-in-Err-clause-held g c n = back_same g.R.Disk.Disk _ _ (g.R.Rack.held c.args.rack.now n) (g.R.Rack.held c.args.rack.now n) refl

pub returns-in-Err-all_clients_in-clause-held : goal.returns-in-Err-all_clients_in-clause-held
returns-in-Err-all_clients_in-clause-held g c n = back_same g.R.Disk.Disk _ _ (g.R.Rack.held c.args.rack.now n) (g.R.Rack.held c.args.rack.now n) refl

pub returns-in_default-clause-held : goal.returns-in_default-clause-held
returns-in_default-clause-held g c n = back_same g.R.Disk.Disk _ _ (g.R.Rack.held c.args.rack.now n) (g.R.Rack.held c.args.rack.now n) refl

pub returns-in_default-clause-why : goal.returns-in_default-clause-why
returns-in_default-clause-why g c = inl tt

pub returns-clause-did : goal.returns-clause-did
returns-clause-did g c =
    let all = c.deref.ensures.value ∙ c.in-Ok-joined.ensures in
    let held = g.R.Rack.held c.args.rack.now in
    let now = g.R.Rack.held c.audit_on.new.rack in
    if_ok_and _ _ _ c.audit_on.result
    (λ v unchanged is.
    let found : (was : IsAudited g.R.Disk.Disk held c.in-Ok.mint (joined c.in-Ok-all_clients_in.files.items) v)
    × HistoryHasRoom g.R.Disk.Disk held was.shape was.rows × HistoryIsHeld g.R.Disk.Disk held now was.shape (genesis_id c.in-Ok.mint) was.rows =
    subst (λ (m : List Output). (was : IsAudited g.R.Disk.Disk held m (joined c.in-Ok-all_clients_in.files.items) v)
    × HistoryHasRoom g.R.Disk.Disk held was.shape was.rows × HistoryIsHeld g.R.Disk.Disk held now was.shape (genesis_id m) was.rows)
    c.as_slice.ensures
    (subst (λ (h : List FullTx). (was : IsAudited g.R.Disk.Disk held c.as_slice.result.now h v)
    × HistoryHasRoom g.R.Disk.Disk held was.shape was.rows
    × HistoryIsHeld g.R.Disk.Disk held now was.shape (genesis_id c.as_slice.result.now) was.rows) all is) in
    record {
      mint = c.in-Ok.mint;
      handed = c.in-Ok-all_clients_in.files.items;
      read = c.in-Ok.ensures.read;
      clients_read = are_read_same (g.I.Inbox.file c.mint_in.new.inbox) (g.I.Inbox.file c.args.inbox.now) c.mint_in.ensures.same c.args.clients.now
          c.in-Ok-all_clients_in.files.items 0 c.in-Ok-all_clients_in.ensures.read;
      audited = found.0;
      room = found.1;
      holds = found.2;
      unchanged = unchanged;
    })
    c.audit_on.ensures.unchanged c.audit_on.ensures.room

pub returns-clause-why : goal.returns-clause-why
returns-clause-why g c =
    if_err_by _ _ c.audit_on.result
    (λ e why. inr (
      c.in-Ok.mint,
      c.in-Ok.ensures.read,
      inr (
        c.in-Ok-all_clients_in.files.items,
        are_read_same (g.I.Inbox.file c.mint_in.new.inbox) (g.I.Inbox.file c.args.inbox.now) c.mint_in.ensures.same c.args.clients.now
            c.in-Ok-all_clients_in.files.items 0 c.in-Ok-all_clients_in.ensures.read,
        subst (λ m. WhyUnopened g.R.Disk.Disk (disks_in g.R.Rack c.args.rack.now) (disks_in g.R.Rack c.audit_on.new.rack) m e) c.as_slice.ensures why,
      ),
    ))
    c.audit_on.ensures.refusal

pub returns-clause-fault : goal.returns-clause-fault
returns-clause-fault g c = if_err_by _ _ c.audit_on.result (λ e kind. refusal_fault _ _ e kind) c.audit_on.ensures.kind

pub returns-clause-untouched : goal.returns-clause-untouched
returns-clause-untouched g c = if_err_by _ _ c.audit_on.result (λ e kind before. absurd (not_refused e kind before)) c.audit_on.ensures.kind

pub returns-clause-held : goal.returns-clause-held
returns-clause-held g c = c.audit_on.ensures.back.held

pub returns-clause-back : goal.returns-clause-back
returns-clause-back g c = c.audit_on.ensures.back.takes

use Rattle.std.proofs.Common.{rules, ◌∙◌, inl, refl, ap, sym, subst, length, map, Some}
use Rattle.std.proofs.lemmas.List.{length-map}
use Rattle.submissions.specs.Checks.{AreChecked}
use Rattle.ledger_runs.specs.Lanes.{came_of}
use Rattle.file_runs.proofs.Sending.{are_of}
use Rattle.ledger_runs.specs.Telling.{AreLanesFresh, AllTellNew}
use Rattle.ledger_runs.specs.Waving.{NoFault, FirstFaultIs}
use Rattle.file_runs.proofs.Filing.{stays_more, are_within, keeps_file, of_wave, runs_file}
use Rattle.ledger_runs.specs.Faults.{HaveFailed, MayHoldBytes}
use Rattle.file_runs.proofs.Causing.{file_begun, file_cause, file_done, wave_rests}
use Rattle.file_runs.proofs.Pieces.{file_unbegun}
use Rattle.file_runs.proofs.Flying.{flies_none, flies_file}
use Rattle.ledger_runs.proofs.Launching.{launches_begin}
use Rattle.ledger_runs.proofs.Keeping.{ledger_same}
use Rattle.lane_waves.specs.Watchers.{IfSaw}
use Rattle.file_runs.specs.Looking.{AreLooks}
use Rattle.file_runs.specs.Ledgers.{ledger_journals, ledger_flights, ledger_faults, ledger_opened, ledger_capacity}
use Rattle.file_runs.specs.Runs.{IsSentPiece, AreLanesOf}
use Rattle.file_runs.proofs.Launching.{file_launches}
use Rattle.file_runs.proofs.Ending.{file_ends}
use Rattle.file_runs.proofs.waves.run_dealt.Goals as goal

pub run_fed-ledger-requires-clause-can : goal.run_fed-ledger-requires-clause-can
run_fed-ledger-requires-clause-can g c κs k = let are : AreLanesOf c.args.ledger.header.shape g.F.Deals.verdicts g.F.Deals.file c.in-Ok.works.items =
    are_of g.F.Deals.shape c.args.ledger.header.shape g.F.Deals.verdicts g.F.Deals.file c.in-Ok.works.items c.requires.shape c.in-Ok.ensures in
    record {
      lanes_are = are.count;
      idle = c.requires.idle;
      limits = are_within c.args.ledger.header.shape g.F.Deals.verdicts g.F.Deals.file c.in-Ok.works.items c.requires.short are;
      checked = c.requires.checked;
    }

pub wave_of-requires-clause-many : goal.wave_of-requires-clause-many
wave_of-requires-clause-many g c = c.run_fed-ledger.ensures.wave.says.count ∙ c.in-Ok.ensures.count

pub returns-in_default : goal.returns-in_default
returns-in_default g c = record {
  keeps_ledger = ledger_same c.args.ledger;
  idle = search rules;
  keeps = stays_more c.args.ledger.header.shape (ledger_journals c.args.ledger) g.F.Deals.file;
  runs = search rules;
  quiet = search rules;
  checked = search rules;
  told = search rules;
  flies = flies_none c.args.ledger.header.shape g.F.Deals.file (ledger_journals c.args.ledger) (ledger_flights c.args.ledger);
  launches = launches_begin c.args.ledger.header.shape
      (IsSentPiece c.args.ledger.header.shape g.F.Deals.verdicts g.F.Deals.file (ledger_journals c.args.ledger) (ledger_journals c.args.ledger))
      (ledger_journals c.args.ledger) (ledger_flights c.args.ledger);
  still = search rules;
  grows = search rules;
  prepared = search rules;
  begun = file_unbegun c.args.ledger.header.shape g.F.Deals.verdicts g.F.Deals.file (ledger_journals c.args.ledger);
  fault = search rules;
  rests = λ lane inside. inl (inl (c.requires.idle lane inside));
  least = inl (ap (λ e. e.fault) c.no_memory.ensures, λ n. refl);
}

pub returns-in_default-wave_room : goal.returns-in_default-wave_room
returns-in_default-wave_room g c = record {
  keeps_ledger = ledger_same c.args.ledger;
  idle = search rules;
  keeps = stays_more c.args.ledger.header.shape (ledger_journals c.args.ledger) g.F.Deals.file;
  runs = search rules;
  quiet = search rules;
  checked = search rules;
  told = search rules;
  flies = flies_none c.args.ledger.header.shape g.F.Deals.file (ledger_journals c.args.ledger) (ledger_flights c.args.ledger);
  launches = launches_begin c.args.ledger.header.shape
      (IsSentPiece c.args.ledger.header.shape g.F.Deals.verdicts g.F.Deals.file (ledger_journals c.args.ledger) (ledger_journals c.args.ledger))
      (ledger_journals c.args.ledger) (ledger_flights c.args.ledger);
  still = search rules;
  grows = search rules;
  prepared = search rules;
  begun = file_unbegun c.args.ledger.header.shape g.F.Deals.verdicts g.F.Deals.file (ledger_journals c.args.ledger);
  fault = search rules;
  rests = λ lane inside. inl (inl (c.requires.idle lane inside));
  least = inl (ap (λ e. e.fault) c.no_memory-in_default-wave_room.ensures, λ n. refl);
}

pub returns-in-Some : goal.returns-in-Some
returns-in-Some g c =
    let are : AreLanesOf c.args.ledger.header.shape g.F.Deals.verdicts g.F.Deals.file c.in-Ok.works.items =
    are_of g.F.Deals.shape c.args.ledger.header.shape g.F.Deals.verdicts g.F.Deals.file c.in-Ok.works.items c.requires.shape c.in-Ok.ensures in
    record {
      keeps_ledger = c.run_fed-ledger.ensures.wave.keeps_ledger;
      idle = search rules;
      keeps = keeps_file c.args.ledger.header.shape g.F.Deals.verdicts g.F.Deals.file c.in-Ok.works.items
          (ledger_journals c.args.ledger) (ledger_journals c.run_fed-ledger.result.ledger) are c.run_fed-ledger.ensures.wave.says.keeps;
      runs = search rules;
      quiet = search rules;
      checked = search rules;
      told = search rules;
      flies = flies_file c.args.ledger.header.shape g.F.Deals.verdicts g.F.Deals.file c.in-Ok.works.items
          (ledger_journals c.args.ledger) (ledger_journals c.run_fed-ledger.result.ledger) (ledger_flights c.args.ledger)
          (ledger_flights c.run_fed-ledger.result.ledger)
          are c.run_fed-ledger.ensures.wave.says.flies;
      launches = let K = c.args.ledger.header.shape in
          let verdicts = g.F.Deals.verdicts in
          file_launches K verdicts g.F.Deals.file c.in-Ok.works.items c.run_fed-ledger.result.works.items (ledger_journals c.args.ledger)
          (ledger_journals c.run_fed-ledger.result.ledger)
          (ledger_flights c.args.ledger) (ledger_flights c.run_fed-ledger.result.ledger) (c.run_fed-ledger.ensures.wave.says.count ∙ are.count) are
          c.run_fed-ledger.ensures.wave.says.sent (c.run_fed-ledger.ensures.wave.says.launches c.requires.checked.0 c.requires.checked.1);
      still = c.run_fed-ledger.ensures.wave.checked c.requires.checked;
      grows = search rules;
      prepared = search rules;
      begun = λ some. let K = c.args.ledger.header.shape in
          let verdicts = g.F.Deals.verdicts in
          file_begun K verdicts g.F.Deals.file c.in-Ok.works.items c.run_fed-ledger.result.works.items (ledger_journals c.args.ledger)
          (ledger_journals c.run_fed-ledger.result.ledger)
          (c.run_fed-ledger.ensures.wave.says.count ∙ are.count) are c.run_fed-ledger.ensures.wave.says.sent c.run_fed-ledger.ensures.wave.says.begun;
      fault = let K = c.args.ledger.header.shape in
          let verdicts = g.F.Deals.verdicts in
          let first = subst (λ ls. FirstFaultIs ls (Some c.in-Some.fault)) c.deref.ensures.value
          (subst (λ o. FirstFaultIs c.deref.result.now o) c.in-Some.is c.first_fault.ensures) in
          file_cause K verdicts g.F.Deals.file c.in-Ok.works.items c.run_fed-ledger.result.works.items (ledger_journals c.args.ledger)
          (ledger_journals c.run_fed-ledger.result.ledger)
          (HaveFailed (ledger_opened c.run_fed-ledger.result.ledger) (ledger_faults c.run_fed-ledger.result.ledger))
          (MayHoldBytes (ledger_capacity c.run_fed-ledger.result.ledger))
          (c.run_fed-ledger.ensures.wave.says.count ∙ are.count) are c.run_fed-ledger.ensures.wave.says.sent
          (c.run_fed-ledger.ensures.wave.says.causes c.requires.checked.0 c.requires.checked.1 are.fresh) c.in-Some.fault first;
      rests = wave_rests c.args.ledger.header.shape c.run_fed-ledger.result.works.items (ledger_journals c.args.ledger)
          (ledger_journals c.run_fed-ledger.result.ledger)
          (HaveFailed (ledger_opened c.run_fed-ledger.result.ledger) (ledger_faults c.run_fed-ledger.result.ledger))
          (MayHoldBytes (ledger_capacity c.run_fed-ledger.result.ledger))
          (c.run_fed-ledger.ensures.wave.says.count ∙ are.count)
          (c.run_fed-ledger.ensures.wave.says.causes c.requires.checked.0 c.requires.checked.1 are.fresh)
          c.run_fed-ledger.ensures.wave.says.theirs;
      least = let K = c.args.ledger.header.shape in
          let verdicts = g.F.Deals.verdicts in
          let first = subst (λ ls. FirstFaultIs ls (Some c.in-Some.fault)) c.deref.ensures.value
          (subst (λ o. FirstFaultIs c.deref.result.now o) c.in-Some.is c.first_fault.ensures) in
          file_ends K verdicts g.F.Deals.file c.in-Ok.works.items c.run_fed-ledger.result.works.items (ledger_journals c.args.ledger)
          (ledger_journals c.run_fed-ledger.result.ledger)
          (HaveFailed (ledger_opened c.run_fed-ledger.result.ledger) (ledger_faults c.run_fed-ledger.result.ledger))
          (MayHoldBytes (ledger_capacity c.run_fed-ledger.result.ledger))
          (c.run_fed-ledger.ensures.wave.says.count ∙ are.count) are c.run_fed-ledger.ensures.wave.says.sent
          (c.run_fed-ledger.ensures.wave.says.causes c.requires.checked.0 c.requires.checked.1 are.fresh)
          c.run_fed-ledger.ensures.wave.says.theirs c.in-Some.fault first;
    }

pub returns-in-None : goal.returns-in-None
returns-in-None g c =
    let are : AreLanesOf c.args.ledger.header.shape g.F.Deals.verdicts g.F.Deals.file c.in-Ok.works.items =
    are_of g.F.Deals.shape c.args.ledger.header.shape g.F.Deals.verdicts g.F.Deals.file c.in-Ok.works.items c.requires.shape c.in-Ok.ensures in
    record {
      keeps_ledger = c.run_fed-ledger.ensures.wave.keeps_ledger;
      idle = let none = subst (λ o. FirstFaultIs c.deref.result.now o) c.in-None.is c.first_fault.ensures in
          c.run_fed-ledger.ensures.wave.says.idle (subst (λ ls. NoFault ls) c.deref.ensures.value none);
      keeps = keeps_file c.args.ledger.header.shape g.F.Deals.verdicts g.F.Deals.file c.in-Ok.works.items
          (ledger_journals c.args.ledger) (ledger_journals c.run_fed-ledger.result.ledger) are c.run_fed-ledger.ensures.wave.says.keeps;
      runs = let K = c.args.ledger.header.shape in
          let none = subst (λ o. FirstFaultIs c.deref.result.now o) c.in-None.is c.first_fault.ensures in
          runs_file K g.F.Deals.verdicts g.F.Deals.file c.in-Ok.works.items c.run_fed-ledger.result.works.items
          (ledger_journals c.args.ledger) (ledger_journals c.run_fed-ledger.result.ledger) are (subst (λ ls. NoFault ls) c.deref.ensures.value none)
          c.run_fed-ledger.ensures.wave.says.runs;
      quiet = let none = subst (λ o. FirstFaultIs c.deref.result.now o) c.in-None.is c.first_fault.ensures in
          c.run_fed-ledger.ensures.wave.quiet (subst (λ ls. NoFault ls) c.deref.ensures.value none);
      checked = subst (λ k. AreChecked k g.F.Deals.verdicts g.F.Deals.file c.wave_of.result.checked.items) c.requires.shape c.wave_of.ensures.checked;
      told = λ mint submissions kept. let K = c.args.ledger.header.shape in
          let verdicts = g.F.Deals.verdicts in
          let I = ledger_journals c.args.ledger in
          let J = ledger_journals c.run_fed-ledger.result.ledger in
          let none = subst (λ ls. NoFault ls) c.deref.ensures.value
          (subst (λ o. FirstFaultIs c.deref.result.now o) c.in-None.is c.first_fault.ensures) in
          record {
            checked = subst (λ k. AreChecked k verdicts g.F.Deals.file c.wave_of.result.checked.items) c.requires.shape c.wave_of.ensures.checked;
            count = ap (λ ls. length ls) c.wave_of.ensures.lanes
                ∙ (length-map c.run_fed-ledger.result.works.items came_of ∙ (c.run_fed-ledger.ensures.wave.says.count ∙ are.count));
            runs = runs_file K verdicts g.F.Deals.file c.in-Ok.works.items c.run_fed-ledger.result.works.items I J are none
                c.run_fed-ledger.ensures.wave.says.runs mint submissions kept;
            tell = subst (λ ls. AllTellNew K I J ls) (sym c.wave_of.ensures.lanes)
                (of_wave K verdicts g.F.Deals.file c.in-Ok.works.items c.run_fed-ledger.result.works.items I
                (AreLanesFresh c.in-Ok.works.items → AllTellNew K I J (map came_of c.run_fed-ledger.result.works.items))
                are none c.run_fed-ledger.ensures.wave.says.told mint submissions kept are.untold);
            looked = subst (λ w. IfSaw w (AreLooks K J)) (sym c.wave_of.ensures.looks)
                (subst (λ k. IfSaw c.run_fed-ledger.result.looks (AreLooks k J)) c.run_fed-ledger.ensures.wave.keeps_ledger.shape_same
                c.run_fed-ledger.ensures.looks);
          };
      flies = flies_file c.args.ledger.header.shape g.F.Deals.verdicts g.F.Deals.file c.in-Ok.works.items
          (ledger_journals c.args.ledger) (ledger_journals c.run_fed-ledger.result.ledger) (ledger_flights c.args.ledger)
          (ledger_flights c.run_fed-ledger.result.ledger)
          are c.run_fed-ledger.ensures.wave.says.flies;
      launches = let K = c.args.ledger.header.shape in
          let verdicts = g.F.Deals.verdicts in
          file_launches K verdicts g.F.Deals.file c.in-Ok.works.items c.run_fed-ledger.result.works.items (ledger_journals c.args.ledger)
          (ledger_journals c.run_fed-ledger.result.ledger)
          (ledger_flights c.args.ledger) (ledger_flights c.run_fed-ledger.result.ledger) (c.run_fed-ledger.ensures.wave.says.count ∙ are.count) are
          c.run_fed-ledger.ensures.wave.says.sent (c.run_fed-ledger.ensures.wave.says.launches c.requires.checked.0 c.requires.checked.1);
      still = c.run_fed-ledger.ensures.wave.checked c.requires.checked;
      grows = search rules;
      prepared = let K = c.args.ledger.header.shape in
          let verdicts = g.F.Deals.verdicts in
          let none = subst (λ ls. NoFault ls) c.deref.ensures.value
          (subst (λ o. FirstFaultIs c.deref.result.now o) c.in-None.is c.first_fault.ensures) in
          file_done K verdicts g.F.Deals.file c.in-Ok.works.items c.run_fed-ledger.result.works.items (ledger_journals c.args.ledger)
          (ledger_journals c.run_fed-ledger.result.ledger)
          (c.run_fed-ledger.ensures.wave.says.count ∙ are.count) are c.run_fed-ledger.ensures.wave.says.sent
          (c.run_fed-ledger.ensures.wave.says.prepared none);
      begun = λ some. let K = c.args.ledger.header.shape in
          let verdicts = g.F.Deals.verdicts in
          file_begun K verdicts g.F.Deals.file c.in-Ok.works.items c.run_fed-ledger.result.works.items (ledger_journals c.args.ledger)
          (ledger_journals c.run_fed-ledger.result.ledger)
          (c.run_fed-ledger.ensures.wave.says.count ∙ are.count) are c.run_fed-ledger.ensures.wave.says.sent c.run_fed-ledger.ensures.wave.says.begun;
      fault = search rules;
      rests = wave_rests c.args.ledger.header.shape c.run_fed-ledger.result.works.items (ledger_journals c.args.ledger)
          (ledger_journals c.run_fed-ledger.result.ledger)
          (HaveFailed (ledger_opened c.run_fed-ledger.result.ledger) (ledger_faults c.run_fed-ledger.result.ledger))
          (MayHoldBytes (ledger_capacity c.run_fed-ledger.result.ledger))
          (c.run_fed-ledger.ensures.wave.says.count ∙ are.count)
          (c.run_fed-ledger.ensures.wave.says.causes c.requires.checked.0 c.requires.checked.1 are.fresh)
          c.run_fed-ledger.ensures.wave.says.theirs;
      least = search rules;
    }

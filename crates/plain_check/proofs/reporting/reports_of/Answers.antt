use Rattle.std.proofs.Common.{◌≡◌, [], ◌∷◌, ◌++◌, length, Some, sym, ap, ◌∙◌, subst, arith}
use Rattle.std.specs.Prelude.{slice_get, take}
use Rattle.std.proofs.lemmas.Grind.{common_steps}
use Rattle.std.proofs.lemmas.Option.{slice_get-get_or}
use Rattle.plain_check.specs.Journals.{journals_in}
use Rattle.plain_check.specs.Summaries.{AreTold, AreAllTold}
use Rattle.plain_check.proofs.Submitted.{EachFileTold, pushed_is, one_file_more, all_files_told}
use Rattle.plain_check.proofs.reporting.reports_of.Goals as goal

pub files-preserved : goal.files-preserved
files-preserved g c =
    let K = c.args.shape.now in
    let verdicts = g.V.Verifier.verdict_of c.args.verifier.now in
    let E = journals_in c.args.entry.now in
    let X = journals_in c.args.exit.now in
    let files = c.args.files.now in
    let own = c.index-files-k.result in
    let here : slice_get files c.files.k ≡ Some own = slice_get-get_or files c.files.k own c.files-test.true ∙ ap Some (sym c.index-files-k.is) in
    let told : AreTold K verdicts E X (take c.files.k files) own c.in_ok-reports.reports =
    subst (λ f. AreTold K verdicts E X (take c.files.k files) f c.in_ok-reports.reports) c.as_slice.ensures
    (subst (λ e. AreTold K verdicts E X e c.as_slice.result.now c.in_ok-reports.reports) c.split_at.ensures.front c.in_ok-reports.ensures) in
    let pushed : c.push.new.self.items ≡ c.files.all.items ++ c.in_ok-reports.reports ∷ [] =
    pushed_is c.push.result c.in_ok-ok.field-0 _ _ c.files.all.items c.push.ensures.items c.in_ok-ok.ensures.value in
    let so = c.files.invariant.count in
    record {
      count = grind (arith, common_steps, pushed, so);
      told = subst (λ l. EachFileTold K verdicts E X files l) (sym pushed)
          (one_file_more K verdicts E X files c.files.all.items c.files.k own c.in_ok-reports.reports so here told c.files.invariant.told);
    }

pub returns : goal.returns
returns g c =
    let K = c.args.shape.now in
    let verdicts = g.V.Verifier.verdict_of c.args.verifier.now in
    let E = journals_in c.args.entry.now in
    let X = journals_in c.args.exit.now in
    let end : c.files.k ≡ length c.args.files.now = omega (arith, c.files-test.false, c.files.auto.k-end) in
    subst (λ l. AreAllTold K verdicts E X c.args.files.now l) (sym c.from_vec.ensures)
    (all_files_told K verdicts E X c.args.files.now c.files.all.items c.files.k c.files.invariant.count end c.files.invariant.told)

use Rattle.std.proofs.Common.{◌≡◌, ◌<◌, ◌+◌, ◌==◌, ℕ, zero, suc, Bool, true, false, inl, inr, length, sym, ◌∙◌, subst, arith}
use Rattle.std.proofs.lemmas.Bool.{cases_lt}
use Rattle.audit.specs.Rows.{read, journal_in}
use Rattle.audit.proofs.Places.{journal_read}
use Rattle.cut_rows.proofs.cutting.are_full.Goals as goal

some_of : (n : ℕ) → (n == 0) ≡ false → 0 < n
some_of zero e = absurd (let z : true ≡ false = e in cc)
some_of (suc n) e = omega arith

pub lists-preserved : goal.lists-preserved
lists-preserved c = λ n lt. elim (cases_lt n c.lists.n) [
  | inl old ↦ c.lists.invariant n old
  | inr le ↦
      let here : c.lists.n ≡ n = omega (arith, lt, le) in
      let some = some_of (length c.index-lists-n.result.now) (sym c.is_empty.ensures ∙ c.if-is_empty.false) in
      subst (λ m. 0 < length (journal_in (read c.args.lists.now) m)) here
      (subst (λ l. 0 < length l) (sym (journal_read c.args.lists.now c.lists.n c.index-lists-n.result c.lists-test.true c.index-lists-n.is)) some)
]

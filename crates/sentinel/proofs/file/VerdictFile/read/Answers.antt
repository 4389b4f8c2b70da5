use Rattle.std.proofs.Common.{rules, arith, ◌∷◌, sym, ◌∙◌, ap, length, length-append}
use Rattle.sentinel.specs.Lines.{Line}
use Rattle.sentinel.proofs.KeyLemmas.{found_by, put_by}
use Rattle.sentinel.proofs.ReadLemmas.{read_more, told_form, told_repeated, open_end_told}
use Rattle.sentinel.proofs.file.VerdictFile.read.Goals as goal

pub returns-in_default-read_line : goal.returns-in_default-read_line
returns-in_default-read_line c =
    rw c.bad.ensures (told_form c.args.more c.args.bytes.now c.lines.rest.now c.in-Some.text.now c.in-Some.behind.now c.lines.line
    c.lines.words.entries
    c.lines.invariant.read c.in-Some.ensures.1 c.in-Some.ensures.0 c.in_default-read_line.ensures)

pub returns-in-Ok-Some : goal.returns-in-Ok-Some
returns-in-Ok-Some c =
    let key = c.in-Some-read_line.key in
    let l : Line = record { tx = key.tx; index = key.index; good = c.in-Some-read_line.good } in
    let found = sym (found_by key c.lines.words.entries) ∙ sym c.in-Ok-Some.ensures.old ∙ c.in-Ok-Some.field-0-is in
    rw c.bad-in-Ok-Some.ensures (told_repeated c.args.more c.args.bytes.now c.lines.rest.now c.in-Some.text.now c.in-Some.behind.now c.lines.line
    c.lines.words.entries
    l c.in-Ok-Some.field-0-0 c.lines.invariant.read c.in-Some.ensures.1 c.in-Some-read_line.ensures.0 c.in-Some-read_line.ensures.1 found)

pub lines-preserved : goal.lines-preserved
lines-preserved c =
    let key = c.in-Some-read_line.key in
    let good = c.in-Some-read_line.good in
    let absent = sym (found_by key c.lines.words.entries) ∙ sym c.in-Ok-None.ensures.old ∙ c.in-Ok-None.field-0-is in
    record {
      read = read_more c.args.bytes.now c.lines.rest.now c.in-Some.text.now c.in-Some.behind.now c.lines.line c.lines.words.entries
          c.insert.new.self.entries
          key good c.lines.invariant.read c.in-Some.ensures.1 c.in-Some-read_line.ensures.0 c.in-Some-read_line.ensures.1 absent
          (λ tx index. put_by key (record { tx = tx; index = index }) good c.lines.words.entries c.insert.new.self.entries
          (c.in-Ok-None.ensures.updates.0 (record { tx = tx; index = index })));
      fits =
          let size = ap length c.in-Some.ensures.1 ∙ length-append c.in-Some.text.now (10 ∷ c.in-Some.behind.now) in
          omega arith;
    }

pub returns-then-not-is_empty : goal.returns-then-not-is_empty
returns-then-not-is_empty c =
    rw (c.bad-then-not-is_empty.ensures, c.if-more.false)
    (open_end_told c.args.bytes.now c.lines.rest.now c.lines.line c.lines.words.entries c.lines.invariant.read c.in_default.ensures
    (search rules))

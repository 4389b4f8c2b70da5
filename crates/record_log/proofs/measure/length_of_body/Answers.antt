use Rattle.std.proofs.Common.{arith}
use Rattle.byte_fields.specs.Records.{compact_bytes, answered_bytes, outcome_bytes, decision_bytes}
use Rattle.record_log.proofs.Lengths.{batch_head}
use Rattle.record_log.proofs.Measures.{listed_long, genesis_long, start_long}
use Rattle.record_log.proofs.measure.length_of_body.Goals as goal

pub returns-in-Genesis : goal.returns-in-Genesis
returns-in-Genesis c = rw c.in-Genesis.is (omega (
  arith,
  genesis_long c.in-Genesis.header c.in-Genesis.hashes,
  c.length_of_header.ensures,
  c.length_of_list.ensures,
  c.saturating_add.ensures,
  c.saturating_add-in-Genesis.ensures,
))

pub returns-in-Start : goal.returns-in-Start
returns-in-Start c = rw c.in-Start.is (omega (
  arith,
  start_long c.in-Start.header,
  c.length_of_header-in-Start.ensures,
  c.saturating_add-in-Start.ensures,
))

pub returns-in-Lock : goal.returns-in-Lock
returns-in-Lock c = rw c.in-Lock.is (omega (
  arith,
  listed_long answered_bytes 2 c.in-Lock.stamp c.in-Lock.batch c.in-Lock.entries,
  c.length_of_list-in-Lock.ensures,
  c.saturating_add-in-Lock.ensures,
))

pub returns-in-Finish : goal.returns-in-Finish
returns-in-Finish c = rw c.in-Finish.is (omega (
  arith,
  listed_long decision_bytes 3 c.in-Finish.stamp c.in-Finish.batch c.in-Finish.decisions,
  c.length_of_list-in-Finish.ensures,
  c.saturating_add-in-Finish.ensures,
))

pub returns-in-Prepare : goal.returns-in-Prepare
returns-in-Prepare c = rw c.in-Prepare.is (omega (
  arith,
  listed_long compact_bytes 6 c.in-Prepare.stamp c.in-Prepare.batch c.in-Prepare.txs,
  c.length_of_list-in-Prepare.ensures,
  c.saturating_add-in-Prepare.ensures,
))

pub returns-in-Commit : goal.returns-in-Commit
returns-in-Commit c = rw c.in-Commit.is (omega (
  arith,
  listed_long outcome_bytes 7 c.in-Commit.stamp c.in-Commit.batch c.in-Commit.outcomes,
  c.length_of_list-in-Commit.ensures,
  c.saturating_add-in-Commit.ensures,
))

pub returns-in-Forget : goal.returns-in-Forget
returns-in-Forget c = rw c.in-Forget.is (omega (arith, batch_head 4 c.in-Forget.stamp c.in-Forget.batch))

pub returns-in-Discard : goal.returns-in-Discard
returns-in-Discard c = rw c.in-Discard.is (omega (arith, batch_head 8 c.in-Discard.stamp c.in-Discard.batch))

pub returns-in-Done : goal.returns-in-Done
returns-in-Done c = rw c.in-Done.is (omega (arith, batch_head 9 c.in-Done.stamp c.in-Done.batch))

use Rattle.std.proofs.Common.{arith, sym, map}
use Rattle.rr_syntax.specs.Items.{spell_connection}
use Rattle.rr_syntax.specs.View.{plain_connection}
use Rattle.rr_syntax.proofs.ItemLengths.{each_len, comma_len, each_sum, separated_len}
use Rattle.rr_syntax.proofs.Sums.{sum_within_at, sum_next_at, sum_full}
use Rattle.rr_syntax.proofs.spelling.named_len.Goals as goal

pub loop-connection-init : goal.loop-connection-init
loop-connection-init c = sym (each_sum spell_connection plain_connection).none

pub connection_len-requires : goal.connection_len-requires
connection_len-requires c = grind (arith, sum_within_at (each_len spell_connection plain_connection) (comma_len spell_connection plain_connection) (each_sum spell_connection plain_connection) c.args.list.now c.loop-connection.connection-index c.loop-connection-test.true)

pub overflow_add-total : goal.overflow_add-total
overflow_add-total c = grind (arith, sum_within_at (each_len spell_connection plain_connection) (comma_len spell_connection plain_connection) (each_sum spell_connection plain_connection) c.args.list.now c.loop-connection.connection-index c.loop-connection-test.true)

pub overflow_add-total-in-loop-connection : goal.overflow_add-total-in-loop-connection
overflow_add-total-in-loop-connection c = grind (arith, sum_within_at (each_len spell_connection plain_connection) (comma_len spell_connection plain_connection) (each_sum spell_connection plain_connection) c.args.list.now c.loop-connection.connection-index c.loop-connection-test.true)

pub loop-connection-preserved : goal.loop-connection-preserved
loop-connection-preserved c = grind (arith, sum_next_at (each_len spell_connection plain_connection) (comma_len spell_connection plain_connection) (each_sum spell_connection plain_connection) c.args.list.now c.loop-connection.connection-index c.loop-connection-test.true)

pub returns : goal.returns
returns c = omega (arith, sum_full (each_len spell_connection plain_connection) c.args.list.now c.loop-connection.connection-index c.loop-connection-test.false, separated_len spell_connection (map plain_connection c.args.list.now))

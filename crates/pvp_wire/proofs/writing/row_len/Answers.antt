use Rattle.std.proofs.Common.{rules, arith}
use Rattle.pvp_wire.specs.Layout.{command}
use Rattle.pvp_wire.proofs.Layouts.{command_short}
use Rattle.pvp_wire.proofs.Lengths.{length-row}
use Rattle.pvp_wire.proofs.writing.row_len.Goals as goal

pub overflow_add-result : goal.overflow_add-result
overflow_add-result c =
    let fits : command.Fits c.args.row.cmd = search rules in
    omega (arith, command_short c.args.row.cmd fits, c.command_len.ensures)

pub returns-clause-exact : goal.returns-clause-exact
returns-clause-exact c = omega (arith, length-row c.args.row, c.command_len.ensures)

pub returns-clause-few : goal.returns-clause-few
returns-clause-few c =
    let fits : command.Fits c.args.row.cmd = search rules in
    omega (arith, length-row c.args.row, command_short c.args.row.cmd fits, c.command_len.ensures)

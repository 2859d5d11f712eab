use Rattle.std.proofs.Common.{arith}
use Rattle.cil_core.specs.cil_console_members.Lines.{line_with}
use Rattle.cil_core.proofs.lemmas.cil_console_members.ReadLemmas.{line_read}
use Rattle.cil_core.proofs.cil_console_members.lines.read_line.Goals as goal

pub returns : goal.returns
returns c =
    line_read c.gives_text.result c.args.st.now c.gives_text.new.st c.args.args.now c.in_ok-units.units (line_with c.in_ok-line.line c.line_of.new.input)
    (omega arith) (omega (arith, c.len.ensures)) c.in_ok-line.ensures (c.in_ok-units.ensures c.line_of.new.input) c.gives_text.ensures
